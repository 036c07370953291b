-- The first entry of the queue, and the drivers that are due.
use Rattle.std.proofs.Common.{◌≡◌, ℕ, zero, suc, ◌+◌, ◌<◌, ◌≤◌, true, false, cond, List, [], ◌∷◌, ◌++◌, length, get_or, set, replicate, map, min, Option, Some, None, inl, inr, refl, ap, subst, sym, ◌∙◌, zero-add, arith}
use Rattle.std.specs.Prelude.{All, find, is_some, slice_get}
use Rattle.std.specs.List.{flat_map}
use Rattle.std.specs.Ordering.{is_gt}
use Rattle.std.specs.Map.{keys_of}
use Rattle.std.proofs.lemmas.Bool.{cases_Bool, cases_lt, cases_eq, eq-eqb, ne_eqb}
use Rattle.std.proofs.lemmas.List.{length-set, length-replicate, get_or-replicate, get_or_past}
use Rattle.std.proofs.lemmas.List.Elements.{All-head, All-tail}
use Rattle.vital_logic.specs.declared.level.Level.{Level}
use Rattle.vital_agenda.specs.declared.stay.Stay.TheVariants.{After}
use Rattle.vital_agenda.specs.declared.transaction.Transaction.{Transaction}
use Rattle.vital_agenda.specs.Driver.{Driver, RisesFrom, AllRise, is_at, sooner, least, pending_times, next_time, currents, advance}
use Rattle.vital_agenda.specs.Agendas.{changed, idle_driver, is_due, due_from, IsFirstDue}
use Rattle.vital_agenda.specs.Queues.{Keyed, only_of, chain_of, latest, pending_of, rising, transaction_of, last_staying, with_pending, with_current, NoneLess, IsFirst}
use Rattle.vital_agenda.specs.OneQueue.{IsOneQueue, last_of, drivers_from}
use Rattle.vital_agenda.proofs.Keys.{Key, key_cmp, key_not_greater}
use Rattle.vital_agenda.proofs.Chains.{AllAfter, after_append, only_mine, only_others}
use Rattle.vital_agenda.proofs.Contents.{driver_is_there}
use Rattle.vital_agenda.proofs.Rising.{none_at, idle_in_cycle, not_due_again, due_advances}

-- ---- the first key

pub none_less : (key : Key) (es : List Keyed) → All (λ k. is_gt (key_cmp key k) ≡ false) (keys_of es) → NoneLess key es
none_less key [] h = tt
none_less key (e ∷ es) h =
    (key_not_greater key e.0 (All-head (λ (k : Key). is_gt (key_cmp key k) ≡ false) e.0 (keys_of es) h), none_less key es (All-tail (λ (k : Key). is_gt (key_cmp key k) ≡ false) e.0 (keys_of es) h))

-- entries at a time or after it
abbrev pub AllFrom : ℕ → List Keyed → Type 0
AllFrom time [] = Unit {0}
AllFrom time (e ∷ es) = (time ≤ e.0.0) × AllFrom time es

from_append : (time : ℕ) (xs ys : List Keyed) → AllFrom time xs → AllFrom time ys → AllFrom time (xs ++ ys)
from_append time [] ys h k = k
from_append time (x ∷ xs) ys h k = (h.0, from_append time xs ys h.1 k)

-- no chain has an entry before the first one
pub chains_from : (key : Key) (driver : ℕ) (es : List Keyed) → NoneLess key es → AllFrom key.0 (chain_of driver es)
chains_from key driver [] h = tt
chains_from key driver (e ∷ es) h = from_append key.0 (chain_of driver es) (only_of driver e) (chains_from key driver es h.1) (elim (cases_eq e.0.1 driver) [
  | inl same ↦ subst (AllFrom key.0) (sym (only_mine driver e same)) (elim h.0 [ inl lt ↦ (omega arith, tt) | inr both ↦ (omega arith, tt) ])
  | inr other ↦ subst (AllFrom key.0) (sym (only_others driver e other)) tt
])

-- a driver before that of the first one has entries after its time alone
pub earlier_drivers_after : (key : Key) (driver : ℕ) (es : List Keyed) → NoneLess key es → driver < key.1 → AllAfter key.0 (chain_of driver es)
earlier_drivers_after key driver [] h lt = tt
earlier_drivers_after key driver (e ∷ es) h lt = after_append key.0 (chain_of driver es) (only_of driver e) (earlier_drivers_after key driver es h.1 lt) (elim (cases_eq e.0.1 driver) [
  | inl same ↦ subst (AllAfter key.0) (sym (only_mine driver e same)) (elim h.0 [ inl less ↦ (less, tt) | inr both ↦ absurd (omega arith) ])
  | inr other ↦ subst (AllAfter key.0) (sym (only_others driver e other)) tt
])

-- ---- what is pending of a chain

-- the last entry of a chain has the first transaction
pub rising_more : (xs : List Keyed) (e : Keyed) → rising (xs ++ e ∷ []) ≡ transaction_of e ∷ rising xs
rising_more [] e = refl
rising_more (x ∷ xs) e = ap (λ (ys : List Transaction). ys ++ transaction_of x ∷ []) (rising_more xs e)

find_append : (time : ℕ) (xs : List Transaction) (x : Transaction) → find (is_at time) xs ≡ None → (x.time ≡ time → ⊥) → find (is_at time) (xs ++ x ∷ []) ≡ None
find_append time [] x h other = rw (ne_eqb x.time time other) refl
find_append time (y ∷ xs) x h other = elim (cases_eq y.time time) [
  | inl same ↦ let no : Some y ≡ None = rw (eq-eqb y.time time same) at h in cc
  | inr apart ↦ rw (ne_eqb y.time time apart) (find_append time xs x (rw (ne_eqb y.time time apart) at h) other)
]

pub none_found_after : (time : ℕ) (chain : List Keyed) → AllAfter time chain → find (is_at time) (rising chain) ≡ None
none_found_after time [] h = refl
none_found_after time (e ∷ earlier) h = find_append time (rising earlier) (transaction_of e) (none_found_after time earlier h.1) (λ same. omega (arith, h.0))

-- the first transaction isn't before a time
abbrev HeadFrom : ℕ → List Transaction → Type 0
HeadFrom time [] = Unit {0}
HeadFrom time (x ∷ xs) = time ≤ x.time

head_append : (time : ℕ) (xs : List Transaction) (x : Transaction) → HeadFrom time xs → time ≤ x.time → HeadFrom time (xs ++ x ∷ [])
head_append time [] x h le = le
head_append time (y ∷ xs) x h le = h

head_from : (time : ℕ) (chain : List Keyed) → AllFrom time chain → HeadFrom time (rising chain)
head_from time [] h = tt
head_from time (e ∷ earlier) h = head_append time (rising earlier) (transaction_of e) (head_from time earlier h.1) h.0

rises_from_head : (low time : ℕ) (xs : List Transaction) → RisesFrom low xs → HeadFrom time xs → RisesFrom time xs
rises_from_head low time [] h k = tt
rises_from_head low time (x ∷ xs) h k = (k, h.1)

-- where no entry of a chain comes before a time, its transactions rise from there
pub rises_from : (low time : ℕ) (chain : List Keyed) → RisesFrom low (rising chain) → AllFrom time chain → RisesFrom time (rising chain)
rises_from low time chain h all = rises_from_head low time (rising chain) h (head_from time chain all)

-- ---- the first driver that is due

first_split : (e : Keyed) (es : List Keyed) → slice_get es 0 ≡ Some e → (rest : List Keyed) × (es ≡ e ∷ rest)
first_split e [] h = cc
first_split e (x ∷ es) h = let same : x ≡ e = cc in (es, ap (λ (y : Keyed). y ∷ es) same)

-- the chain of the first entry's driver ends with it
chain_of_first : (e : Keyed) (rest : List Keyed) → chain_of e.0.1 (e ∷ rest) ≡ chain_of e.0.1 rest ++ e ∷ []
chain_of_first e rest = ap (λ (ys : List Keyed). chain_of e.0.1 rest ++ ys) (only_mine e.0.1 e refl)

pub first_is_pending : (e : Keyed) (es : List Keyed) → slice_get es 0 ≡ Some e → (later : List Transaction) × (pending_of e.0.1 es ≡ transaction_of e ∷ later)
first_is_pending e es h =
    let split = first_split e es h in
    (rising (chain_of e.0.1 split.0), ap (pending_of e.0.1) split.1 ∙ ap rising (chain_of_first e split.0) ∙ rising_more (chain_of e.0.1 split.0) e)

some_latest : (xs : List Keyed) (e : Keyed) → (time : ℕ) × (latest (xs ++ e ∷ []) ≡ Some time)
some_latest [] e = (e.0.0, refl)
some_latest (x ∷ xs) e = (x.0.0, refl)

pub first_key : (e : Keyed) (es : List Keyed) → slice_get es 0 ≡ Some e → slice_get (keys_of es) 0 ≡ Some e.0
first_key e [] h = cc
first_key e (x ∷ es) h = let same : x ≡ e = cc in ap (λ (y : Keyed). Some y.0) same

pub first_is_there : (now : ℕ) (e : Keyed) (es : List Keyed) (currents : List Level) (lasts : List (Option ℕ)) → IsOneQueue now es currents lasts → slice_get es 0 ≡ Some e → e.0.1 < length currents
first_is_there now e es currents lasts h first =
    let split = first_split e es first in
    let last = some_latest (chain_of e.0.1 split.0) e in
    let there = driver_is_there now e.0.1 es currents lasts last.0 h (ap (λ (c : List Keyed). latest (chain_of e.0.1 c)) split.1 ∙ ap latest (chain_of_first e split.0) ∙ last.1) in
    omega (arith, there, h.one_each)

found_first : (time : ℕ) (e : Keyed) (es : List Keyed) → slice_get es 0 ≡ Some e → e.0.0 ≡ time → find (is_at time) (pending_of e.0.1 es) ≡ Some (record { time = time; value = e.1.value })
found_first time e es first at_time =
    let pending = first_is_pending e es first in
    let here : find (is_at time) (transaction_of e ∷ pending.0) ≡ Some (transaction_of e) = rw (eq-eqb e.0.0 time at_time) refl in
    ap (find (is_at time)) pending.1 ∙ here ∙ ap (λ (t : ℕ). Some (let x : Transaction = record { time = t; value = e.1.value } in x)) at_time

due_at_number : (i number time : ℕ) (e : Keyed) (currents : List Level) (es : List Keyed) → number + i ≡ e.0.1 → i < length currents → slice_get es 0 ≡ Some e → NoneLess e.0 es → e.0.0 ≡ time
    → IsFirstDue time i e.1.value (drivers_from number currents es)
due_at_number i number time e [] es at_driver lt first none at_time = absurd (omega arith)
due_at_number zero number time e (c ∷ currents) es at_driver lt first none at_time =
    let same : e.0.1 ≡ number = omega arith in
    ap (λ (d : ℕ). find (is_at time) (pending_of d es)) (sym same) ∙ found_first time e es first at_time
due_at_number (suc i) number time e (c ∷ currents) es at_driver lt first none at_time =
    let after : AllAfter time (chain_of number es) = subst (λ (t : ℕ). AllAfter t (chain_of number es)) at_time (earlier_drivers_after e.0 number es none (omega arith)) in
    (ap is_some (none_found_after time (chain_of number es) after), due_at_number i (suc number) time e currents es (omega arith) (omega arith) first none at_time)

pub first_due_is : (now time : ℕ) (e : Keyed) (es : List Keyed) (currents : List Level) (lasts : List (Option ℕ)) → IsOneQueue now es currents lasts → IsFirst (Some e) es → e.0.0 ≡ time
    → IsFirstDue time e.0.1 e.1.value (drivers_from 0 currents es)
first_due_is now time e es currents lasts h first at_time =
    due_at_number e.0.1 0 time e currents es (zero-add e.0.1) (first_is_there now e es currents lasts h first.0) first.0 first.1 at_time

-- ---- none is due

none_due_from : (number time : ℕ) (currents : List Level) (es : List Keyed) → ((driver : ℕ) → AllAfter time (chain_of driver es)) → due_from number time (drivers_from number currents es) ≡ []
none_due_from number time [] es h = refl
none_due_from number time (c ∷ currents) es h =
    let none : is_due time (record { current = c; pending = pending_of number es }) ≡ false = ap is_some (none_found_after time (chain_of number es) (h number)) in
    rw none (none_due_from (suc number) time currents es h)

pub none_due_empty : (time : ℕ) (currents : List Level) (es : List Keyed) → es ≡ [] → due_from 0 time (drivers_from 0 currents es) ≡ []
none_due_empty time currents es empty = none_due_from 0 time currents es (λ driver. subst (λ (c : List Keyed). AllAfter time (chain_of driver c)) (sym empty) tt)

all_after_from : (low high : ℕ) (xs : List Keyed) → low < high → AllFrom high xs → AllAfter low xs
all_after_from low high [] lt h = tt
all_after_from low high (x ∷ xs) lt h = (omega (arith, h.0), all_after_from low high xs lt h.1)

-- the first entry isn't before the present
pub first_not_past : (now : ℕ) (e : Keyed) (es : List Keyed) (currents : List Level) (lasts : List (Option ℕ)) → IsOneQueue now es currents lasts → slice_get es 0 ≡ Some e → now ≤ e.0.0
first_not_past now e es currents lasts h first =
    let pending = first_is_pending e es first in
    let rises : RisesFrom now (transaction_of e ∷ pending.0) = subst (RisesFrom now) pending.1 (h.not_past e.0.1) in
    rises.0

pub none_due_later : (now : ℕ) (e : Keyed) (es : List Keyed) (currents : List Level) (lasts : List (Option ℕ)) → IsOneQueue now es currents lasts → IsFirst (Some e) es → (e.0.0 ≡ now → ⊥)
    → due_from 0 now (drivers_from 0 currents es) ≡ []
none_due_later now e es currents lasts h first later =
    let not_past = first_not_past now e es currents lasts h first.0 in
    let lt : now < e.0.0 = omega (arith, not_past, later) in
    none_due_from 0 now currents es (λ driver. all_after_from now e.0.0 (chain_of driver es) lt (chains_from e.0 driver es first.1))

-- ---- the next time

-- a time that may be missing isn't before another
abbrev pub NotSooner : ℕ → Option ℕ → Type 0
NotSooner time None = Unit {0}
NotSooner time (Some other) = time ≤ other

first_is_least : (low : ℕ) (x : Transaction) (xs : List Transaction) → RisesFrom low (x ∷ xs) → least (map (λ y. y.time) (x ∷ xs)) ≡ Some x.time
first_is_least low x [] h = refl
first_is_least low x (y ∷ ys) h =
    let le : x.time ≤ y.time = omega (arith, h.1.0) in
    let min_is : min x.time y.time ≡ x.time = omega arith in
    ap (sooner (Some x.time)) (first_is_least (x.time + 1) y ys h.1) ∙ ap (λ (n : ℕ). Some n) min_is

sooner_assoc : (x : ℕ) (a b : Option ℕ) → sooner (Some x) (sooner a b) ≡ sooner (sooner (Some x) a) b
sooner_assoc x None None = refl
sooner_assoc x None (Some b) = refl
sooner_assoc x (Some a) None = refl
sooner_assoc x (Some a) (Some b) = ap (λ (n : ℕ). Some n) (min_assoc x a b)
  where
    min_assoc : (x a b : ℕ) → min x (min a b) ≡ min (min x a) b
    min_assoc x a b = omega arith

least-append : (xs ys : List ℕ) → least (xs ++ ys) ≡ sooner (least xs) (least ys)
least-append [] ys = refl
least-append (x ∷ xs) ys = ap (sooner (Some x)) (least-append xs ys) ∙ sooner_assoc x (least xs) (least ys)

next_of_more : (d : Driver) (ds : List Driver) → next_time (d ∷ ds) ≡ sooner (least (pending_times d)) (next_time ds)
next_of_more d ds = least-append (pending_times d) (flat_map pending_times ds)

not_sooner_than : (time : ℕ) (xs : List Transaction) → RisesFrom time xs → NotSooner time (least (map (λ x. x.time) xs))
not_sooner_than time [] h = tt
not_sooner_than time (x ∷ xs) h = subst (NotSooner time) (sym (first_is_least time x xs h)) h.0

not_sooner_both : (time : ℕ) (a b : Option ℕ) → NotSooner time a → NotSooner time b → NotSooner time (sooner a b)
not_sooner_both time None b h k = k
not_sooner_both time (Some a) None h k = h
not_sooner_both time (Some a) (Some b) h k = omega arith

none_sooner : (time : ℕ) (ds : List Driver) → AllRise time ds → NotSooner time (next_time ds)
none_sooner time [] h = tt
none_sooner time (d ∷ ds) h = subst (NotSooner time) (sym (next_of_more d ds)) (not_sooner_both time (least (pending_times d)) (next_time ds) (not_sooner_than time d.pending h.0) (none_sooner time ds h.1))

sooner_left : (time : ℕ) (o : Option ℕ) → NotSooner time o → sooner (Some time) o ≡ Some time
sooner_left time None h = refl
sooner_left time (Some other) h = let min_is : min time other ≡ time = omega arith in ap (λ (n : ℕ). Some n) min_is

sooner_right : (time : ℕ) (o : Option ℕ) → NotSooner time o → sooner o (Some time) ≡ Some time
sooner_right time None h = refl
sooner_right time (Some other) h = let min_is : min other time ≡ time = omega arith in ap (λ (n : ℕ). Some n) min_is

-- where one is found at the time that all rise from, it is the first
found_is_least : (time : ℕ) (x : Transaction) (xs : List Transaction) → RisesFrom time xs → find (is_at time) xs ≡ Some x → least (map (λ y. y.time) xs) ≡ Some time
found_is_least time x [] h found = cc
found_is_least time x (y ∷ ys) h found = elim (cases_eq y.time time) [
  | inl same ↦ first_is_least time y ys h ∙ ap (λ (n : ℕ). Some n) same
  | inr other ↦
      let later = none_at time (y.time + 1) ys (omega (arith, h.0)) h.1 in
      let no : None ≡ Some x = sym later.none ∙ (rw (ne_eqb y.time time other) at found) in cc
]

pub due_is_next : (time number : ℕ) (value : Level) (ds : List Driver) → AllRise time ds → IsFirstDue time number value ds → next_time ds ≡ Some time
due_is_next time number value [] rise h = absurd h
due_is_next time zero value (d ∷ ds) rise h =
    next_of_more d ds ∙ ap (λ (o : Option ℕ). sooner o (next_time ds)) (found_is_least time (record { time = time; value = value }) d.pending rise.0 h) ∙ sooner_left time (next_time ds) (none_sooner time ds rise.1)
due_is_next time (suc number) value (d ∷ ds) rise h =
    next_of_more d ds ∙ ap (sooner (least (pending_times d))) (due_is_next time number value ds rise.1 h.1) ∙ sooner_right time (least (pending_times d)) (not_sooner_than time d.pending rise.0)

-- the queue is one queue still, where its first time becomes the present
pub begins_one_queue : (now : ℕ) (e : Keyed) (es : List Keyed) (currents : List Level) (lasts : List (Option ℕ)) → IsOneQueue now es currents lasts → IsFirst (Some e) es → IsOneQueue e.0.0 es currents lasts
begins_one_queue now e es currents lasts h first = record {
  one_each = h.one_each;
  starts = h.starts;
  chained = h.chained;
  not_past = λ driver. rises_from now e.0.0 (chain_of driver es) (h.not_past driver) (chains_from e.0 driver es first.1);
}

all_rise_from : (time number : ℕ) (currents : List Level) (es : List Keyed) → ((driver : ℕ) → RisesFrom time (pending_of driver es)) → AllRise time (drivers_from number currents es)
all_rise_from time number [] es h = tt
all_rise_from time number (c ∷ currents) es h = (h number, all_rise_from time (suc number) currents es h)

pub next_is_first : (now : ℕ) (e : Keyed) (es : List Keyed) (currents : List Level) (lasts : List (Option ℕ)) → IsOneQueue now es currents lasts → IsFirst (Some e) es
    → next_time (drivers_from 0 currents es) ≡ Some e.0.0
next_is_first now e es currents lasts h first =
    due_is_next e.0.0 e.0.1 e.1.value (drivers_from 0 currents es)
    (all_rise_from e.0.0 0 currents es (begins_one_queue now e es currents lasts h first).not_past)
    (first_due_is now e.0.0 e es currents lasts h first refl)

nothing_next : (number : ℕ) (currents : List Level) → next_time (drivers_from number currents []) ≡ None
nothing_next number [] = refl
nothing_next number (c ∷ currents) = nothing_next (suc number) currents

pub next_is_none : (currents : List Level) (es : List Keyed) → es ≡ [] → next_time (drivers_from 0 currents es) ≡ None
next_is_none currents es empty = ap (λ (c : List Keyed). next_time (drivers_from 0 currents c)) empty ∙ nothing_next 0 currents

-- ---- a driver is taken

-- the drivers after one got its value
abbrev pub taken : ℕ → ℕ → Level → List Driver → List Driver
taken time number value ds = changed number (with_pending (last_staying (After time))) (changed number (with_current value) ds)

some_is_due : (time : ℕ) (value : Level) (d : Driver) → find (is_at time) d.pending ≡ Some (record { time = time; value = value }) → is_due time d ≡ true
some_is_due time value d found = ap is_some found

taken_from : (first time number : ℕ) (value : Level) (ds : List Driver) → AllRise time ds → IsFirstDue time number value ds
    → due_from first time ds ≡ (first + number) ∷ due_from first time (taken time number value ds)
taken_from first time number value [] rise h = absurd h
taken_from first time zero value (d ∷ ds) rise h =
    let after : Driver = record { current = value; pending = last_staying (After time) d.pending } in
    let gone : is_due time after ≡ false = ap (is_due time) (due_advances time value d rise.0 h) ∙ not_due_again time d in
    let number_is : first ≡ first + 0 = omega arith in
    rw (some_is_due time value d h, gone) (ap (λ (n : ℕ). n ∷ due_from (suc first) time ds) number_is)
taken_from first time (suc number) value (d ∷ ds) rise h =
    let number_is : suc first + number ≡ first + suc number = omega arith in
    rw h.0 (taken_from (suc first) time number value ds rise.1 h.1 ∙ ap (λ (n : ℕ). n ∷ due_from (suc first) time (taken time number value ds)) number_is)

pub first_is_taken : (time number : ℕ) (value : Level) (ds : List Driver) → AllRise time ds → IsFirstDue time number value ds → due_from 0 time ds ≡ number ∷ due_from 0 time (taken time number value ds)
first_is_taken time number value ds rise h =
    taken_from 0 time number value ds rise h ∙ ap (λ (n : ℕ). n ∷ due_from 0 time (taken time number value ds)) (zero-add number)

advanced_again : (time : ℕ) (d : Driver) → advance time (advance time d) ≡ advance time d
advanced_again time d = idle_in_cycle time (advance time d) (not_due_again time d)

pub taken_advance : (time number : ℕ) (value : Level) (ds : List Driver) → AllRise time ds → IsFirstDue time number value ds → map (advance time) (taken time number value ds) ≡ map (advance time) ds
taken_advance time number value [] rise h = refl
taken_advance time zero value (d ∷ ds) rise h =
    ap (λ (x : Driver). x ∷ map (advance time) ds) (ap (advance time) (due_advances time value d rise.0 h) ∙ advanced_again time d)
taken_advance time (suc number) value (d ∷ ds) rise h = ap (λ (xs : List Driver). advance time d ∷ xs) (taken_advance time number value ds rise.1 h.1)

-- where none is due, a cycle changes nothing
pub idle_advance : (first time : ℕ) (ds : List Driver) → due_from first time ds ≡ [] → map (advance time) ds ≡ ds
idle_advance first time [] h = refl
idle_advance first time (d ∷ ds) h = elim (cases_Bool (is_due time d)) [
  | inl due ↦ let no : first ∷ due_from (suc first) time ds ≡ [] = rw due at h in cc
  | inr idle ↦ ap (λ (x : Driver). x ∷ map (advance time) ds) (idle_in_cycle time d idle) ∙ ap (λ (xs : List Driver). d ∷ xs) (idle_advance (suc first) time ds (rw idle at h))
]

pub due-le : (first time : ℕ) (ds : List Driver) → length (due_from first time ds) ≤ length ds
due-le first time [] = omega arith
due-le first time (d ∷ ds) = elim (is_due time d) as (λ b. length (cond b (first ∷ due_from (suc first) time ds) (due_from (suc first) time ds)) ≤ length (d ∷ ds)) [
  | true ↦ omega (arith, due-le (suc first) time ds)
  | false ↦ omega (arith, due-le (suc first) time ds)
]

-- ---- present values

current_with : (i number : ℕ) (value : Level) (currents : List Level) (es : List Keyed) → drivers_from number (set currents i value) es ≡ changed i (with_current value) (drivers_from number currents es)
current_with i number value [] es = refl
current_with zero number value (c ∷ currents) es = refl
current_with (suc i) number value (c ∷ currents) es = ap (λ (ds : List Driver). (record { current = c; pending = pending_of number es }) ∷ ds) (current_with i (suc number) value currents es)

pub current_set : (i : ℕ) (value : Level) (currents : List Level) (es : List Keyed) → drivers_from 0 (set currents i value) es ≡ changed i (with_current value) (drivers_from 0 currents es)
current_set i value currents es = current_with i 0 value currents es

pub same_queue_with : (now i : ℕ) (value : Level) (es : List Keyed) (currents : List Level) (lasts : List (Option ℕ)) → IsOneQueue now es currents lasts → IsOneQueue now es (set currents i value) lasts
same_queue_with now i value es currents lasts h = record { one_each = h.one_each ∙ sym (length-set currents i value); starts = h.starts; chained = h.chained; not_past = h.not_past }

pub currents_are : (number : ℕ) (values : List Level) (es : List Keyed) → currents (drivers_from number values es) ≡ values
currents_are number [] es = refl
currents_are number (c ∷ values) es = ap (λ (xs : List Level). c ∷ xs) (currents_are (suc number) values es)

pub got_there : (xs : List Level) (i : ℕ) (x : Level) → i < length xs → x ≡ get_or xs i x → slice_get xs i ≡ Some x
got_there [] i x lt e = absurd (omega arith)
got_there (y ∷ xs) zero x lt e = ap (λ (z : Level). Some z) (sym e)
got_there (y ∷ xs) (suc i) x lt e = got_there xs i x (omega arith) e

-- ---- nothing is pending

idle_from : (number : ℕ) (values : List Level) → drivers_from number values [] ≡ map idle_driver values
idle_from number [] = refl
idle_from number (c ∷ values) = ap (λ (ds : List Driver). idle_driver c ∷ ds) (idle_from (suc number) values)

pub idle_is : (values : List Level) (es : List Keyed) → es ≡ [] → drivers_from 0 values es ≡ map idle_driver values
idle_is values es empty = ap (drivers_from 0 values) empty ∙ idle_from 0 values

none_of : (count driver : ℕ) → last_of driver (replicate count None) ≡ None
none_of count driver = elim (cases_lt driver count) [
  | inl lt ↦ get_or-replicate count driver None None lt
  | inr ge ↦ get_or_past (replicate count None) driver None (let long : length (replicate count absent) ≡ count = length-replicate count absent in omega arith)
]
  where
    absent : Option ℕ
    absent = None

pub idle_queue : (values : List Level) (es : List Keyed) (lasts : List (Option ℕ)) → es ≡ [] → lasts ≡ replicate (length values) None → IsOneQueue 0 es values lasts
idle_queue values es lasts empty none =
    subst (λ (c : List Keyed). IsOneQueue 0 c values lasts) (sym empty) (record {
      one_each = ap length none ∙ length-replicate (length values) None;
      starts = λ driver. ap (last_of driver) none ∙ none_of (length values) driver;
      chained = λ driver. tt;
      not_past = λ driver. tt;
    })
