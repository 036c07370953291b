-- What a transport assignment makes of the chain of its driver.
use Rattle.std.proofs.Common.{◌≡◌, ℕ, ◌<◌, ◌≤◌, Bool, true, false, cond, List, [], ◌∷◌, ◌++◌, filter, Option, Some, None, inl, inr, refl, sym, ap, subst, ◌∙◌, arith}
use Rattle.std.proofs.lemmas.Bool.{cases_lt, lt-ltb, le-ltb, lt-leb, le-leb}
use Rattle.std.proofs.lemmas.List.{append-nil}
use Rattle.std.proofs.lemmas.List.Elements.{filter-append}
use Rattle.std.specs.Option.{option_and}
use Rattle.vital_base.specs.declared.kind.Kind.{Kind}
use Rattle.vital_base.specs.declared.kind.Kind.TheVariants.{Transport, Inertial}
use Rattle.vital_logic.specs.declared.level.Level.{Level}
use Rattle.vital_agenda.specs.declared.stay.Stay.TheVariants.{From, Same}
use Rattle.vital_agenda.specs.declared.walk.Halt.{Halt}
use Rattle.vital_agenda.specs.declared.transaction.Transaction.{Transaction}
use Rattle.vital_agenda.specs.Driver as driver
use Rattle.vital_agenda.specs.Driver.{with_new}
use Rattle.vital_agenda.specs.Queues.{Keyed, latest, earliest, IsChain, IsTimeOf, IsNotAfter, IsChainAfter, ComesBefore, AllBefore, Falls, is_before, is_after, is_up_to, after_staying, first_staying, later_than, rising, transaction_of}
use Rattle.vital_agenda.proofs.Chains.{before_parts, front_falls, with_entry, before_more, before_is_before, before_not_after, chain_falls}
use Rattle.vital_agenda.proofs.Parts.{back_from, back_from_front, back_from_last, front_is_time, later_than_front, rest_is_chain, stayed_whole}
use Rattle.vital_agenda.proofs.Unlinks.{Ended, ended, ended_at, ended_behind, last_is_kept, last_staying_more, rising_staying}
use Rattle.vital_agenda.proofs.Rising.{left_by, same_itself}

-- where a walk over the entries at a time and after it halts, those before the time are left
pub left_before : (time : ℕ) (chain : List Keyed) → Falls chain → after_staying (From time) chain ≡ filter (is_before time) chain
left_before time [] falls = refl
left_before time (e ∷ earlier) falls = elim (cases_lt e.0.0 time) [
  | inl lt ↦ rw (lt-leb time e.0.0 lt, lt-ltb e.0.0 time lt) (ap (λ (xs : List Keyed). e ∷ xs) (sym (before_is_before time earlier (before_more e.0.0 time earlier (omega arith) falls.0))))
  | inr ge ↦ rw (le-leb time e.0.0 ge, le-ltb e.0.0 time ge) (left_before time earlier falls.1)
]

before_is_chain : (time : ℕ) (chain : List Keyed) → IsChain chain → IsChain (filter (is_before time) chain)
before_is_chain time chain h =
    subst IsChain (left_before time chain (chain_falls chain h)) (rest_is_chain (first_staying (From time) chain) (after_staying (From time) chain) (subst IsChain (stayed_whole (From time) chain) h))

all_are_before : (time : ℕ) (xs : List Keyed) → AllBefore time (filter (is_before time) xs)
all_are_before time [] = tt
all_are_before time (x ∷ xs) = elim (cases_lt x.0.0 time) [
  | inl lt ↦ rw (lt-ltb x.0.0 time lt) (lt, all_are_before time xs)
  | inr ge ↦ rw (le-ltb x.0.0 time ge) (all_are_before time xs)
]

before_filter : (p : Keyed → Bool) (time : ℕ) (xs : List Keyed) → AllBefore time xs → AllBefore time (filter p xs)
before_filter p time [] h = tt
before_filter p time (x ∷ xs) h = elim (p x) as (λ b. AllBefore time (cond b (x ∷ filter p xs) (filter p xs))) [
  | true ↦ (h.0, before_filter p time xs h.1)
  | false ↦ before_filter p time xs h.1
]

falls_filter : (p : Keyed → Bool) (xs : List Keyed) → Falls xs → Falls (filter p xs)
falls_filter p [] h = tt
falls_filter p (x ∷ xs) h = elim (p x) as (λ b. Falls (cond b (x ∷ filter p xs) (filter p xs))) [
  | true ↦ (before_filter p x.0.0 xs h.0, falls_filter p xs h.1)
  | false ↦ falls_filter p xs h.1
]

-- where the first entry is after the time, the new one comes behind it
put_behind : (time : ℕ) (new e : Keyed) (earlier : List Keyed) → time < e.0.0 → with_entry time new (e ∷ earlier) ≡ e ∷ with_entry time new earlier
put_behind time new e earlier lt = rw (lt-ltb time e.0.0 lt, le-ltb e.0.0 time (omega arith)) refl

-- where it is not, the new one comes first
put_ahead : (time : ℕ) (new e : Keyed) (earlier : List Keyed) → e.0.0 ≤ time → AllBefore e.0.0 earlier → with_entry time new (e ∷ earlier) ≡ new ∷ filter (is_before time) (e ∷ earlier)
put_ahead time new e earlier le before =
    let none_here : filter (is_after time) (e ∷ earlier) ≡ [] = rw (le-ltb time e.0.0 le) (before_not_after time earlier (before_more e.0.0 time earlier le before)) in
    ap (λ (xs : List Keyed). xs ++ new ∷ filter (is_before time) (e ∷ earlier)) none_here

before_more_put : (high time : ℕ) (new : Keyed) (xs : List Keyed) → new.0.0 < high → AllBefore high xs → AllBefore high (with_entry time new xs)
before_more_put high time new xs lt h = before_append high (filter (is_after time) xs) (new ∷ filter (is_before time) xs) (before_filter (is_after time) high xs h) (lt, before_filter (is_before time) high xs h)
  where
    before_append : (high : ℕ) (xs ys : List Keyed) → AllBefore high xs → AllBefore high ys → AllBefore high (xs ++ ys)
    before_append high [] ys h k = k
    before_append high (x ∷ xs) ys h k = (h.0, before_append high xs ys h.1 k)

pub put_falls : (time : ℕ) (new : Keyed) (chain : List Keyed) → new.0.0 ≡ time → Falls chain → Falls (with_entry time new chain)
put_falls time new [] same falls = (tt, tt)
put_falls time new (e ∷ earlier) same falls = elim (cases_lt time e.0.0) [
  | inl lt ↦ subst Falls (sym (put_behind time new e earlier lt)) (before_more_put e.0.0 time new earlier (omega arith) falls.0, put_falls time new earlier same falls.1)
  | inr le ↦ subst Falls (sym (put_ahead time new e earlier le falls.0))
      (subst (λ (t : ℕ). AllBefore t (filter (is_before time) (e ∷ earlier))) (sym same) (all_are_before time (e ∷ earlier)), falls_filter (is_before time) (e ∷ earlier) falls)
]

-- the entries after the new one are linked as before
pub put_is_linked : (time : ℕ) (new : Keyed) (from : Option ℕ) (chain : List Keyed) → new.0.0 ≡ time → IsChain chain → Falls chain → from ≡ latest chain → IsChainAfter time from (with_entry time new chain)
put_is_linked time new from [] same h falls starts = (λ lt. absurd (omega arith), λ le. subst (IsNotAfter time) (sym starts) tt)
put_is_linked time new from (e ∷ earlier) same h falls starts = elim (cases_lt time e.0.0) [
  | inl lt ↦ subst (IsChainAfter time from) (sym (put_behind time new e earlier lt)) (λ after. (starts, put_is_linked time new e.1.before earlier same h.2 falls.1 h.0), λ le. absurd (omega arith))
  | inr le ↦ subst (IsChainAfter time from) (sym (put_ahead time new e earlier le falls.0)) (λ after. absurd (omega arith), λ not_after. subst (IsNotAfter time) (sym starts) le)
]

-- what is left once those after the new one are unlinked
pub put_is_left : (time : ℕ) (new : Keyed) (chain : List Keyed) → new.0.0 ≡ time → filter (is_up_to time) (with_entry time new chain) ≡ new ∷ filter (is_before time) chain
put_is_left time new chain same =
    filter-append (is_up_to time) (filter (is_after time) chain) (new ∷ filter (is_before time) chain)
    ∙ ap (λ (xs : List Keyed). xs ++ filter (is_up_to time) (new ∷ filter (is_before time) chain)) (none_up_to chain)
    ∙ rw (le-leb new.0.0 time (omega arith)) (ap (λ (xs : List Keyed). new ∷ xs) (all_up_to chain))
  where
    none_up_to : (xs : List Keyed) → filter (is_up_to time) (filter (is_after time) xs) ≡ []
    none_up_to [] = refl
    none_up_to (x ∷ xs) = elim (cases_lt time x.0.0) [
      | inl lt ↦ rw (lt-ltb time x.0.0 lt, lt-leb x.0.0 time lt) (none_up_to xs)
      | inr le ↦ rw (le-ltb time x.0.0 le) (none_up_to xs)
    ]

    all_up_to : (xs : List Keyed) → filter (is_up_to time) (filter (is_before time) xs) ≡ filter (is_before time) xs
    all_up_to [] = refl
    all_up_to (x ∷ xs) = elim (cases_lt x.0.0 time) [
      | inl lt ↦ rw (lt-ltb x.0.0 time lt, le-leb x.0.0 time (omega arith)) (ap (λ (ys : List Keyed). x ∷ ys) (all_up_to xs))
      | inr ge ↦ rw (le-ltb x.0.0 time ge) (all_up_to xs)
    ]

pub rising_before : (time : ℕ) (chain : List Keyed) → rising (filter (is_before time) chain) ≡ filter (driver.is_before time) (rising chain)
rising_before time [] = refl
rising_before time (e ∷ earlier) = elim (cases_lt e.0.0 time) [
  | inl lt ↦ rw (lt-ltb e.0.0 time lt) (ap (λ (xs : List Transaction). xs ++ transaction_of e ∷ []) (rising_before time earlier)
      ∙ sym (filter-append (driver.is_before time) (rising earlier) (transaction_of e ∷ []) ∙ rw (lt-ltb e.0.0 time lt) refl))
  | inr ge ↦ rw (le-ltb e.0.0 time ge) (rising_before time earlier
      ∙ sym (filter-append (driver.is_before time) (rising earlier) (transaction_of e ∷ []) ∙ rw (le-ltb e.0.0 time ge) (append-nil (filter (driver.is_before time) (rising earlier)))))
]

-- ---- what stays before the new entry

abbrev pub with_last : List Transaction → ℕ → Level → List Transaction
with_last pending time value = pending ++ record { time = time; value = value } ∷ []

-- of the entries before the new one some are kept, and the others go; where one is kept, the new one has the time of the last of them
pub record Prior (kind : Kind) (time : ℕ) (value : Level) (front : List Keyed) (before kept rest : Option ℕ) : Type 0 where
  pub keeps : List Keyed
  pub goes : List Keyed
  pub whole : front ≡ keeps ++ goes
  pub link : option_and kept before ≡ latest keeps
  pub next : rest ≡ latest goes
  pub ends : option_and rest kept ≡ option_and (latest goes) (earliest keeps)
  pub pending : with_last (rising keeps) time value ≡ left_by kind value (with_last (rising front) time value)

same_and : (o : Option ℕ) → option_and o o ≡ o
same_and None = refl
same_and (Some x) = refl

-- by transport all stay
prior_transport : (time : ℕ) (value : Level) (front : List Keyed) (before kept rest : Option ℕ) → before ≡ latest front → kept ≡ before → rest ≡ None → Prior Transport time value front before kept rest
prior_transport time value front before kept rest is same none = record {
  keeps = front;
  goes = [];
  whole = sym (append-nil front);
  link = ap (λ (k : Option ℕ). option_and k before) same ∙ same_and before ∙ is;
  next = none;
  ends = ap (λ (r : Option ℕ). option_and r kept) none;
  pending = refl;
}

-- of an inertial one those of its value stay
prior_inertial : (time : ℕ) (value : Level) (front : List Keyed) (before kept rest : Option ℕ) → before ≡ latest front → kept ≡ earliest (first_staying (Same value) front)
    → rest ≡ latest (after_staying (Same value) front) → Prior Inertial time value front before kept rest
prior_inertial time value front before kept rest is is_kept is_rest =
    let keeps = first_staying (Same value) front in
    let goes = after_staying (Same value) front in
    let new : Transaction = record { time = time; value = value } in
    let whole = stayed_whole (Same value) front in
    record {
      keeps = keeps;
      goes = goes;
      whole = whole;
      link = last_is_kept kept before keeps goes is_kept (is ∙ ap latest whole);
      next = is_rest;
      ends = ap (λ (r : Option ℕ). option_and r kept) is_rest ∙ ap (option_and (latest goes)) is_kept;
      pending = ap (λ (xs : List Transaction). xs ++ new ∷ []) (rising_staying (Same value) front) ∙ sym (last_staying_more (Same value) (rising front) new (same_itself value));
    }

-- the time that a walk from the last entry back reaches
pub reached : (time : ℕ) (last before : Option ℕ) (old : List Keyed) → IsChain old → last ≡ latest old → before ≡ latest (after_staying (From time) (back_from last old))
    → before ≡ latest (after_staying (From time) old)
reached time last before old h is_last is = is ∙ ap (λ (xs : List Keyed). latest (after_staying (From time) xs)) (back_from_last last old h is_last)

pub prior : (kind : Kind) (time : ℕ) (value : Level) (last before : Option ℕ) (halt : Halt) (old : List Keyed) → IsChain old → last ≡ latest old
    → before ≡ latest (after_staying (From time) (back_from last old))
    → (kind ≡ Transport → halt ≡ record { kept = before; rest = None })
    → (kind ≡ Inertial → halt.kept ≡ earliest (first_staying (Same value) (back_from before old)))
    → (kind ≡ Inertial → halt.rest ≡ latest (after_staying (Same value) (back_from before old)))
    → Prior kind time value (filter (is_before time) old) before halt.kept halt.rest
prior kind time value last before halt old h is_last is transport is_kept is_rest = by_kind kind refl
  where
    front : List Keyed
    front = filter (is_before time) old

    first_is : before ≡ latest front
    first_is = reached time last before old h is_last is ∙ ap latest (left_before time old (chain_falls old h))

    back_is : back_from before old ≡ front
    back_is =
        let whole = stayed_whole (From time) old ∙ ap (λ (xs : List Keyed). first_staying (From time) old ++ xs) (left_before time old (chain_falls old h)) in
        ap (λ (b : Option ℕ). back_from b old) first_is ∙ ap (back_from (latest front)) whole
        ∙ back_from_front (first_staying (From time) old) front (subst Falls whole (chain_falls old h))

    by_kind : (k : Kind) → kind ≡ k → Prior k time value front before halt.kept halt.rest
    by_kind Transport at_kind =
        prior_transport time value front before halt.kept halt.rest first_is (ap (λ (x : Halt). x.kept) (transport at_kind)) (ap (λ (x : Halt). x.rest) (transport at_kind))
    by_kind Inertial at_kind =
        prior_inertial time value front before halt.kept halt.rest first_is (is_kept at_kind ∙ ap (λ (xs : List Keyed). earliest (first_staying (Same value) xs)) back_is)
        (is_rest at_kind ∙ ap (λ (xs : List Keyed). latest (after_staying (Same value) xs)) back_is)

-- ---- the chain with the new entry as its last one

-- once those after it are unlinked
pub record Put (new : Keyed) (rest : Option ℕ) (keeps chain : List Keyed) : Type 0 where
  pub falls : Falls chain
  pub back : IsChain (back_from rest chain)
  pub there : IsTimeOf rest chain
  pub later : later_than rest chain ≡ new ∷ keeps
  pub later_falls : Falls (later_than rest chain)

pub put_parts : (kind : Kind) (time : ℕ) (value : Level) (before kept rest : Option ℕ) (new : Keyed) (old chain : List Keyed) → new.0.0 ≡ time → IsChain old
    → (p : Prior kind time value (filter (is_before time) old) before kept rest) → chain ≡ filter (is_up_to time) (with_entry time new old) → Put new rest p.keeps chain
put_parts kind time value before kept rest new old chain at_time h p is =
    let front = filter (is_before time) old in
    let links = before_is_chain time old h in
    let parts : chain ≡ (new ∷ p.keeps) ++ p.goes = is ∙ put_is_left time new old at_time ∙ ap (λ (xs : List Keyed). new ∷ xs) p.whole in
    let all_before : AllBefore new.0.0 front = subst (λ (t : ℕ). AllBefore t front) (sym at_time) (all_are_before time old) in
    let falls : Falls ((new ∷ p.keeps) ++ p.goes) = subst (λ (xs : List Keyed). Falls (new ∷ xs)) p.whole (all_before, chain_falls front links) in
    let later = later_than_front (new ∷ p.keeps) p.goes falls in
    let goes_chain : IsChain p.goes = rest_is_chain p.keeps p.goes (subst IsChain p.whole links) in
    let there = front_is_time (new ∷ p.keeps) p.goes falls in
    subst (λ (c : List Keyed). Put new rest p.keeps c) (sym parts)
    (subst (λ (r : Option ℕ). Put new r p.keeps ((new ∷ p.keeps) ++ p.goes)) (sym p.next) (record {
      falls = falls;
      back = subst IsChain (sym (back_from_front (new ∷ p.keeps) p.goes falls)) goes_chain;
      there = there;
      later = later;
      later_falls = subst Falls (sym later) (front_falls (new ∷ p.keeps) p.goes falls);
    }))

pub record Sent (kind : Kind) (time : ℕ) (value : Level) (old new : List Keyed) : Type 0 where
  pub chain : IsChain new
  pub starts : Some time ≡ latest new
  pub pending : rising new ≡ left_by kind value (with_new (rising old) time value)

pub sent : (kind : Kind) (time driver : ℕ) (value : Level) (before kept rest link : Option ℕ) (old new : List Keyed) → IsChain old → (p : Prior kind time value (filter (is_before time) old) before kept rest)
    → link ≡ option_and kept before → new ≡ ended_at (option_and rest kept) (((time, driver), record { value = value; before = link }) ∷ p.keeps) → Sent kind time value old new
sent kind time driver value before kept rest link old new h p is_link new_is =
    let entry : Keyed = ((time, driver), record { value = value; before = link }) in
    let links : link ≡ latest p.keeps = is_link ∙ p.link in
    let end = option_and rest kept in
    let all_before : AllBefore time p.keeps = (before_parts time p.keeps p.goes (subst (AllBefore time) p.whole (all_are_before time old))).0 in
    let rest_ends : Ended end p.keeps = ended end p.keeps p.goes (subst IsChain p.whole (before_is_chain time old h)) p.ends in
    let is : new ≡ entry ∷ ended_at end p.keeps = new_is ∙ ended_behind end entry p.keeps p.goes all_before p.ends in
    subst (λ (c : List Keyed). Sent kind time value old c) (sym is) (record {
      chain = (links ∙ sym rest_ends.starts, subst (λ (b : Option ℕ). ComesBefore b time) (sym links) (first_before p.keeps all_before), rest_ends.chain);
      starts = refl;
      pending = ap (λ (xs : List Transaction). with_last xs time value) rest_ends.pending ∙ p.pending ∙ ap (λ (xs : List Transaction). left_by kind value (with_last xs time value)) (rising_before time old);
    })
  where
    first_before : (xs : List Keyed) → AllBefore time xs → ComesBefore (latest xs) time
    first_before [] h = tt
    first_before (x ∷ xs) h = h.0
