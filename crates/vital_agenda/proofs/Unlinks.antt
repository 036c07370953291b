-- Unlinking entries of a driver.
use Rattle.std.proofs.Common.{◌≡◌, ℕ, ◌+◌, ◌<◌, Bool, true, false, not, ◌&&◌, cond, ltb, eqb, List, [], ◌∷◌, ◌++◌, length, map, filter, Option, Some, None, inl, inr, refl, sym, ap, subst, ◌∙◌, arith}
use Rattle.std.specs.Option.{option_and, option_and_then, option_map_or}
use Rattle.std.specs.Map.{keys_of}
use Rattle.std.specs.Prelude.{IfSome, IsSome, ◌↔◌, slice_get}
use Rattle.std.proofs.lemmas.Bool.{cases_Bool, cases_lt, cases_eq, eq-eqb, ne_eqb, lt-ltb, le-ltb, lt-leb}
use Rattle.std.proofs.lemmas.List.{append-nil, length-append}
use Rattle.std.proofs.lemmas.List.Elements.{filter-append}
use Rattle.vital_agenda.specs.declared.entry.Entry.{Entry}
use Rattle.vital_agenda.specs.declared.stay.Stay.{Stay}
use Rattle.vital_agenda.specs.declared.stay.Stay.TheVariants.{After as Later}
use Rattle.vital_agenda.specs.declared.transaction.Transaction.{Transaction}
use Rattle.vital_agenda.specs.Queues.{Keyed, chain_of, latest, earliest, IsChain, IsNotAfter, IsChainAfter, IsTimeOf, AllBefore, Falls, entry_of, is_up_to, without, with_none_before, later_than, stays, transaction_of, first_staying, rising, all_stay, last_staying}
use Rattle.vital_agenda.proofs.Chains.{AllAfter, only_mine, up_to_all, front_is_after, rest_falls, before_more, without_before, without_after, chain_falls}
use Rattle.vital_agenda.proofs.Keys.{Key}
use Rattle.vital_agenda.proofs.Parts.{back_from, entry_here, parts_at, left_is, kept_is_later}

-- the time of the entry before the one at a time
abbrev pub before_at : ℕ → List Keyed → Option ℕ
before_at time chain = option_and_then (λ entry. entry.before) (entry_of time chain)

-- ---- from the last entry back, as long as they are after a time

-- what is left to unlink
pub record After (time : ℕ) (last : Option ℕ) (whole chain : List Keyed) : Type 0 where
  pub falls : Falls chain
  pub linked : IsChainAfter time last chain
  pub same : filter (is_up_to time) chain ≡ filter (is_up_to time) whole

pub record AfterStep (time : ℕ) (last : Option ℕ) (whole old new : List Keyed) : Type 0 where
  pub next : After time last whole new
  pub less : length new < length old

without_first : (e : Keyed) (earlier : List Keyed) → AllBefore e.0.0 earlier → without e.0.0 (e ∷ earlier) ≡ earlier
without_first e earlier before = rw (eq-eqb e.0.0 e.0.0 refl) (without_before e.0.0 earlier before)

later_is : (time late : ℕ) (last : Option ℕ) → option_and_then (λ t. cond (ltb time t) (Some t) None) last ≡ Some late → (last ≡ Some late) × (time < late)
later_is time late None h = cc
later_is time late (Some t) h = elim (cases_lt time t) [
  | inl lt ↦ let e : Some t ≡ Some late = rw (lt-ltb time t lt) at h in let same : t ≡ late = cc in (e, subst (λ (n : ℕ). time < n) same lt)
  | inr ge ↦ let no : None ≡ Some late = rw (le-ltb time t ge) at h in cc
]

later_none : (time : ℕ) (last : Option ℕ) → option_and_then (λ t. cond (ltb time t) (Some t) None) last ≡ None → IsNotAfter time last
later_none time None h = tt
later_none time (Some t) h = elim (cases_lt time t) [
  | inl lt ↦ let no : Some t ≡ None = rw (lt-ltb time t lt) at h in cc
  | inr ge ↦ ge
]

unlink_first : (time late : ℕ) (whole chain : List Keyed) → time < late → After time (Some late) whole chain → AfterStep time (before_at late chain) whole chain (without late chain)
unlink_first time late whole [] lt h = absurd (omega (arith, h.linked))
unlink_first time late whole (e ∷ earlier) lt h = elim (cases_lt time e.0.0) [
  | inr ge ↦ absurd (omega (arith, h.linked.1 ge))
  | inl after ↦
      let both = h.linked.0 after in
      let some_same : Some late ≡ Some e.0.0 = both.0 in
      let at_late : e.0.0 ≡ late = cc in
      let falls : Falls (e ∷ earlier) = h.falls in
      let before_here : before_at e.0.0 (e ∷ earlier) ≡ e.1.before = ap (option_and_then (λ (x : Entry). x.before)) (entry_here [] e earlier falls) in
      let rest_here : without e.0.0 (e ∷ earlier) ≡ earlier = without_first e earlier falls.0 in
      let next : After time e.1.before whole earlier = record {
        falls = falls.1;
        linked = both.1;
        same = let up : filter (is_up_to time) (e ∷ earlier) ≡ filter (is_up_to time) whole = h.same in rw (lt-leb e.0.0 time after) at up;
      } in
      let less : length earlier < length (e ∷ earlier) = omega arith in
      let step : AfterStep time (before_at e.0.0 (e ∷ earlier)) whole (e ∷ earlier) (without e.0.0 (e ∷ earlier)) =
      subst (λ (b : Option ℕ). AfterStep time b whole (e ∷ earlier) (without e.0.0 (e ∷ earlier))) (sym before_here)
      (subst (λ (c : List Keyed). AfterStep time e.1.before whole (e ∷ earlier) c) (sym rest_here) (record { next = next; less = less })) in
      subst (λ (t : ℕ). AfterStep time (before_at t (e ∷ earlier)) whole (e ∷ earlier) (without t (e ∷ earlier))) at_late step
]

pub unlinks_after : (time late : ℕ) (last next : Option ℕ) (whole old new : List Keyed) → option_and_then (λ t. cond (ltb time t) (Some t) None) last ≡ Some late
    → After time last whole old → next ≡ before_at late old → new ≡ without late old → AfterStep time next whole old new
unlinks_after time late last next whole old new found h next_is new_is =
    let is = later_is time late last found in
    let here : After time (Some late) whole old = subst (λ (l : Option ℕ). After time l whole old) is.0 h in
    subst (λ (n : Option ℕ). AfterStep time n whole old new) (sym next_is)
    (subst (λ (c : List Keyed). AfterStep time (before_at late old) whole old c) (sym new_is) (unlink_first time late whole old is.1 here))

not_after_all : (time : ℕ) (last : Option ℕ) (chain : List Keyed) → IsNotAfter time last → IsChainAfter time last chain → Falls chain → filter (is_up_to time) chain ≡ chain
not_after_all time last [] ends h falls = refl
not_after_all time last (e ∷ earlier) ends h falls = elim (cases_lt time e.0.0) [
  | inl after ↦ absurd (let no : IsNotAfter time (Some e.0.0) = subst (IsNotAfter time) (h.0 after).0 ends in omega arith)
  | inr le ↦ up_to_all time (e ∷ earlier) (omega arith, before_more e.0.0 (time + 1) earlier (omega arith) falls.0)
]

pub after_ends : (time : ℕ) (last : Option ℕ) (whole chain : List Keyed) → option_and_then (λ t. cond (ltb time t) (Some t) None) last ≡ None
    → After time last whole chain → chain ≡ filter (is_up_to time) whole
after_ends time last whole chain found h = sym (not_after_all time last chain (later_none time last found) h.linked h.falls) ∙ h.same

-- ---- from an entry back to the first

-- some entries are kept, and a chain of others is left to unlink
pub record Back (last : Option ℕ) (kept chain : List Keyed) : Type 0 where
  pub left : List Keyed
  pub whole : chain ≡ kept ++ left
  pub falls : Falls chain
  pub linked : IsChain left
  pub first : last ≡ latest left

pub record BackStep (last : Option ℕ) (kept old new : List Keyed) : Type 0 where
  pub next : Back last kept new
  pub less : length new < length old

without-append : (time : ℕ) (xs ys : List Keyed) → without time (xs ++ ys) ≡ without time xs ++ without time ys
without-append time xs ys = filter-append (λ e. not (eqb e.0.0 time)) xs ys

falls_less : (xs : List Keyed) (y : Keyed) (ys : List Keyed) → Falls (xs ++ y ∷ ys) → Falls (xs ++ ys)
falls_less [] y ys h = h.1
falls_less (x ∷ xs) y ys h = (all_before_less x.0.0 xs y ys h.0, falls_less xs y ys h.1)
  where
    all_before_less : (time : ℕ) (xs : List Keyed) (y : Keyed) (ys : List Keyed) → AllBefore time (xs ++ y ∷ ys) → AllBefore time (xs ++ ys)
    all_before_less time [] y ys h = h.1
    all_before_less time (x ∷ xs) y ys h = (h.0, all_before_less time xs y ys h.1)

back_at : (time : ℕ) (kept chain left : List Keyed) → chain ≡ kept ++ left → Falls chain → IsChain left → Some time ≡ latest left
    → BackStep (before_at time chain) kept chain (without time chain)
back_at time kept chain [] whole falls linked first = cc
back_at time kept chain (e ∷ earlier) whole falls linked first =
    let some_same : Some time ≡ Some e.0.0 = first in
    let at_time : e.0.0 ≡ time = cc in
    let falls_here : Falls (kept ++ e ∷ earlier) = subst Falls whole falls in
    let before_here : before_at e.0.0 (kept ++ e ∷ earlier) ≡ e.1.before = ap (option_and_then (λ (x : Entry). x.before)) (entry_here kept e earlier falls_here) in
    let gone : without e.0.0 (kept ++ e ∷ earlier) ≡ kept ++ earlier =
    without-append e.0.0 kept (e ∷ earlier)
    ∙ ap (λ (xs : List Keyed). xs ++ without e.0.0 (e ∷ earlier)) (without_after e.0.0 kept (front_is_after kept e earlier falls_here))
    ∙ ap (λ (ys : List Keyed). kept ++ ys) (without_first e earlier (rest_falls kept (e ∷ earlier) falls_here).0) in
    let next : Back e.1.before kept (kept ++ earlier) = record { left = earlier; whole = refl; falls = falls_less kept e earlier falls_here; linked = linked.2; first = linked.0 } in
    let less : length (kept ++ earlier) < length (kept ++ e ∷ earlier) = omega (arith, length-append kept earlier, length-append kept (e ∷ earlier)) in
    let step : BackStep (before_at e.0.0 (kept ++ e ∷ earlier)) kept (kept ++ e ∷ earlier) (without e.0.0 (kept ++ e ∷ earlier)) =
    subst (λ (b : Option ℕ). BackStep b kept (kept ++ e ∷ earlier) (without e.0.0 (kept ++ e ∷ earlier))) (sym before_here)
    (subst (λ (c : List Keyed). BackStep e.1.before kept (kept ++ e ∷ earlier) c) (sym gone) (record { next = next; less = less })) in
    subst (λ (t : ℕ). BackStep (before_at t chain) kept chain (without t chain)) at_time
    (subst (λ (c : List Keyed). BackStep (before_at e.0.0 c) kept c (without e.0.0 c)) (sym whole) step)

pub unlinks_back : (time : ℕ) (last next : Option ℕ) (kept old new : List Keyed) → last ≡ Some time → Back last kept old → next ≡ before_at time old → new ≡ without time old
    → BackStep next kept old new
unlinks_back time last next kept old new is h next_is new_is =
    subst (λ (n : Option ℕ). BackStep n kept old new) (sym next_is)
    (subst (λ (c : List Keyed). BackStep (before_at time old) kept old c) (sym new_is) (back_at time kept old h.left h.whole h.falls h.linked (sym is ∙ h.first)))

pub back_ends : (last : Option ℕ) (kept chain : List Keyed) → last ≡ None → Back last kept chain → chain ≡ kept
back_ends last kept chain none h = h.whole ∙ ap (λ (ys : List Keyed). kept ++ ys) (no_left h.left (sym none ∙ h.first)) ∙ append-nil kept
  where
    no_left : (xs : List Keyed) → None ≡ latest xs → xs ≡ []
    no_left [] e = refl
    no_left (x ∷ xs) e = cc

pub back_starts : (last : Option ℕ) (chain : List Keyed) → Falls chain → IsChain (back_from last chain) → IsTimeOf last chain → Back last (later_than last chain) chain
back_starts last chain falls h there =
    let p = parts_at last chain there in
    subst (λ (k : List Keyed). Back last k chain) (sym (kept_is_later last chain falls p))
    (record { left = p.left; whole = p.whole; falls = falls; linked = subst IsChain (left_is last chain falls p) h; first = p.first })

-- ---- the latest entries are kept

last_before : (high time : ℕ) (xs : List Keyed) → AllBefore high xs → earliest xs ≡ Some time → time < high
last_before high time [] h last = cc
last_before high time (x ∷ []) h last = let some_same : Some x.0.0 ≡ Some time = last in let same : x.0.0 ≡ time = cc in omega (arith, h.0)
last_before high time (x ∷ y ∷ xs) h last = last_before high time (y ∷ xs) h.1 last

-- a front part of a chain, of which the last entry has none before it
ended_is_chain : (time : ℕ) (xs ys : List Keyed) → IsChain (xs ++ ys) → Falls (xs ++ ys) → earliest xs ≡ Some time → IsChain (map (with_none_before time) xs) × (latest (map (with_none_before time) xs) ≡ latest xs)
ended_is_chain time [] ys h falls last = cc
ended_is_chain time (x ∷ []) ys h falls last =
    let some_same : Some x.0.0 ≡ Some time = last in
    let same : x.0.0 ≡ time = cc in
    rw (eq-eqb x.0.0 time same) ((refl, tt, tt), refl)
ended_is_chain time (x ∷ y ∷ xs) ys h falls last =
    let rest = ended_is_chain time (y ∷ xs) ys h.2 falls.1 last in
    let after : time < x.0.0 = last_before x.0.0 time (y ∷ xs) (parts_before x.0.0 (y ∷ xs) ys falls.0) last in
    rw (ne_eqb x.0.0 time (λ same. omega arith)) ((h.0 ∙ sym rest.1, h.1, rest.0), refl)
  where
    parts_before : (time : ℕ) (xs ys : List Keyed) → AllBefore time (xs ++ ys) → AllBefore time xs
    parts_before time [] ys h = tt
    parts_before time (x ∷ xs) ys h = (h.0, parts_before time xs ys h.1)

rising_ended : (time : ℕ) (xs : List Keyed) → rising (map (with_none_before time) xs) ≡ rising xs
rising_ended time [] = refl
rising_ended time (x ∷ xs) = elim (cases_eq x.0.0 time) [
  | inl same ↦ rw (eq-eqb x.0.0 time same) (ap (λ (ys : List Transaction). ys ++ transaction_of x ∷ []) (rising_ended time xs))
  | inr other ↦ rw (ne_eqb x.0.0 time other) (ap (λ (ys : List Transaction). ys ++ transaction_of x ∷ []) (rising_ended time xs))
]

all_stay_more : (stay : Stay) (xs : List Transaction) (x : Transaction) (b : Bool) → stays stay x ≡ b → all_stay stay (xs ++ x ∷ []) ≡ cond b (all_stay stay xs) false
all_stay_more stay [] x true h = rw h refl
all_stay_more stay [] x false h = rw h refl
all_stay_more stay (y ∷ xs) x true h = ap (λ (t : Bool). stays stay y && t) (all_stay_more stay xs x true h)
all_stay_more stay (y ∷ xs) x false h = elim (cases_Bool (stays stay y)) [
  | inl stays_here ↦ rw stays_here (all_stay_more stay xs x false h)
  | inr goes ↦ rw goes refl
]

-- one transaction more at the end
pub last_staying_more : (stay : Stay) (xs : List Transaction) (x : Transaction) → stays stay x ≡ true → last_staying stay (xs ++ x ∷ []) ≡ last_staying stay xs ++ x ∷ []
last_staying_more stay [] x h = rw h refl
last_staying_more stay (y ∷ xs) x h = elim (cases_Bool (all_stay stay (y ∷ xs))) [
  | inl all ↦ let more : all_stay stay (y ∷ xs ++ x ∷ []) ≡ true = all_stay_more stay (y ∷ xs) x true h ∙ all in rw (more, all) refl
  | inr some ↦ let more : all_stay stay (y ∷ xs ++ x ∷ []) ≡ false = all_stay_more stay (y ∷ xs) x true h ∙ some in rw (more, some) (last_staying_more stay xs x h)
]

pub last_staying_none : (stay : Stay) (xs : List Transaction) (x : Transaction) → stays stay x ≡ false → last_staying stay (xs ++ x ∷ []) ≡ []
last_staying_none stay [] x h = rw h refl
last_staying_none stay (y ∷ xs) x h =
    let more : all_stay stay (y ∷ xs ++ x ∷ []) ≡ false = all_stay_more stay (y ∷ xs) x false h in rw more (last_staying_none stay xs x h)

pub rising_staying : (stay : Stay) (chain : List Keyed) → rising (first_staying stay chain) ≡ last_staying stay (rising chain)
rising_staying stay [] = refl
rising_staying stay (e ∷ earlier) = elim (cases_Bool (stays stay (transaction_of e))) [
  | inl stays_here ↦ rw stays_here (ap (λ (xs : List Transaction). xs ++ transaction_of e ∷ []) (rising_staying stay earlier) ∙ sym (last_staying_more stay (rising earlier) (transaction_of e) stays_here))
  | inr goes ↦ rw goes (sym (last_staying_none stay (rising earlier) (transaction_of e) goes))
]

-- ---- the last of the entries that are kept has none before it

abbrev pub ended_at : Option ℕ → List Keyed → List Keyed
ended_at time chain = option_map_or (λ t. map (with_none_before t) chain) time chain

-- a front part of a chain is one, where the last entry of it has none before it as soon as others come before it
pub record Ended (time : Option ℕ) (keeps : List Keyed) : Type 0 where
  pub chain : IsChain (ended_at time keeps)
  pub starts : latest (ended_at time keeps) ≡ latest keeps
  pub pending : rising (ended_at time keeps) ≡ rising keeps

pub some_earliest : (x : Keyed) (xs : List Keyed) → (time : ℕ) × (earliest (x ∷ xs) ≡ Some time)
some_earliest x [] = (x.0.0, refl)
some_earliest x (y ∷ xs) = some_earliest y xs

pub ended : (time : Option ℕ) (keeps goes : List Keyed) → IsChain (keeps ++ goes) → time ≡ option_and (latest goes) (earliest keeps) → Ended time keeps
ended time keeps [] h is =
    subst (λ (t : Option ℕ). Ended t keeps) (sym is) (record { chain = subst IsChain (append-nil keeps) h; starts = refl; pending = refl })
ended time [] (g ∷ goes) h is = subst (λ (t : Option ℕ). Ended t []) (sym is) (record { chain = tt; starts = refl; pending = refl })
ended time (x ∷ keeps) (g ∷ goes) h is =
    let last = some_earliest x keeps in
    let both = ended_is_chain last.0 (x ∷ keeps) (g ∷ goes) h (chain_falls (x ∷ keeps ++ g ∷ goes) h) last.1 in
    subst (λ (t : Option ℕ). Ended t (x ∷ keeps)) (sym (is ∙ last.1)) (record { chain = both.0; starts = both.1; pending = rising_ended last.0 (x ∷ keeps) })

-- a later entry is not changed by that
pub ended_behind : (time : Option ℕ) (new : Keyed) (keeps goes : List Keyed) → AllBefore new.0.0 keeps → time ≡ option_and (latest goes) (earliest keeps)
    → ended_at time (new ∷ keeps) ≡ new ∷ ended_at time keeps
ended_behind time new keeps [] h is = subst (λ (t : Option ℕ). ended_at t (new ∷ keeps) ≡ new ∷ ended_at t keeps) (sym is) refl
ended_behind time new [] (g ∷ goes) h is = subst (λ (t : Option ℕ). ended_at t (new ∷ []) ≡ new ∷ ended_at t []) (sym is) refl
ended_behind time new (x ∷ keeps) (g ∷ goes) h is =
    let last = some_earliest x keeps in
    let less = last_before new.0.0 last.0 (x ∷ keeps) h last.1 in
    let same : with_none_before last.0 new ≡ new = rw (ne_eqb new.0.0 last.0 (λ at_last. omega arith)) refl in
    subst (λ (t : Option ℕ). ended_at t (new ∷ x ∷ keeps) ≡ new ∷ ended_at t (x ∷ keeps)) (sym (is ∙ last.1)) (ap (λ (e : Keyed). e ∷ map (with_none_before last.0) (x ∷ keeps)) same)

-- ---- the first entry of the queue leaves

-- what is left where the latest entries were kept, of which the last one is at a time that may be missing
pub record Kept (stay : Stay) (last : Option ℕ) (old new : List Keyed) : Type 0 where
  pub chain : IsChain new
  pub starts : last ≡ latest new
  pub stays : rising new ≡ last_staying stay (rising old)

front_stays : (e : Keyed) (xs : List Keyed) → AllAfter e.0.0 xs → first_staying (Later e.0.0) (xs ++ e ∷ []) ≡ xs
front_stays e [] h = rw (le-ltb e.0.0 e.0.0 (omega arith)) refl
front_stays e (x ∷ xs) h = rw (lt-ltb e.0.0 x.0.0 h.0) (ap (λ (ys : List Keyed). x ∷ ys) (front_stays e xs h.1))

-- the last one of the entries that are kept, if any, is the last one of all
pub last_is_kept : (kept last : Option ℕ) (keeps goes : List Keyed) → kept ≡ earliest keeps → last ≡ latest (keeps ++ goes) → option_and kept last ≡ latest keeps
last_is_kept kept last [] goes is_kept is_last = ap (λ (k : Option ℕ). option_and k last) is_kept
last_is_kept kept last (x ∷ keeps) goes is_kept is_last = ap (λ (k : Option ℕ). option_and k last) (is_kept ∙ (some_earliest x keeps).1) ∙ is_last

pub first_leaves : (time : ℕ) (last kept : Option ℕ) (e : Keyed) (old mid new : List Keyed) → e.0.0 ≡ time → IsChain old → last ≡ latest old → old ≡ mid ++ e ∷ []
    → kept ≡ earliest (first_staying (Later time) old) → new ≡ ended_at kept mid → Kept (Later time) (option_and kept last) old new
first_leaves time last kept e old mid new at_time h is_last parts is_kept is_new =
    let here : IsChain (mid ++ e ∷ []) = subst IsChain parts h in
    let stay_here : first_staying (Later time) old ≡ mid =
    ap (first_staying (Later time)) parts ∙ ap (λ (t : ℕ). first_staying (Later t) (mid ++ e ∷ [])) (sym at_time)
    ∙ front_stays e mid (front_is_after mid e [] (chain_falls (mid ++ e ∷ []) here)) in
    let kept_is : kept ≡ earliest mid = is_kept ∙ ap earliest stay_here in
    let end = ended kept mid (e ∷ []) here kept_is in
    subst (λ (c : List Keyed). Kept (Later time) (option_and kept last) old c) (sym is_new) (record {
      chain = end.chain;
      starts = last_is_kept kept last mid (e ∷ []) kept_is (is_last ∙ ap latest parts) ∙ sym end.starts;
      stays = end.pending ∙ ap rising (sym stay_here) ∙ rising_staying (Later time) old;
    })

-- the entry that leaves is the last one of its driver's chain
pub record Popped (time driver : ℕ) (old new : List Keyed) : Type 0 where
  pub entry : Keyed
  pub at_time : entry.0.0 ≡ time
  pub parts : chain_of driver old ≡ chain_of driver new ++ entry ∷ []

popped_is : (time driver : ℕ) (e : Keyed) (old new : List Keyed) → e.0.0 ≡ time → e.0.1 ≡ driver → old ≡ e ∷ new → Popped time driver old new
popped_is time driver e old new at_time mine parts = record {
  entry = e;
  at_time = at_time;
  parts = ap (chain_of driver) parts ∙ ap (λ (ys : List Keyed). chain_of driver new ++ ys) (only_mine driver e mine);
}

pub popped : (time driver : ℕ) (old new : List Keyed) (result : Option Keyed) → slice_get (keys_of old) 0 ≡ Some (time, driver) → (IsSome result ↔ (0 < length old)) → IfSome result (λ p. old ≡ p ∷ new)
    → Popped time driver old new
popped time driver [] new result first some removal = cc
popped time driver (e ∷ old) new None first some removal = let there : IsSome {T = Keyed} None = some.1 (omega arith) in cc
popped time driver (e ∷ old) new (Some p) first some removal =
    let is_key : e.0 ≡ (time, driver) = cc in
    let same : e ≡ p = cc in
    let key : p.0 ≡ (time, driver) = ap (λ (x : Keyed). x.0) (sym same) ∙ is_key in
    popped_is time driver p (e ∷ old) new (ap (λ (k : Key). k.0) key) (ap (λ (k : Key). k.1) key) removal
