-- Chains that fall in time, and what a change of the queue's map does to them.
use Rattle.std.proofs.Common.{◌≡◌, ℕ, ◌+◌, ◌<◌, ◌≤◌, true, false, not, eqb, List, [], ◌∷◌, ◌++◌, map, filter, Option, Some, None, ◌⊎◌, inl, inr, refl, sym, ap, subst, ◌∙◌, append_assoc, arith}
use Rattle.std.specs.declared.cmp.Ordering.{Ordering}
use Rattle.std.specs.declared.cmp.Ordering.TheVariants.{Less, Equal, Greater}
use Rattle.std.specs.Ordering.{match_ordering}
use Rattle.std.specs.BTreeMap.{is_at, insert_entry}
use Rattle.std.specs.Map.{keys_of, lookup, remove_entry, set_value}
use Rattle.std.specs.List.{AllByRecursion}
use Rattle.std.specs.List.Sorted.{IsStrictlySortedBy}
use Rattle.std.proofs.lemmas.Bool.{le-ltb, lt-ltb, lt-leb, le-leb, cases_eq, cases_Bool, eq-eqb, ne_eqb}
use Rattle.std.proofs.lemmas.List.{append-nil, map-append}
use Rattle.std.proofs.lemmas.List.Elements.{filter-append}
use Rattle.std.proofs.lemmas.Map.Keys.{sorted_head, sorted_tail}
use Rattle.vital_agenda.specs.declared.entry.Entry.{Entry}
use Rattle.vital_agenda.specs.Queues.{Keyed, latest, ComesBefore, IsChain, only_of, chain_of, AllBefore, Falls, is_before, is_after, is_up_to, without, with_none_before, entry_of}
use Rattle.vital_agenda.proofs.Keys.{Key, key_cmp, key_less, key_equal, key_greater, key_less_trans, key_same, found_is, found_there}

-- ---- entries that come after a time, or before it

abbrev pub AllAfter : ℕ → List Keyed → Type 0
AllAfter time [] = Unit {0}
AllAfter time (e ∷ es) = (time < e.0.0) × AllAfter time es

abbrev cons : Keyed → List Keyed → List Keyed
cons e es = e ∷ es

pub after_append : (time : ℕ) (xs ys : List Keyed) → AllAfter time xs → AllAfter time ys → AllAfter time (xs ++ ys)
after_append time [] ys h k = k
after_append time (x ∷ xs) ys h k = (h.0, after_append time xs ys h.1 k)

pub before_parts : (time : ℕ) (xs ys : List Keyed) → AllBefore time (xs ++ ys) → AllBefore time xs × AllBefore time ys
before_parts time [] ys h = (tt, h)
before_parts time (x ∷ xs) ys h = let rest = before_parts time xs ys h.1 in ((h.0, rest.0), rest.1)

pub front_falls : (xs ys : List Keyed) → Falls (xs ++ ys) → Falls xs
front_falls [] ys h = tt
front_falls (x ∷ xs) ys h = ((before_parts x.0.0 xs ys h.0).0, front_falls xs ys h.1)

pub rest_falls : (xs ys : List Keyed) → Falls (xs ++ ys) → Falls ys
rest_falls [] ys h = h
rest_falls (x ∷ xs) ys h = rest_falls xs ys h.1

pub front_is_after : (xs : List Keyed) (y : Keyed) (ys : List Keyed) → Falls (xs ++ y ∷ ys) → AllAfter y.0.0 xs
front_is_after [] y ys h = tt
front_is_after (x ∷ xs) y ys h = ((before_parts x.0.0 xs (y ∷ ys) h.0).1.0, front_is_after xs y ys h.1)

pub before_more : (low high : ℕ) (xs : List Keyed) → low ≤ high → AllBefore low xs → AllBefore high xs
before_more low high [] le h = tt
before_more low high (x ∷ xs) le h = (omega (arith, h.0), before_more low high xs le h.1)

pub after_less : (low high : ℕ) (xs : List Keyed) → low ≤ high → AllAfter high xs → AllAfter low xs
after_less low high [] le h = tt
after_less low high (x ∷ xs) le h = (omega (arith, h.0), after_less low high xs le h.1)

-- ---- parts of them

pub after_is_after : (time : ℕ) (xs : List Keyed) → AllAfter time xs → filter (is_after time) xs ≡ xs
after_is_after time [] h = refl
after_is_after time (x ∷ xs) h = rw (lt-ltb time x.0.0 h.0) (ap (cons x) (after_is_after time xs h.1))

pub after_not_before : (time : ℕ) (xs : List Keyed) → AllAfter time xs → filter (is_before time) xs ≡ []
after_not_before time [] h = refl
after_not_before time (x ∷ xs) h = rw (le-ltb x.0.0 time (omega (arith, h.0))) (after_not_before time xs h.1)

pub before_is_before : (time : ℕ) (xs : List Keyed) → AllBefore time xs → filter (is_before time) xs ≡ xs
before_is_before time [] h = refl
before_is_before time (x ∷ xs) h = rw (lt-ltb x.0.0 time h.0) (ap (cons x) (before_is_before time xs h.1))

pub before_not_after : (time : ℕ) (xs : List Keyed) → AllBefore time xs → filter (is_after time) xs ≡ []
before_not_after time [] h = refl
before_not_after time (x ∷ xs) h = rw (le-ltb time x.0.0 (omega (arith, h.0))) (before_not_after time xs h.1)

pub after_not_up_to : (time : ℕ) (xs : List Keyed) → AllAfter time xs → filter (is_up_to time) xs ≡ []
after_not_up_to time [] h = refl
after_not_up_to time (x ∷ xs) h = rw (lt-leb x.0.0 time h.0) (after_not_up_to time xs h.1)

pub up_to_all : (time : ℕ) (xs : List Keyed) → AllBefore (time + 1) xs → filter (is_up_to time) xs ≡ xs
up_to_all time [] h = refl
up_to_all time (x ∷ xs) h = rw (le-leb x.0.0 time (omega (arith, h.0))) (ap (cons x) (up_to_all time xs h.1))

pub without_after : (time : ℕ) (xs : List Keyed) → AllAfter time xs → without time xs ≡ xs
without_after time [] h = refl
without_after time (x ∷ xs) h = rw (ne_eqb x.0.0 time (λ same. omega (arith, h.0))) (ap (cons x) (without_after time xs h.1))

pub without_before : (time : ℕ) (xs : List Keyed) → AllBefore time xs → without time xs ≡ xs
without_before time [] h = refl
without_before time (x ∷ xs) h = rw (ne_eqb x.0.0 time (λ same. omega (arith, h.0))) (ap (cons x) (without_before time xs h.1))

pub none_after : (time : ℕ) (xs : List Keyed) → AllAfter time xs → entry_of time xs ≡ None
none_after time [] h = refl
none_after time (x ∷ xs) h = rw (ne_eqb x.0.0 time (λ same. omega (arith, h.0))) (none_after time xs h.1)

pub unmarked_after : (time : ℕ) (xs : List Keyed) → AllAfter time xs → map (with_none_before time) xs ≡ xs
unmarked_after time [] h = refl
unmarked_after time (x ∷ xs) h = rw (ne_eqb x.0.0 time (λ same. omega (arith, h.0))) (ap (cons x) (unmarked_after time xs h.1))

pub entry_append_none : (time : ℕ) (xs ys : List Keyed) → entry_of time xs ≡ None → entry_of time (xs ++ ys) ≡ entry_of time ys
entry_append_none time [] ys h = refl
entry_append_none time (x ∷ xs) ys h = elim (cases_eq x.0.0 time) [
  | inl same ↦ let no : Some x.1 ≡ None = rw (eq-eqb x.0.0 time same) at h in cc
  | inr other ↦ rw (ne_eqb x.0.0 time other) (entry_append_none time xs ys (rw (ne_eqb x.0.0 time other) at h))
]

pub entry_append : (time : ℕ) (xs ys : List Keyed) → entry_of time ys ≡ None → entry_of time (xs ++ ys) ≡ entry_of time xs
entry_append time [] ys h = h
entry_append time (x ∷ xs) ys h = elim (cases_eq x.0.0 time) [
  | inl same ↦ rw (eq-eqb x.0.0 time same) refl
  | inr other ↦ rw (ne_eqb x.0.0 time other) (entry_append time xs ys h)
]

-- ---- one entry of a driver, or of another

pub only_mine : (driver : ℕ) (e : Keyed) → e.0.1 ≡ driver → only_of driver e ≡ e ∷ []
only_mine driver e same = rw (eq-eqb e.0.1 driver same) refl

pub only_others : (driver : ℕ) (e : Keyed) → (e.0.1 ≡ driver → ⊥) → only_of driver e ≡ []
only_others driver e other = rw (ne_eqb e.0.1 driver other) refl

pub append_other : (driver : ℕ) (e : Keyed) (xs : List Keyed) → (e.0.1 ≡ driver → ⊥) → xs ++ only_of driver e ≡ xs
append_other driver e xs other = ap (λ (ys : List Keyed). xs ++ ys) (only_others driver e other) ∙ append-nil xs

-- ---- an entry is put in

-- where all keys of a list come after a key, all its driver's entries come after its time
all_come_after : (k : Key) (es : List Keyed) → AllByRecursion (λ y. key_cmp k y ≡ Less) (keys_of es) → AllAfter k.0 (chain_of k.1 es)
all_come_after k [] h = tt
all_come_after k (e ∷ es) h = after_append k.0 (chain_of k.1 es) (only_of k.1 e) (all_come_after k es h.1) (elim (cases_eq e.0.1 k.1) [
  | inl same ↦ subst (AllAfter k.0) (sym (only_mine k.1 e same)) (elim (key_less k e.0 h.0) [ inl lt ↦ (lt, tt) | inr both ↦ absurd (omega arith) ])
  | inr other ↦ subst (AllAfter k.0) (sym (only_others k.1 e other)) tt
])

all_less_through : (k l : Key) (ks : List Key) → key_cmp k l ≡ Less → AllByRecursion (λ y. key_cmp l y ≡ Less) ks → AllByRecursion (λ y. key_cmp k y ≡ Less) ks
all_less_through k l [] h all = tt
all_less_through k l (m ∷ ks) h all = (key_less_trans k l m h all.0, all_less_through k l ks h all.1)

-- the entries after a time, a new one at the time, and the entries before it
abbrev pub with_entry : ℕ → Keyed → List Keyed → List Keyed
with_entry time new chain = filter (is_after time) chain ++ new ∷ filter (is_before time) chain

-- where all come after the time
put_last : (time : ℕ) (new : Keyed) (chain : List Keyed) → AllAfter time chain → chain ++ new ∷ [] ≡ with_entry time new chain
put_last time new chain h = sym (ap (λ (xs : List Keyed). xs ++ new ∷ filter (is_before time) chain) (after_is_after time chain h) ∙ ap (λ (ys : List Keyed). chain ++ new ∷ ys) (after_not_before time chain h))

-- where one more comes before the time
put_not_last : (time : ℕ) (new e : Keyed) (chain : List Keyed) → e.0.0 < time → with_entry time new chain ++ e ∷ [] ≡ with_entry time new (chain ++ e ∷ [])
put_not_last time new e chain lt =
    let behind : filter (is_after time) (chain ++ e ∷ []) ≡ filter (is_after time) chain =
    filter-append (is_after time) chain (e ∷ []) ∙ rw (le-ltb time e.0.0 (omega arith)) (append-nil (filter (is_after time) chain)) in
    let ahead : filter (is_before time) (chain ++ e ∷ []) ≡ filter (is_before time) chain ++ e ∷ [] =
    filter-append (is_before time) chain (e ∷ []) ∙ rw (lt-ltb e.0.0 time lt) refl in
    append_assoc (filter (is_after time) chain) (new ∷ filter (is_before time) chain) (e ∷ [])
    ∙ sym (ap (λ (xs : List Keyed). xs ++ new ∷ filter (is_before time) (chain ++ e ∷ [])) behind ∙ ap (λ (ys : List Keyed). filter (is_after time) chain ++ new ∷ ys) ahead)

-- where the last one is at the time
put_in_place : (time : ℕ) (new e : Keyed) (chain : List Keyed) → e.0.0 ≡ time → AllAfter time chain → chain ++ new ∷ [] ≡ with_entry time new (chain ++ e ∷ [])
put_in_place time new e chain same h =
    let behind : filter (is_after time) (chain ++ e ∷ []) ≡ chain =
    filter-append (is_after time) chain (e ∷ []) ∙ rw (le-ltb time e.0.0 (omega arith), after_is_after time chain h) (append-nil chain) in
    let ahead : filter (is_before time) (chain ++ e ∷ []) ≡ [] =
    filter-append (is_before time) chain (e ∷ []) ∙ rw (le-ltb e.0.0 time (omega arith), after_not_before time chain h) refl in
    sym (ap (λ (xs : List Keyed). xs ++ new ∷ filter (is_before time) (chain ++ e ∷ [])) behind ∙ ap (λ (ys : List Keyed). chain ++ new ∷ ys) ahead)

put_by_order : (time driver : ℕ) (v : Entry) (e : Keyed) (es : List Keyed) → IsStrictlySortedBy key_cmp (keys_of (e ∷ es))
    → chain_of driver (insert_entry key_cmp es (time, driver) v) ≡ with_entry time ((time, driver), v) (chain_of driver es)
    → (o : Ordering) → key_cmp (time, driver) e.0 ≡ o
    → chain_of driver (match_ordering o (((time, driver), v) ∷ e ∷ es) ((e.0, v) ∷ es) (e ∷ insert_entry key_cmp es (time, driver) v)) ≡ with_entry time ((time, driver), v) (chain_of driver (e ∷ es))
put_by_order time driver v e es sorted rest Less is =
    let later = all_less_through (time, driver) e.0 (keys_of es) is (sorted_head key_cmp e.0 (keys_of es) sorted) in
    ap (λ (ys : List Keyed). chain_of driver (e ∷ es) ++ ys) (only_mine driver ((time, driver), v) refl)
    ∙ put_last time ((time, driver), v) (chain_of driver (e ∷ es)) (all_come_after (time, driver) (e ∷ es) (is, later))
put_by_order time driver v e es sorted rest Equal is =
    let same = key_equal (time, driver) e.0 is in
    let after : AllAfter e.0.0 (chain_of e.0.1 es) = all_come_after e.0 es (sorted_head key_cmp e.0 (keys_of es) sorted) in
    let after_mine : AllAfter time (chain_of driver es) = subst (λ (t : ℕ). AllAfter t (chain_of driver es)) (sym same.0) (subst (λ (d : ℕ). AllAfter e.0.0 (chain_of d es)) (sym same.1) after) in
    ap (λ (ys : List Keyed). chain_of driver es ++ ys) (only_mine driver (e.0, v) (sym same.1))
    ∙ ap (λ (k : Key). chain_of driver es ++ (k, v) ∷ []) (sym (key_same (time, driver) e.0 same.0 same.1))
    ∙ put_in_place time ((time, driver), v) e (chain_of driver es) (sym same.0) after_mine
    ∙ ap (λ (ys : List Keyed). with_entry time ((time, driver), v) (chain_of driver es ++ ys)) (sym (only_mine driver e (sym same.1)))
put_by_order time driver v e es sorted rest Greater is =
    ap (λ (ys : List Keyed). ys ++ only_of driver e) rest ∙ elim (cases_eq e.0.1 driver) [
      | inl same ↦
          let lt : e.0.0 < time = elim (key_greater (time, driver) e.0 is) [ inl gt ↦ gt | inr both ↦ absurd (omega arith) ] in
          ap (λ (ys : List Keyed). with_entry time ((time, driver), v) (chain_of driver es) ++ ys) (only_mine driver e same)
          ∙ put_not_last time ((time, driver), v) e (chain_of driver es) lt
          ∙ ap (λ (ys : List Keyed). with_entry time ((time, driver), v) (chain_of driver es ++ ys)) (sym (only_mine driver e same))
      | inr other ↦
          append_other driver e (with_entry time ((time, driver), v) (chain_of driver es)) other
          ∙ ap (with_entry time ((time, driver), v)) (sym (append_other driver e (chain_of driver es) other))
    ]

pub chain_of_put : (time driver : ℕ) (v : Entry) (es : List Keyed) → IsStrictlySortedBy key_cmp (keys_of es)
    → chain_of driver (insert_entry key_cmp es (time, driver) v) ≡ with_entry time ((time, driver), v) (chain_of driver es)
chain_of_put time driver v [] sorted = rw (eq-eqb driver driver refl) refl
chain_of_put time driver v (e ∷ es) sorted =
    put_by_order time driver v e es sorted (chain_of_put time driver v es (sorted_tail key_cmp e.0 (keys_of es) sorted)) (key_cmp (time, driver) e.0) refl

others_by_order : (time driver other : ℕ) (v : Entry) (e : Keyed) (es : List Keyed) → (other ≡ driver → ⊥)
    → chain_of other (insert_entry key_cmp es (time, driver) v) ≡ chain_of other es
    → (o : Ordering) → key_cmp (time, driver) e.0 ≡ o
    → chain_of other (match_ordering o (((time, driver), v) ∷ e ∷ es) ((e.0, v) ∷ es) (e ∷ insert_entry key_cmp es (time, driver) v)) ≡ chain_of other (e ∷ es)
others_by_order time driver other v e es apart rest Less is = append_other other ((time, driver), v) (chain_of other (e ∷ es)) (λ same. apart (sym same))
others_by_order time driver other v e es apart rest Equal is =
    let same = key_equal (time, driver) e.0 is in
    append_other other (e.0, v) (chain_of other es) (λ mine. apart (sym mine ∙ sym same.1))
    ∙ sym (append_other other e (chain_of other es) (λ mine. apart (sym mine ∙ sym same.1)))
others_by_order time driver other v e es apart rest Greater is = ap (λ (ys : List Keyed). ys ++ only_of other e) rest

pub others_of_put : (time driver other : ℕ) (v : Entry) (es : List Keyed) → (other ≡ driver → ⊥)
    → chain_of other (insert_entry key_cmp es (time, driver) v) ≡ chain_of other es
others_of_put time driver other v [] apart = append_other other ((time, driver), v) [] (λ same. apart (sym same))
others_of_put time driver other v (e ∷ es) apart =
    others_by_order time driver other v e es apart (others_of_put time driver other v es apart) (key_cmp (time, driver) e.0) refl

-- ---- an entry is looked up, taken out or changed

-- where a search for a key finds one
found_mine : (time driver : ℕ) (e : Keyed) → is_at (key_cmp (time, driver)) e.0 ≡ true → (e.0.0 ≡ time) × (only_of driver e ≡ e ∷ [])
found_mine time driver e h = let same = found_is (time, driver) e.0 h in (sym same.0, only_mine driver e (sym same.1))

-- where it does not, the driver has none there
not_found_mine : (time driver : ℕ) (e : Keyed) → is_at (key_cmp (time, driver)) e.0 ≡ false
    → (only_of driver e ≡ []) ⊎ ((only_of driver e ≡ e ∷ []) × (e.0.0 ≡ time → ⊥))
not_found_mine time driver e h = elim (cases_eq e.0.1 driver) [
  | inl same ↦ inr (only_mine driver e same, λ at_time. let there = found_there (time, driver) e.0 (sym at_time) (sym same) in cc)
  | inr other ↦ inl (only_others driver e other)
]

pub entry_in_chain : (time driver : ℕ) (es : List Keyed) → Falls (chain_of driver es)
    → lookup (is_at (key_cmp (time, driver))) es ≡ entry_of time (chain_of driver es)
entry_in_chain time driver [] falls = refl
entry_in_chain time driver (e ∷ es) falls = elim (cases_Bool (is_at (key_cmp (time, driver)) e.0)) [
  | inl hit ↦
      let mine = found_mine time driver e hit in
      let falls_here : Falls (chain_of driver es ++ e ∷ []) = subst (λ (ys : List Keyed). Falls (chain_of driver es ++ ys)) mine.1 falls in
      let none : entry_of time (chain_of driver es) ≡ None = none_after time (chain_of driver es) (subst (λ (t : ℕ). AllAfter t (chain_of driver es)) mine.0 (front_is_after (chain_of driver es) e [] falls_here)) in
      let here : entry_of time (e ∷ []) ≡ Some e.1 = rw (eq-eqb e.0.0 time mine.0) refl in
      rw hit (sym (ap (λ (ys : List Keyed). entry_of time (chain_of driver es ++ ys)) mine.1 ∙ entry_append_none time (chain_of driver es) (e ∷ []) none ∙ here))
  | inr miss ↦
      let rest = entry_in_chain time driver es (front_falls (chain_of driver es) (only_of driver e) falls) in
      let none : entry_of time (only_of driver e) ≡ None = elim (not_found_mine time driver e miss) [
        | inl empty ↦ ap (entry_of time) empty
        | inr both ↦ ap (entry_of time) both.0 ∙ rw (ne_eqb e.0.0 time both.1) refl
      ] in
      rw miss (rest ∙ sym (entry_append time (chain_of driver es) (only_of driver e) none))
]

pub chain_of_remove : (time driver : ℕ) (es : List Keyed) → Falls (chain_of driver es)
    → chain_of driver (remove_entry (is_at (key_cmp (time, driver))) es) ≡ without time (chain_of driver es)
chain_of_remove time driver [] falls = refl
chain_of_remove time driver (e ∷ es) falls = elim (cases_Bool (is_at (key_cmp (time, driver)) e.0)) [
  | inl hit ↦
      let mine = found_mine time driver e hit in
      let falls_here : Falls (chain_of driver es ++ e ∷ []) = subst (λ (ys : List Keyed). Falls (chain_of driver es ++ ys)) mine.1 falls in
      let after : AllAfter time (chain_of driver es) = subst (λ (t : ℕ). AllAfter t (chain_of driver es)) mine.0 (front_is_after (chain_of driver es) e [] falls_here) in
      let gone : without time (e ∷ []) ≡ [] = rw (eq-eqb e.0.0 time mine.0) refl in
      rw hit (sym (ap (λ (ys : List Keyed). without time (chain_of driver es ++ ys)) mine.1 ∙ filter-append (λ x. not (eqb x.0.0 time)) (chain_of driver es) (e ∷ [])
      ∙ ap (λ (ys : List Keyed). without time (chain_of driver es) ++ ys) gone ∙ append-nil (without time (chain_of driver es)) ∙ without_after time (chain_of driver es) after))
  | inr miss ↦
      let rest = chain_of_remove time driver es (front_falls (chain_of driver es) (only_of driver e) falls) in
      let stays : without time (only_of driver e) ≡ only_of driver e = elim (not_found_mine time driver e miss) [
        | inl empty ↦ ap (without time) empty ∙ sym empty
        | inr both ↦ ap (without time) both.0 ∙ rw (ne_eqb e.0.0 time both.1) (sym both.0)
      ] in
      rw miss (ap (λ (ys : List Keyed). ys ++ only_of driver e) rest ∙ ap (λ (ys : List Keyed). without time (chain_of driver es) ++ ys) (sym stays)
      ∙ sym (filter-append (λ x. not (eqb x.0.0 time)) (chain_of driver es) (only_of driver e)))
]

pub others_of_remove : (time driver other : ℕ) (es : List Keyed) → (other ≡ driver → ⊥)
    → chain_of other (remove_entry (is_at (key_cmp (time, driver))) es) ≡ chain_of other es
others_of_remove time driver other [] apart = refl
others_of_remove time driver other (e ∷ es) apart = elim (cases_Bool (is_at (key_cmp (time, driver)) e.0)) [
  | inl hit ↦ rw hit (sym (append_other other e (chain_of other es) (λ mine. apart (sym mine ∙ sym (found_is (time, driver) e.0 hit).1))))
  | inr miss ↦ rw miss (ap (λ (ys : List Keyed). ys ++ only_of other e) (others_of_remove time driver other es apart))
]

-- the first entry, with none before it
abbrev pub first_entry : Entry → Entry
first_entry old = record { value = old.value; before = None }

pub chain_of_first : (time driver : ℕ) (old : Entry) (es : List Keyed) → Falls (chain_of driver es) → lookup (is_at (key_cmp (time, driver))) es ≡ Some old
    → chain_of driver (set_value (is_at (key_cmp (time, driver))) es (first_entry old)) ≡ map (with_none_before time) (chain_of driver es)
chain_of_first time driver old [] falls h = refl
chain_of_first time driver old (e ∷ es) falls h = elim (cases_Bool (is_at (key_cmp (time, driver)) e.0)) [
  | inl hit ↦
      let mine = found_mine time driver e hit in
      let is_old : Some e.1 ≡ Some old = rw hit at h in
      let value : e.1 ≡ old = cc in
      let falls_here : Falls (chain_of driver es ++ e ∷ []) = subst (λ (ys : List Keyed). Falls (chain_of driver es ++ ys)) mine.1 falls in
      let after : AllAfter time (chain_of driver es) = subst (λ (t : ℕ). AllAfter t (chain_of driver es)) mine.0 (front_is_after (chain_of driver es) e [] falls_here) in
      let marked : map (with_none_before time) (e ∷ []) ≡ (e.0, first_entry e.1) ∷ [] = rw (eq-eqb e.0.0 time mine.0) refl in
      let changed : only_of driver (e.0, first_entry old) ≡ (e.0, first_entry old) ∷ [] = only_mine driver (e.0, first_entry old) (sym (found_is (time, driver) e.0 hit).1) in
      rw hit (ap (λ (ys : List Keyed). chain_of driver es ++ ys) (changed ∙ ap (λ (v : Entry). (e.0, first_entry v) ∷ []) (sym value) ∙ sym marked)
      ∙ ap (λ (xs : List Keyed). xs ++ map (with_none_before time) (e ∷ [])) (sym (unmarked_after time (chain_of driver es) after))
      ∙ sym (map-append (with_none_before time) (chain_of driver es) (e ∷ [])) ∙ ap (λ (ys : List Keyed). map (with_none_before time) (chain_of driver es ++ ys)) (sym mine.1))
  | inr miss ↦
      let later : lookup (is_at (key_cmp (time, driver))) es ≡ Some old = rw miss at h in
      let rest = chain_of_first time driver old es (front_falls (chain_of driver es) (only_of driver e) falls) later in
      let unmarked : map (with_none_before time) (only_of driver e) ≡ only_of driver e = elim (not_found_mine time driver e miss) [
        | inl empty ↦ ap (map (with_none_before time)) empty ∙ sym empty
        | inr both ↦ ap (map (with_none_before time)) both.0 ∙ rw (ne_eqb e.0.0 time both.1) (sym both.0)
      ] in
      rw miss (ap (λ (ys : List Keyed). ys ++ only_of driver e) rest ∙ ap (λ (ys : List Keyed). map (with_none_before time) (chain_of driver es) ++ ys) (sym unmarked)
      ∙ sym (map-append (with_none_before time) (chain_of driver es) (only_of driver e)))
]

pub others_of_first : (time driver other : ℕ) (v : Entry) (es : List Keyed) → (other ≡ driver → ⊥)
    → chain_of other (set_value (is_at (key_cmp (time, driver))) es v) ≡ chain_of other es
others_of_first time driver other v [] apart = refl
others_of_first time driver other v (e ∷ es) apart = elim (cases_Bool (is_at (key_cmp (time, driver)) e.0)) [
  | inl hit ↦
      let not_mine : e.0.1 ≡ other → ⊥ = λ mine. apart (sym mine ∙ sym (found_is (time, driver) e.0 hit).1) in
      rw hit (append_other other (e.0, v) (chain_of other es) not_mine ∙ sym (append_other other e (chain_of other es) not_mine))
  | inr miss ↦ rw miss (ap (λ (ys : List Keyed). ys ++ only_of other e) (others_of_first time driver other v es apart))
]

-- where none is at a time, none is marked
pub unmarked_none : (time : ℕ) (xs : List Keyed) → entry_of time xs ≡ None → map (with_none_before time) xs ≡ xs
unmarked_none time [] h = refl
unmarked_none time (x ∷ xs) h = elim (cases_eq x.0.0 time) [
  | inl same ↦ let no : Some x.1 ≡ None = rw (eq-eqb x.0.0 time same) at h in cc
  | inr other ↦ rw (ne_eqb x.0.0 time other) (ap (cons x) (unmarked_none time xs (rw (ne_eqb x.0.0 time other) at h)))
]

pub without_none : (time : ℕ) (xs : List Keyed) → entry_of time xs ≡ None → without time xs ≡ xs
without_none time [] h = refl
without_none time (x ∷ xs) h = elim (cases_eq x.0.0 time) [
  | inl same ↦ let no : Some x.1 ≡ None = rw (eq-eqb x.0.0 time same) at h in cc
  | inr other ↦ rw (ne_eqb x.0.0 time other) (ap (cons x) (without_none time xs (rw (ne_eqb x.0.0 time other) at h)))
]

-- ---- a chain falls

chain_before : (time : ℕ) (xs : List Keyed) → ComesBefore (latest xs) time → Falls xs → AllBefore time xs
chain_before time [] h falls = tt
chain_before time (x ∷ xs) h falls = (h, before_more x.0.0 time xs (omega arith) falls.0)

pub chain_falls : (xs : List Keyed) → IsChain xs → Falls xs
chain_falls [] h = tt
chain_falls (x ∷ xs) h =
    let rest = chain_falls xs h.2 in
    (chain_before x.0.0 xs (subst (λ (b : Option ℕ). ComesBefore b x.0.0) h.0 h.1) rest, rest)
