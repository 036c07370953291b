-- A walk back from the last entry of a driver.
use Rattle.std.proofs.Common.{◌≡◌, ℕ, ◌+◌, ◌<◌, Bool, true, false, cond, List, [], ◌∷◌, ◌++◌, Option, Some, None, refl, sym, ap, subst, ◌∙◌, append_assoc, arith}
use Rattle.vital_agenda.specs.declared.entry.Entry.{Entry}
use Rattle.vital_agenda.specs.declared.stay.Stay.{Stay}
use Rattle.vital_agenda.specs.Queues.{Keyed, latest, earliest, ComesBefore, IsChain, IsTimeOf, Falls, entry_if, entry_staying, stays, transaction_of, first_staying, after_staying}
use Rattle.vital_agenda.proofs.Chains.{chain_falls}
use Rattle.vital_agenda.proofs.Parts.{back_from, entry_here, rest_is_chain, parts_at, left_is}

-- one more than a time that may be missing, or 0
abbrev pub room_of : Option ℕ → ℕ
room_of None = 0
room_of (Some time) = time + 1

-- each of these entries stays
abbrev pub AllStay : Stay → List Keyed → Type 0
AllStay stay [] = Unit {0}
AllStay stay (e ∷ es) = (stays stay (transaction_of e) ≡ true) × AllStay stay es

-- a walk has passed some entries of those from its start back, which stay, and the others are left
pub record Walk (stay : Stay) (chain : List Keyed) (kept rest : Option ℕ) : Type 0 where
  pub passed : List Keyed
  pub left : List Keyed
  pub whole : chain ≡ passed ++ left
  pub all_stay : AllStay stay passed
  pub last_passed : kept ≡ earliest passed
  pub first_left : rest ≡ latest left

pub walk_starts : (stay : Stay) (last : Option ℕ) (chain : List Keyed) → IsChain chain → IsTimeOf last chain → Walk stay (back_from last chain) None last
walk_starts stay last chain h there =
    let p = parts_at last chain there in
    record { passed = []; left = back_from last chain; whole = refl; all_stay = tt; last_passed = refl; first_left = p.first ∙ ap latest (sym (left_is last chain (chain_falls chain h) p)) }

earliest_more : (xs : List Keyed) (e : Keyed) → earliest (xs ++ e ∷ []) ≡ Some e.0.0
earliest_more [] e = refl
earliest_more (x ∷ []) e = refl
earliest_more (x ∷ y ∷ xs) e = earliest_more (y ∷ xs) e

stay_more : (stay : Stay) (xs : List Keyed) (e : Keyed) → AllStay stay xs → stays stay (transaction_of e) ≡ true → AllStay stay (xs ++ e ∷ [])
stay_more stay [] e h k = (k, tt)
stay_more stay (x ∷ xs) e h k = (h.0, stay_more stay xs e h.1 k)

-- what is found at the first entry that is left
found_left : (stay : Stay) (passed : List Keyed) (e : Keyed) (earlier : List Keyed) → Falls (passed ++ e ∷ earlier)
    → entry_staying stay (passed ++ e ∷ earlier) (Some e.0.0) ≡ cond (stays stay (transaction_of e)) (Some e.1) None
found_left stay passed e earlier falls = ap (entry_if stay e.0.0) (entry_here passed e earlier falls)

some_from_cond : (b : Bool) (x y : Entry) → cond b (Some x) None ≡ Some y → (b ≡ true) × (x ≡ y)
some_from_cond true x y h = (refl, cc)
some_from_cond false x y h = cc

none_from_cond : (b : Bool) (x : Entry) → cond b (Some x) None ≡ None → b ≡ false
none_from_cond true x h = cc
none_from_cond false x h = refl

before_is_less : (before : Option ℕ) (time : ℕ) → ComesBefore before time → room_of before < time + 1
before_is_less None time h = omega arith
before_is_less (Some before) time h = omega arith

-- one entry more is passed
pub record WalkStep (stay : Stay) (chain : List Keyed) (rest : Option ℕ) (entry : Entry) : Type 0 where
  pub next : Walk stay chain rest entry.before
  pub less : room_of entry.before < room_of rest

step_at : (stay : Stay) (chain back front : List Keyed) (rest : Option ℕ) (entry : Entry) (passed left : List Keyed) → IsChain chain → chain ≡ (front ++ passed) ++ left → back ≡ passed ++ left
    → AllStay stay passed → rest ≡ latest left → entry_staying stay chain rest ≡ Some entry → WalkStep stay back rest entry
step_at stay chain back front rest entry passed [] h whole parts all_stay first found =
    let no : None ≡ Some entry = subst (λ (r : Option ℕ). entry_staying stay chain r ≡ Some entry) first found in cc
step_at stay chain back front rest entry passed (e ∷ earlier) h whole parts all_stay first found =
    let h_here : IsChain ((front ++ passed) ++ e ∷ earlier) = subst IsChain whole h in
    let falls = chain_falls ((front ++ passed) ++ e ∷ earlier) h_here in
    let links = rest_is_chain (front ++ passed) (e ∷ earlier) h_here in
    let found_first : entry_staying stay chain (Some e.0.0) ≡ Some entry = subst (λ (r : Option ℕ). entry_staying stay chain r ≡ Some entry) first found in
    let found_here : entry_staying stay ((front ++ passed) ++ e ∷ earlier) (Some e.0.0) ≡ Some entry = subst (λ (c : List Keyed). entry_staying stay c (Some e.0.0) ≡ Some entry) whole found_first in
    let both = some_from_cond (stays stay (transaction_of e)) e.1 entry (sym (found_left stay (front ++ passed) e earlier falls) ∙ found_here) in
    let same_before : e.1.before ≡ entry.before = ap (λ (x : Entry). x.before) both.1 in
    record {
      next = record {
        passed = passed ++ e ∷ [];
        left = earlier;
        whole = parts ∙ sym (append_assoc passed (e ∷ []) earlier);
        all_stay = stay_more stay passed e all_stay both.0;
        last_passed = first ∙ sym (earliest_more passed e);
        first_left = sym same_before ∙ links.0;
      };
      less = subst (λ (b : Option ℕ). room_of b < room_of rest) same_before (subst (λ (r : Option ℕ). room_of e.1.before < room_of r) (sym first) (before_is_less e.1.before e.0.0 links.1));
    }

-- the chain in three parts: those from which the walk did not start, those that it passed, and those that are left
whole_in_three : (last : Option ℕ) (chain passed left : List Keyed) → IsChain chain → (there : IsTimeOf last chain) → back_from last chain ≡ passed ++ left
    → chain ≡ ((parts_at last chain there).kept ++ passed) ++ left
whole_in_three last chain passed left h there parts =
    let p = parts_at last chain there in
    p.whole ∙ ap (λ (xs : List Keyed). p.kept ++ xs) (sym (left_is last chain (chain_falls chain h) p) ∙ parts) ∙ sym (append_assoc p.kept passed left)

pub walk_goes_on : (stay : Stay) (last : Option ℕ) (chain : List Keyed) (kept rest : Option ℕ) (entry : Entry) → IsChain chain → IsTimeOf last chain → Walk stay (back_from last chain) kept rest
    → entry_staying stay chain rest ≡ Some entry → WalkStep stay (back_from last chain) rest entry
walk_goes_on stay last chain kept rest entry h there walk found =
    step_at stay chain (back_from last chain) (parts_at last chain there).kept rest entry walk.passed walk.left h (whole_in_three last chain walk.passed walk.left h there walk.whole) walk.whole
    walk.all_stay walk.first_left found

-- where the first that is left does not stay, the passed ones are the first that stay
pub record Halted (stay : Stay) (chain passed left : List Keyed) : Type 0 where
  pub first : first_staying stay chain ≡ passed
  pub after : after_staying stay chain ≡ left

halted_past : (stay : Stay) (passed left : List Keyed) → AllStay stay passed → first_staying stay left ≡ [] → after_staying stay left ≡ left → Halted stay (passed ++ left) passed left
halted_past stay [] left h none after = record { first = none; after = after }
halted_past stay (x ∷ passed) left h none after =
    let rest = halted_past stay passed left h.1 none after in
    record { first = rw h.0 (ap (λ (xs : List Keyed). x ∷ xs) rest.first); after = rw h.0 rest.after }

halts_at : (stay : Stay) (chain back front : List Keyed) (rest : Option ℕ) (passed left : List Keyed) → IsChain chain → chain ≡ (front ++ passed) ++ left → back ≡ passed ++ left
    → AllStay stay passed → rest ≡ latest left → entry_staying stay chain rest ≡ None → Halted stay back passed left
halts_at stay chain back front rest passed [] h whole parts all_stay first found =
    subst (λ (c : List Keyed). Halted stay c passed []) (sym parts) (halted_past stay passed [] all_stay refl refl)
halts_at stay chain back front rest passed (e ∷ earlier) h whole parts all_stay first found =
    let h_here : IsChain ((front ++ passed) ++ e ∷ earlier) = subst IsChain whole h in
    let found_first : entry_staying stay chain (Some e.0.0) ≡ None = subst (λ (r : Option ℕ). entry_staying stay chain r ≡ None) first found in
    let found_here : entry_staying stay ((front ++ passed) ++ e ∷ earlier) (Some e.0.0) ≡ None = subst (λ (c : List Keyed). entry_staying stay c (Some e.0.0) ≡ None) whole found_first in
    let goes : stays stay (transaction_of e) ≡ false =
    none_from_cond (stays stay (transaction_of e)) e.1 (sym (found_left stay (front ++ passed) e earlier (chain_falls ((front ++ passed) ++ e ∷ earlier) h_here)) ∙ found_here) in
    subst (λ (c : List Keyed). Halted stay c passed (e ∷ earlier)) (sym parts) (halted_past stay passed (e ∷ earlier) all_stay (rw goes refl) (rw goes refl))

halted : (stay : Stay) (last : Option ℕ) (chain : List Keyed) (kept rest : Option ℕ) → IsChain chain → IsTimeOf last chain → (walk : Walk stay (back_from last chain) kept rest)
    → entry_staying stay chain rest ≡ None → Halted stay (back_from last chain) walk.passed walk.left
halted stay last chain kept rest h there walk found =
    halts_at stay chain (back_from last chain) (parts_at last chain there).kept rest walk.passed walk.left h (whole_in_three last chain walk.passed walk.left h there walk.whole) walk.whole
    walk.all_stay walk.first_left found

pub kept_at_halt : (stay : Stay) (last : Option ℕ) (chain : List Keyed) (kept rest : Option ℕ) → IsChain chain → IsTimeOf last chain → Walk stay (back_from last chain) kept rest
    → entry_staying stay chain rest ≡ None → kept ≡ earliest (first_staying stay (back_from last chain))
kept_at_halt stay last chain kept rest h there walk found = walk.last_passed ∙ ap earliest (sym (halted stay last chain kept rest h there walk found).first)

pub rest_at_halt : (stay : Stay) (last : Option ℕ) (chain : List Keyed) (kept rest : Option ℕ) → IsChain chain → IsTimeOf last chain → Walk stay (back_from last chain) kept rest
    → entry_staying stay chain rest ≡ None → rest ≡ latest (after_staying stay (back_from last chain))
rest_at_halt stay last chain kept rest h there walk found = walk.first_left ∙ ap latest (sym (halted stay last chain kept rest h there walk found).after)
