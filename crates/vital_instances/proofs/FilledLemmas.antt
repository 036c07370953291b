-- All that are in each instance are found.
use Rattle.std.proofs.Common.{◌≡◌, ℕ, zero, suc, ◌+◌, ◌≤◌, ◌<◌, List, [], ◌∷◌, ◌++◌, length, refl, sym, ap, subst, ◌∙◌, inl, inr, arith, length-append}
use Rattle.std.specs.Prelude.{◌⊎◌, nat_lt, Option, Some, None, Ok}
use Rattle.std.specs.List.{slice_get}
use Rattle.std.proofs.lemmas.Bool.{cases_lt}
use Rattle.std.proofs.lemmas.Option.{none-some, same_Some, slice_get_within}
use Rattle.vital_library.specs.Numbers.{number_named}
use Rattle.vital_library.specs.Units.{entities}
use Rattle.vital_nodes.specs.declared.unit.Entity.{Entity}
use Rattle.vital_nodes.specs.declared.unit.Units.{Units}
use Rattle.vital_instances.specs.declared.instance.Instance.{Instance}
use Rattle.vital_instances.specs.Children.{Child}
use Rattle.vital_instances.specs.Contents.{children_at}
use Rattle.vital_instances.specs.Designs.{AreEntered, HasInstance, HaveChildren}
use Rattle.vital_instances.specs.Faults.{Loop, TooDeep, TooManyInstances}
use Rattle.vital_instances.specs.Instances.{Enter, Entry, enter, enter_from, enter_top, enter_unit, entry_of, instance_of, instances_under, is_above, most_instances, most_labels, opened, top_entry}
use Rattle.vital_instances.specs.Judges.{Judge}
use Rattle.vital_instances.specs.Units.{Unit, unit_at}
use Rattle.vital_instances.proofs.DesignLemmas.{followed-good, get-last, get-left, never-good, ok-same, opened-are, placed-good}

-- those before are among these
abbrev IsMore : List Instance → List Instance → Type 0
IsMore found new = (k : ℕ) (x : Instance) → slice_get found k ≡ Some x → slice_get new k ≡ Some x

-- all that are in those from a number on were found
abbrev AreFilled : List Units → ℕ → List Instance → Type 0
AreFilled files from new = (n k : ℕ) (i : Instance) (c : Child) → from ≤ n → slice_get new n ≡ Some i → slice_get (children_at files i.entity) k ≡ Some c → HasInstance new c.entity

record Fills (files : List Units) (entity : ℕ) (found new : List Instance) : Type 0 where
  pub more : IsMore found new
  pub here : HasInstance new entity
  pub filled : AreFilled files (length found) new

record FillsAll (files : List Units) (cs : List Child) (found new : List Instance) : Type 0 where
  pub more : IsMore found new
  pub here : (k : ℕ) (c : Child) → slice_get cs k ≡ Some c → HasInstance new c.entity
  pub filled : AreFilled files (length found) new

has-more : (found new : List Instance) (n : ℕ) → IsMore found new → HasInstance found n → HasInstance new n
has-more found new n more has = (has.0, has.1, more has.0 has.1 has.2, has.3)

-- an instance that was there is still the same
same-there : (found new : List Instance) (n : ℕ) (i : Instance) (o : Option Instance) → slice_get found n ≡ o → IsMore found new → slice_get new n ≡ Some i → n < length found → slice_get found n ≡ Some i
same-there found new n i None is more there within = absurd (outside found n is within)
  where
    outside : (xs : List Instance) (m : ℕ) → slice_get xs m ≡ None → m < length xs → ⊥
    outside [] m is within = omega (arith, within)
    outside (x ∷ xs) zero is within = cc
    outside (x ∷ xs) (suc m) is within = outside xs m is (omega (arith, within))
same-there found new n i (Some x) is more there within =
    let same : x ≡ i = same_Some x i (sym (more n x is) ∙ there) in
    is ∙ ap (λ (y : Instance). Some y) same

from-fills : (files : List Units) (one : Enter) → ((e : Entry) (found new : List Instance) → one e found ≡ Ok new → Fills files e.entity found new) → (parent n : ℕ) (cs : List Child) (found new : List Instance) → enter_from one parent n cs found ≡ Ok new → FillsAll files cs found new
from-fills files one fills parent n [] found new is =
    subst (FillsAll files [] found) (ok-same found new is)
    (record { more = λ k x there. there; here = λ k c there. absurd (none-some c there); filled = λ m k i c from there child. absurd (late m i from there) })
  where
    late : (m : ℕ) (i : Instance) → length found ≤ m → slice_get found m ≡ Some i → ⊥
    late m i from there = omega (arith, from, slice_get_within found m i there)
from-fills files one fills parent n (c ∷ cs) found new is =
    let parts = followed-good (one (entry_of parent n c) found) (enter_from one parent (n + 1) cs) new is in
    let first = fills (entry_of parent n c) found parts.0 parts.1 in
    let rest = from-fills files one fills parent (n + 1) cs parts.0 new parts.2 in
    record {
      more = λ k x there. rest.more k x (first.more k x there);
      here = each parts.0 first.here rest.more rest.here;
      filled = λ m k i d from there child. by-number parts.0 first.filled rest.more rest.filled m k i d from there child (cases_lt m (length parts.0));
    }
  where
    each : (middle : List Instance) → HasInstance middle c.entity → IsMore middle new → ((k : ℕ) (d : Child) → slice_get cs k ≡ Some d → HasInstance new d.entity) → (k : ℕ) (d : Child) → slice_get (c ∷ cs) k ≡ Some d → HasInstance new d.entity
    each middle has more rest zero d there = subst (λ (x : Child). HasInstance new x.entity) (same_Some c d there) (has-more middle new c.entity more has)
    each middle has more rest (suc k) d there = rest k d there

    by-number : (middle : List Instance) → AreFilled files (length found) middle → IsMore middle new → AreFilled files (length middle) new → (m k : ℕ) (i : Instance) (d : Child) → length found ≤ m → slice_get new m ≡ Some i → slice_get (children_at files i.entity) k ≡ Some d → (m < length middle) ⊎ (length middle ≤ m) → HasInstance new d.entity
    by-number middle before more after m k i d from there child (inl early) =
        has-more middle new d.entity more (before m k i d from (same-there middle new m i (slice_get middle m) refl more there early) child)
    by-number middle before more after m k i d from there child (inr late) = after m k i d late there child

unit-fills : (judge : Judge) (files : List Units) (one : Enter) → ((e : Entry) (found new : List Instance) → one e found ≡ Ok new → Fills files e.entity found new) → (e : Entry) (found new : List Instance) (o : Option Unit) → unit_at files e.entity ≡ o → enter_unit judge files one e found o ≡ Ok new → Fills files e.entity found new
unit-fills judge files one fills e found new None there is = absurd (cc)
unit-fills judge files one fills e found new (Some u) there is =
    let i = instance_of e in
    let parts = followed-good (opened judge files u) (λ cs. enter_from one (length found) 0 cs (found ++ i ∷ [])) new is in
    let rest = from-fills files one fills (length found) 0 parts.0 (found ++ i ∷ []) new parts.2 in
    let here = rest.more (length found) i (get-last found i) in
    record {
      more = λ k x at. rest.more k x (get-left found (i ∷ []) k x at);
      here = (length found, i, here, refl);
      filled = λ n k j c from at child. by-number parts.0 (opened-are judge files e.entity u parts.0 there parts.1) rest.here rest.filled here n k j c from at child (cases_lt (length found) n);
    }
  where
    by-number : (cs : List Child) → children_at files e.entity ≡ cs → ((k : ℕ) (c : Child) → slice_get cs k ≡ Some c → HasInstance new c.entity) → AreFilled files (length (found ++ instance_of e ∷ [])) new → slice_get new (length found) ≡ Some (instance_of e) → (n k : ℕ) (j : Instance) (c : Child) → length found ≤ n → slice_get new n ≡ Some j → slice_get (children_at files j.entity) k ≡ Some c → (length found < n) ⊎ (n ≤ length found) → HasInstance new c.entity
    by-number cs are each filled here n k j c from at child (inl late) = filled n k j c (omega (arith, length-append found (instance_of e ∷ []), late)) at child
    by-number cs are each filled here n k j c from at child (inr early) =
        let this : n ≡ length found = omega (arith, from, early) in
        let same : j ≡ instance_of e = same_Some j (instance_of e) (sym at ∙ ap (slice_get new) this ∙ here) in
        each k c (sym (ap (λ xs. slice_get xs k) (ap (λ (x : Instance). children_at files x.entity) same ∙ are)) ∙ child)

enter-fills : (judge : Judge) (files : List Units) (left : ℕ) (above : List ℕ) (e : Entry) (found new : List Instance) → enter judge files left above e found ≡ Ok new → Fills files e.entity found new
enter-fills judge files zero above e found new is =
    absurd (never-good (is_above above e.entity) (Loop e.name) (TooDeep e.name) new is)
enter-fills judge files (suc left) above e found new is =
    let inside = enter judge files left (above ++ e.entity ∷ []) in
    unit-fills judge files inside (enter-fills judge files left (above ++ e.entity ∷ [])) e found new (unit_at files e.entity) refl
    (placed-good (is_above above e.entity) (nat_lt (length found) most_instances) (Loop e.name) (TooManyInstances e.name) (enter_unit judge files inside e found (unit_at files e.entity)) new is).1

top-filled : (judge : Judge) (files : List Units) (n : ℕ) (o : Option Entity) (new : List Instance) → enter_top judge files n o ≡ Ok new → HaveChildren files new
top-filled judge files n None new is = absurd (cc)
top-filled judge files n (Some entity) new is = λ m k i c there child.
    (enter-fills judge files (suc most_labels) [] (top_entry n entity) [] new is).filled m k i c (omega arith) there child

under-filled : (judge : Judge) (files : List Units) (o : Option ℕ) (new : List Instance) → instances_under judge files o ≡ Ok new → HaveChildren files new
under-filled judge files None new is = absurd (cc)
under-filled judge files (Some n) new is = top-filled judge files n (slice_get (entities files) n) new is

pub all-filled : (files : List Units) (found : List Instance) → AreEntered files found → HaveChildren files found
all-filled files found are = under-filled are.0 files (number_named are.1 files) found are.3
