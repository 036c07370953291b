-- Entering an instance under others, from the top on.
use Rattle.std.proofs.Common.{◌≡◌, ℕ, ◌+◌, ◌-◌, ◌<◌, ◌≤◌, List, [], ◌∷◌, ◌++◌, length, length-append, drop, refl, sym, ap, subst, ◌∙◌, inl, inr, arith}
use Rattle.std.specs.Prelude.{zero, suc, Bool, true, false, nat_lt, Some, None, Result, Ok, Err, if◌then◌else◌}
use Rattle.std.specs.List.{slice_get}
use Rattle.std.specs.Option.{option_map}
use Rattle.std.proofs.lemmas.Bool.{ltb-false, ltb-true}
use Rattle.std.proofs.lemmas.List.{drop_all, drop_more}
use Rattle.std.proofs.lemmas.Option.{slice_get_cases}
use Rattle.vital_nodes.specs.declared.unit.Units.{Units}
use Rattle.vital_instances.specs.declared.frame.Frame.{Frame}
use Rattle.vital_instances.specs.declared.instance.Instance.{Instance}
use Rattle.vital_instances.specs.Children.{Child}
use Rattle.vital_instances.specs.Contents.{children_at}
use Rattle.vital_instances.specs.Faults.{Fault, UnknownUnit, Loop, TooDeep, TooManyInstances, followed}
use Rattle.vital_instances.specs.Frames.{behind, enter_rest, entered, entered_all, frame_of, is_on_path, misplaced, next, resumed, resumed_all, work}
use Rattle.vital_instances.specs.Instances.{Entry, enter, enter_from, enter_unit, entry_of, instance_of, is_above, most_instances, most_labels, opened}
use Rattle.vital_instances.specs.Judges.{Judge}
use Rattle.vital_instances.specs.Units.{Unit, unit_at}
use Rattle.vital_instances.proofs.LevelLemmas.{above-inner, entered-fault, entered-good, inner, raised, raised-is, resumed-done, resumed-next}
use Rattle.vital_instances.proofs.UnitLemmas.{none-some, some-same}

-- ---- where an instance stands

-- it stands wrong: its entity is on the path, the path is too deep, or there are too many
misplaced-cases : (loops deep few : Bool) (l d m x : Fault) (r : Result (List Instance) Fault) → (if loops then Some l else if deep then Some d else if few then None else Some m) ≡ Some x → (loops ≡ true → r ≡ Err l) → (loops ≡ false → deep ≡ true → r ≡ Err d) → (loops ≡ false → deep ≡ false → few ≡ false → r ≡ Err m) → r ≡ Err x
misplaced-cases true deep few l d m x r is loop depth many = let h : r ≡ Err l = loop refl in cc
misplaced-cases false true few l d m x r is loop depth many = let h : r ≡ Err d = depth refl refl in cc
misplaced-cases false false true l d m x r is loop depth many = cc
misplaced-cases false false false l d m x r is loop depth many = let h : r ≡ Err m = many refl refl refl in cc

-- or it stands well
placed-cases : (loops deep few : Bool) (l d m : Fault) → (if loops then Some l else if deep then Some d else if few then None else Some m) ≡ None → (loops ≡ false) × (deep ≡ false) × (few ≡ true)
placed-cases true deep few l d m is = absurd (cc)
placed-cases false true few l d m is = absurd (cc)
placed-cases false false true l d m is = (refl, refl, refl)
placed-cases false false false l d m is = absurd (cc)

-- an instance that may be entered
pub record IsPlaced (fs : List Frame) (found : List Instance) (e : Entry) : Type 0 where
  pub apart : is_on_path fs e.entity ≡ false
  pub shallow : nat_lt most_labels (length fs) ≡ false
  pub few : nat_lt (length found) most_instances ≡ true

pub placed : (fs : List Frame) (found : List Instance) (e : Entry) → misplaced fs found e ≡ None → IsPlaced fs found e
placed fs found e is =
    let cases = placed-cases (is_on_path fs e.entity) (nat_lt most_labels (length fs)) (nat_lt (length found) most_instances) (Loop e.name) (TooDeep e.name) (TooManyInstances e.name) is in
    record { apart = cases.0; shallow = cases.1; few = cases.2 }

-- ---- under instances, at most so many

-- the entity is on the path above exactly where it is that of an instance above
above-is : (fs : List Frame) (n : ℕ) (b : Bool) → is_on_path fs n ≡ b → is_above (inner [] fs) n ≡ b
above-is fs n b is = above-inner [] fs n ∙ is

at-top : (fs : List Frame) (left : ℕ) → left + length fs ≡ suc most_labels → raised fs left ≡ suc most_labels
at-top fs left is = raised-is fs left ∙ is

fault-at : (judge : Judge) (files : List Units) (fs : List Frame) (left : ℕ) (e : Entry) (found : List Instance) (x : Fault) → left + length fs ≡ suc most_labels → enter judge files left (inner [] fs) e found ≡ Err x → entered_all judge files fs e found ≡ Err x
fault-at judge files fs left e found x is wrong =
    subst (λ (n : ℕ). entered judge files n [] fs e found ≡ Err x) (at-top fs left is) (entered-fault judge files fs left [] e found x wrong)

-- what comes of an instance at a level
loop-at : (judge : Judge) (files : List Units) (left : ℕ) (above : List ℕ) (e : Entry) (found : List Instance) → is_above above e.entity ≡ true → enter judge files left above e found ≡ Err (Loop e.name)
loop-at judge files zero above e found is = ap (λ (b : Bool). if b then Err (Loop e.name) else Err (TooDeep e.name)) is
loop-at judge files (suc left) above e found is =
    ap (λ (b : Bool). if b then Err (Loop e.name) else if nat_lt (length found) most_instances then enter_unit judge files (enter judge files left (above ++ e.entity ∷ [])) e found (unit_at files e.entity) else Err (TooManyInstances e.name)) is

deep-at : (judge : Judge) (files : List Units) (left : ℕ) (above : List ℕ) (e : Entry) (found : List Instance) → left ≡ 0 → is_above above e.entity ≡ false → enter judge files left above e found ≡ Err (TooDeep e.name)
deep-at judge files left above e found none is =
    ap (λ (n : ℕ). enter judge files n above e found) none ∙ ap (λ (b : Bool). if b then Err (Loop e.name) else Err (TooDeep e.name)) is

many-at : (judge : Judge) (files : List Units) (left : ℕ) (above : List ℕ) (e : Entry) (found : List Instance) → is_above above e.entity ≡ false → nat_lt (length found) most_instances ≡ false → enter judge files (suc left) above e found ≡ Err (TooManyInstances e.name)
many-at judge files left above e found is many =
    ap (λ (b : Bool). if b then Err (Loop e.name) else if nat_lt (length found) most_instances then enter_unit judge files (enter judge files left (above ++ e.entity ∷ [])) e found (unit_at files e.entity) else Err (TooManyInstances e.name)) is
    ∙ ap (λ (b : Bool). if b then enter_unit judge files (enter judge files left (above ++ e.entity ∷ [])) e found (unit_at files e.entity) else Err (TooManyInstances e.name)) many

unit-at : (judge : Judge) (files : List Units) (left : ℕ) (above : List ℕ) (e : Entry) (found : List Instance) → is_above above e.entity ≡ false → nat_lt (length found) most_instances ≡ true → enter judge files (suc left) above e found ≡ enter_unit judge files (enter judge files left (above ++ e.entity ∷ [])) e found (unit_at files e.entity)
unit-at judge files left above e found is few =
    ap (λ (b : Bool). if b then Err (Loop e.name) else if nat_lt (length found) most_instances then enter_unit judge files (enter judge files left (above ++ e.entity ∷ [])) e found (unit_at files e.entity) else Err (TooManyInstances e.name)) is
    ∙ ap (λ (b : Bool). if b then enter_unit judge files (enter judge files left (above ++ e.entity ∷ [])) e found (unit_at files e.entity) else Err (TooManyInstances e.name)) few

-- ---- from the top on

-- how many more may stand below
left_under : List Frame → ℕ
left_under fs = suc most_labels - length fs

left-is : (fs : List Frame) → length fs ≤ most_labels + 1 → left_under fs + length fs ≡ suc most_labels
unfolding left_under
left-is fs few = omega arith

full-is : (fs : List Frame) → length fs ≤ most_labels + 1 → nat_lt most_labels (length fs) ≡ true → 0 + length fs ≡ suc most_labels
full-is fs few deep = let at : most_labels < length fs = ltb-true most_labels (length fs) deep in omega arith

shallow-is : (fs : List Frame) → length fs ≤ most_labels → suc (most_labels - length fs) + length fs ≡ suc most_labels
shallow-is fs few = omega arith

more-is : (fs : List Frame) → nat_lt most_labels (length fs) ≡ false → suc (most_labels - length fs) + length fs ≡ suc most_labels
more-is fs few = shallow-is fs (ltb-false most_labels (length fs) few)

pub misplaced-is : (judge : Judge) (files : List Units) (fs : List Frame) (e : Entry) (found : List Instance) (x : Fault) → length fs ≤ most_labels + 1 → misplaced fs found e ≡ Some x → entered_all judge files fs e found ≡ Err x
misplaced-is judge files fs e found x few is =
    misplaced-cases (is_on_path fs e.entity) (nat_lt most_labels (length fs)) (nat_lt (length found) most_instances) (Loop e.name) (TooDeep e.name) (TooManyInstances e.name) x (entered_all judge files fs e found) is
    (λ loops. fault-at judge files fs (left_under fs) e found (Loop e.name) (left-is fs few) (loop-at judge files (left_under fs) (inner [] fs) e found (above-is fs e.entity true loops)))
    (λ apart deep. fault-at judge files fs 0 e found (TooDeep e.name) (full-is fs few deep) (deep-at judge files 0 (inner [] fs) e found refl (above-is fs e.entity false apart)))
    (λ apart shallow many. fault-at judge files fs (suc (most_labels - length fs)) e found (TooManyInstances e.name) (more-is fs shallow) (many-at judge files (most_labels - length fs) (inner [] fs) e found (above-is fs e.entity false apart) many))

-- a fault of the unit
unit-fault : (judge : Judge) (files : List Units) (fs : List Frame) (e : Entry) (found : List Instance) (x : Fault) → IsPlaced fs found e → enter_unit judge files (enter judge files (most_labels - length fs) (inner [] fs ++ e.entity ∷ [])) e found (unit_at files e.entity) ≡ Err x → entered_all judge files fs e found ≡ Err x
unit-fault judge files fs e found x is wrong =
    fault-at judge files fs (suc (most_labels - length fs)) e found x (more-is fs is.shallow) (unit-at judge files (most_labels - length fs) (inner [] fs) e found (above-is fs e.entity false is.apart) is.few ∙ wrong)

pub unknown-is : (judge : Judge) (files : List Units) (fs : List Frame) (e : Entry) (found : List Instance) → IsPlaced fs found e → unit_at files e.entity ≡ None → entered_all judge files fs e found ≡ Err (UnknownUnit e.name)
unknown-is judge files fs e found is none =
    let inside = enter judge files (most_labels - length fs) (inner [] fs ++ e.entity ∷ []) in
    unit-fault judge files fs e found (UnknownUnit e.name) is (ap (enter_unit judge files inside e found) none)

pub wrong-is : (judge : Judge) (files : List Units) (fs : List Frame) (e : Entry) (found : List Instance) (u : Unit) (x : Fault) → IsPlaced fs found e → unit_at files e.entity ≡ Some u → opened judge files u ≡ Err x → entered_all judge files fs e found ≡ Err x
wrong-is judge files fs e found u x is unit wrong =
    let inside = enter judge files (most_labels - length fs) (inner [] fs ++ e.entity ∷ []) in
    unit-fault judge files fs e found x is (ap (enter_unit judge files inside e found) unit ∙ ap (λ (r : Result (List Child) Fault). followed r (λ cs. enter_from inside (length found) 0 cs (found ++ instance_of e ∷ []))) wrong)

pub good-is : (judge : Judge) (files : List Units) (fs : List Frame) (e : Entry) (found : List Instance) (u : Unit) → IsPlaced fs found e → unit_at files e.entity ≡ Some u → opened judge files u ≡ Ok (children_at files e.entity) → entered_all judge files fs e found ≡ resumed_all judge files (fs ++ frame_of (length found) e ∷ []) (found ++ instance_of e ∷ [])
good-is judge files fs e found u is unit good =
    let left = most_labels - length fs in
    let g = frame_of (length found) e in
    let more = found ++ instance_of e ∷ [] in
    let inside = enter judge files left (inner [] fs ++ e.entity ∷ []) in
    let one : enter judge files (suc left) (inner [] fs) e found ≡ enter_rest files inside g more =
    unit-at judge files left (inner [] fs) e found (above-is fs e.entity false is.apart) is.few
    ∙ ap (enter_unit judge files inside e found) unit
    ∙ ap (λ (r : Result (List Child) Fault). followed r (λ cs. enter_from inside (length found) 0 cs more)) good in
    subst (λ (n : ℕ). entered judge files n [] fs e found ≡ resumed judge files n [] (fs ++ g ∷ []) more) (at-top fs (suc left) (more-is fs is.shallow)) (entered-good judge files fs left [] e g found more one)

-- ---- the next of the instances in one

none-left : (cs : List Child) (n : ℕ) (f : Child → Entry) → option_map f (slice_get cs n) ≡ None → drop n cs ≡ []
none-left cs n f none =
    elim (slice_get_cases cs n).1 [
      | inl there ↦ let h : None ≡ Some (f there.0) = sym none ∙ ap (option_map f) there.2 in absurd (none-some (f there.0) h)
      | inr past ↦ drop_all n cs past.0
    ]

-- the next one, with what it is entered as
pub record IsNext (cs : List Child) (n : ℕ) (f : Child → Entry) (e : Entry) : Type 0 where
  pub child : Child
  pub entry : f child ≡ e
  pub rest : drop n cs ≡ child ∷ drop (n + 1) cs

next-found : (cs : List Child) (n : ℕ) (f : Child → Entry) (e : Entry) → option_map f (slice_get cs n) ≡ Some e → IsNext cs n f e
next-found cs n f e some =
    elim (slice_get_cases cs n).1 [
      | inl there ↦ record {
        child = there.0;
        entry = some-same (f there.0) e (sym (ap (option_map f) there.2) ∙ some);
        rest = drop_more cs n there.0 there.1 ∙ ap (λ c. c ∷ drop (n + 1) cs) there.3;
      }
      | inr past ↦ let h : None ≡ Some e = sym (ap (option_map f) past.1) ∙ some in absurd (none-some e h)
    ]

pub done-is : (judge : Judge) (files : List Units) (fs : List Frame) (f : Frame) (found : List Instance) → length fs ≤ most_labels → next files f ≡ None → resumed_all judge files (fs ++ f ∷ []) found ≡ resumed_all judge files fs found
done-is judge files fs f found few none =
    let left = most_labels - length fs in
    let nothing = none-left (children_at files f.entity) f.next (entry_of f.instance f.next) none in
    subst (λ (n : ℕ). resumed judge files n [] (fs ++ f ∷ []) found ≡ resumed judge files n [] fs found) (at-top fs (suc left) (shallow-is fs few)) (resumed-done judge files fs left [] f found nothing)

pub next-is : (judge : Judge) (files : List Units) (fs : List Frame) (f : Frame) (e : Entry) (found : List Instance) → length fs ≤ most_labels → next files f ≡ Some e → resumed_all judge files (fs ++ f ∷ []) found ≡ entered_all judge files (fs ++ behind f ∷ []) e found
next-is judge files fs f e found few some =
    let left = most_labels - length fs in
    let one = next-found (children_at files f.entity) f.next (entry_of f.instance f.next) e some in
    subst (λ (n : ℕ). resumed judge files n [] (fs ++ f ∷ []) found ≡ entered judge files n [] (fs ++ behind f ∷ []) (entry_of f.instance f.next one.child) found) (at-top fs (suc left) (shallow-is fs few)) (resumed-next judge files fs left [] f one.child found one.rest)
    ∙ ap (λ (x : Entry). entered_all judge files (fs ++ behind f ∷ []) x found) one.entry

-- ---- the work that is left

pub less-done : (fs : List Frame) (f : Frame) (found : List Instance) → work fs found < work (fs ++ f ∷ []) found
less-done fs f found = let more = length-append fs (f ∷ []) in omega (arith, more)

pub less-next : (fs : List Frame) (f g h : Frame) (found : List Instance) (i : Instance) → nat_lt (length found) most_instances ≡ true → work ((fs ++ f ∷ []) ++ g ∷ []) (found ++ i ∷ []) < work (fs ++ h ∷ []) found
less-next fs f g h found i few =
    let within : length found < most_instances = ltb-true (length found) most_instances few in
    let one = length-append fs (f ∷ []) in
    let two = length-append (fs ++ f ∷ []) (g ∷ []) in
    let other = length-append fs (h ∷ []) in
    let more = length-append found (i ∷ []) in
    omega (arith, within, one, two, other, more)
