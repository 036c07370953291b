-- Entering an instance under others, level by level.
use Rattle.std.proofs.Common.{◌≡◌, ℕ, ◌+◌, List, [], ◌∷◌, ◌++◌, length, drop, sym, ap, ◌∙◌, arith}
use Rattle.std.proofs.Math.Bool.{or-false, or_assoc}
use Rattle.std.specs.Prelude.{suc, ◌==◌, ◌||◌, Err}
use Rattle.vital_nodes.specs.declared.unit.Units.{Units}
use Rattle.vital_instances.specs.declared.frame.Frame.{Frame}
use Rattle.vital_instances.specs.declared.instance.Instance.{Instance}
use Rattle.vital_instances.specs.Children.{Child}
use Rattle.vital_instances.specs.Contents.{children_at}
use Rattle.vital_instances.specs.Faults.{Fault, followed}
use Rattle.vital_instances.specs.Frames.{behind, enter_rest, entered, is_on_path, resumed}
use Rattle.vital_instances.specs.Instances.{Entry, enter, enter_from, entry_of, is_above}
use Rattle.vital_instances.specs.Judges.{Judge}

-- how many more may stand on a path, where so many may below these instances; and the entities above
abbrev pub raised : List Frame → ℕ → ℕ
raised [] left = left
raised (f ∷ fs) left = suc (raised fs left)

abbrev pub inner : List ℕ → List Frame → List ℕ
inner above [] = above
inner above (f ∷ fs) = inner (above ++ f.entity ∷ []) fs

pub raised-is : (fs : List Frame) (left : ℕ) → raised fs left ≡ left + length fs
raised-is [] left = omega arith
raised-is (f ∷ fs) left = let others = raised-is fs left in omega (arith, others)

-- ---- entities above

above-one : (above : List ℕ) (m n : ℕ) → is_above (above ++ m ∷ []) n ≡ (is_above above n || (m == n))
above-one [] m n = or-false (m == n)
above-one (k ∷ above) m n = ap (λ b. (k == n) || b) (above-one above m n) ∙ sym (or_assoc (k == n) (is_above above n) (m == n))

pub above-inner : (above : List ℕ) (fs : List Frame) (n : ℕ) → is_above (inner above fs) n ≡ (is_above above n || is_on_path fs n)
above-inner above [] n = sym (or-false (is_above above n))
above-inner above (f ∷ fs) n =
    above-inner (above ++ f.entity ∷ []) fs n
    ∙ ap (λ b. b || is_on_path fs n) (above-one above f.entity n)
    ∙ or_assoc (is_above above n) (f.entity == n) (is_on_path fs n)

-- ---- one instance

-- a fault ends all
pub entered-fault : (judge : Judge) (files : List Units) (fs : List Frame) (left : ℕ) (above : List ℕ) (e : Entry) (found : List Instance) (x : Fault) → enter judge files left (inner above fs) e found ≡ Err x → entered judge files (raised fs left) above fs e found ≡ Err x
entered-fault judge files [] left above e found x is = is
entered-fault judge files (f ∷ fs) left above e found x is =
    ap (λ r. followed r (enter_rest files (enter judge files (raised fs left) (above ++ f.entity ∷ [])) f)) (entered-fault judge files fs left (above ++ f.entity ∷ []) e found x is)

-- a good instance is one more, those in which are entered before the rest
pub entered-good : (judge : Judge) (files : List Units) (fs : List Frame) (left : ℕ) (above : List ℕ) (e : Entry) (g : Frame) (found more : List Instance) → enter judge files (suc left) (inner above fs) e found ≡ enter_rest files (enter judge files left (inner above fs ++ g.entity ∷ [])) g more → entered judge files (raised fs (suc left)) above fs e found ≡ resumed judge files (raised fs (suc left)) above (fs ++ g ∷ []) more
entered-good judge files [] left above e g found more is = is
entered-good judge files (f ∷ fs) left above e g found more is =
    ap (λ r. followed r (enter_rest files (enter judge files (raised fs (suc left)) (above ++ f.entity ∷ [])) f)) (entered-good judge files fs left (above ++ f.entity ∷ []) e g found more is)

-- ---- the rest

-- nothing is left in the last
pub resumed-done : (judge : Judge) (files : List Units) (fs : List Frame) (left : ℕ) (above : List ℕ) (f : Frame) (found : List Instance) → drop f.next (children_at files f.entity) ≡ [] → resumed judge files (raised fs (suc left)) above (fs ++ f ∷ []) found ≡ resumed judge files (raised fs (suc left)) above fs found
resumed-done judge files [] left above f found none =
    ap (λ cs. enter_from (enter judge files left (above ++ f.entity ∷ [])) f.instance f.next cs found) none
resumed-done judge files (g ∷ fs) left above f found none =
    ap (λ r. followed r (enter_rest files (enter judge files (raised fs (suc left)) (above ++ g.entity ∷ [])) g)) (resumed-done judge files fs left (above ++ g.entity ∷ []) f found none)

-- the next in the last is entered
pub resumed-next : (judge : Judge) (files : List Units) (fs : List Frame) (left : ℕ) (above : List ℕ) (f : Frame) (c : Child) (found : List Instance) → drop f.next (children_at files f.entity) ≡ c ∷ drop (f.next + 1) (children_at files f.entity) → resumed judge files (raised fs (suc left)) above (fs ++ f ∷ []) found ≡ entered judge files (raised fs (suc left)) above (fs ++ behind f ∷ []) (entry_of f.instance f.next c) found
resumed-next judge files [] left above f c found some =
    ap (λ cs. enter_from (enter judge files left (above ++ f.entity ∷ [])) f.instance f.next cs found) some
resumed-next judge files (g ∷ fs) left above f c found some =
    ap (λ r. followed r (enter_rest files (enter judge files (raised fs (suc left)) (above ++ g.entity ∷ [])) g)) (resumed-next judge files fs left (above ++ g.entity ∷ []) f c found some)
