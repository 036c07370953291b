-- One step, and all of them.
use Rattle.std.proofs.Common.{◌≡◌, ◌+◌, ◌<◌, ◌≤◌, List, [], ◌∷◌, ◌++◌, length, length-append, sym, ap, subst, ◌∙◌, arith}
use Rattle.std.specs.Prelude.{None, Some}
use Rattle.std.proofs.lemmas.Bool.{ltb-false}
use Rattle.vital_nodes.specs.declared.unit.Units.{Units}
use Rattle.vital_instances.specs.declared.frame.Frame.{Frame}
use Rattle.vital_instances.specs.declared.instance.Instance.{Instance}
use Rattle.vital_instances.specs.Frames.{behind, entered_all, misplaced, next, resumed_all, work}
use Rattle.vital_instances.specs.Instances.{Entry, most_labels}
use Rattle.vital_instances.specs.Judges.{Judge}
use Rattle.vital_instances.proofs.EnterLemmas.{less-next, next-is, placed}

-- ---- one step

-- an instance is put back behind the next of the instances in it
pub pushed-is : (fs pushed : List Frame) (f g : Frame) → pushed ≡ fs ++ g ∷ [] → g ≡ behind f → pushed ≡ fs ++ behind f ∷ []
pushed-is fs pushed f g push is = push ∙ ap (λ (h : Frame). fs ++ h ∷ []) is

-- what comes of it is what comes of the next of the instances in it
pub next-entered : (judge : Judge) (files seen : List Units) (fs pushed : List Frame) (f : Frame) (e : Entry) (found : List Instance) → length fs ≤ most_labels → seen ≡ files → Some e ≡ next seen f → pushed ≡ fs ++ behind f ∷ [] → resumed_all judge files (fs ++ f ∷ []) found ≡ entered_all judge files pushed e found
next-entered judge files seen fs pushed f e found few same some push =
    next-is judge files fs f e found few (ap (λ (them : List Units). next them f) (sym same) ∙ sym some)
    ∙ ap (λ (gs : List Frame). entered_all judge files gs e found) (sym push)

-- an instance may be entered in one that stands on a path
pub few-pushed : (fs pushed : List Frame) (f : Frame) → length fs ≤ most_labels → pushed ≡ fs ++ f ∷ [] → length pushed ≤ most_labels + 1
few-pushed fs pushed f few push = let size = length-append fs (f ∷ []) in let grown = ap length push in omega (arith, size, grown)

-- and stands on the path then
pub few-put : (pushed new : List Frame) (g : Frame) (found : List Instance) (e : Entry) → misplaced pushed found e ≡ None → new ≡ pushed ++ g ∷ [] → length new ≤ most_labels + 1
few-put pushed new g found e none put =
    let few = ltb-false most_labels (length pushed) (placed pushed found e none).shallow in
    let size = length-append pushed (g ∷ []) in
    let grown = ap length put in
    omega (arith, few, size, grown)

-- less work is left
pub less-put : (fs pushed new : List Frame) (f g h : Frame) (found more : List Instance) (i : Instance) (e : Entry) → misplaced pushed found e ≡ None → pushed ≡ fs ++ f ∷ [] → new ≡ pushed ++ g ∷ [] → more ≡ found ++ i ∷ [] → work new more < work (fs ++ h ∷ []) found
less-put fs pushed new f g h found more i e none push put one =
    let less = less-next fs f g h found i (placed pushed found e none).few in
    subst (λ (gs : List Frame). work gs more < work (fs ++ h ∷ []) found) (sym (put ∙ ap (λ (gs : List Frame). gs ++ g ∷ []) push))
    (subst (λ (is : List Instance). work ((fs ++ f ∷ []) ++ g ∷ []) is < work (fs ++ h ∷ []) found) (sym one) less)

-- ---- all steps

-- the last of those on a path is taken
pub few-popped : (all popped : List Frame) (f : Frame) → length all ≤ most_labels + 1 → all ≡ popped ++ f ∷ [] → length popped ≤ most_labels
few-popped all popped f few pop = let size = length-append popped (f ∷ []) in let grown = ap length pop in omega (arith, size, grown)

-- what comes of all is what comes of the last and the others
pub popped-is : (judge : Judge) (start units : List Units) (all popped : List Frame) (f : Frame) (found : List Instance) → units ≡ start → all ≡ popped ++ f ∷ [] → resumed_all judge start all found ≡ resumed_all judge units (popped ++ f ∷ []) found
popped-is judge start units all popped f found same pop =
    ap (λ (fs : List Frame). resumed_all judge start fs found) pop
    ∙ ap (λ (files : List Units). resumed_all judge files (popped ++ f ∷ []) found) (sym same)
