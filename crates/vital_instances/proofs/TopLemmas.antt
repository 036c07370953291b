-- The instances under a top.
use Rattle.std.proofs.Common.{◌≡◌, ℕ, List, [], sym, ap, ◌∙◌}
use Rattle.std.specs.Prelude.{Some}
use Rattle.std.specs.List.{slice_get}
use Rattle.vital_library.specs.Numbers.{number_named}
use Rattle.vital_library.specs.Units.{entities}
use Rattle.vital_nodes.specs.declared.unit.Entity.{Entity}
use Rattle.vital_nodes.specs.declared.unit.Units.{Units}
use Rattle.vital_instances.specs.declared.frame.Frame.{Frame}
use Rattle.vital_instances.specs.declared.instance.Instance.{Instance}
use Rattle.vital_instances.specs.Frames.{entered_all}
use Rattle.vital_instances.specs.Instances.{enter_top, instances, instances_under, top_entry}
use Rattle.vital_instances.specs.Judges.{Judge}

-- the top is entered where nothing was entered before
pub top-is : (judge : Judge) (files seen : List Units) (top : List ℕ) (n : ℕ) (entity : Entity) (fs : List Frame) (found : List Instance) → number_named top files ≡ Some n → slice_get (entities files) n ≡ Some entity → seen ≡ files → fs ≡ [] → found ≡ [] → instances judge files top ≡ entered_all judge seen fs (top_entry n entity) found
top-is judge files seen top n entity fs found number there same none nothing =
    let e = top_entry n entity in
    ap (instances_under judge files) number
    ∙ ap (enter_top judge files n) there
    ∙ ap (λ (them : List Units). entered_all judge them [] e []) (sym same)
    ∙ ap (λ (gs : List Frame). entered_all judge seen gs e []) (sym none)
    ∙ ap (entered_all judge seen fs e) (sym nothing)
