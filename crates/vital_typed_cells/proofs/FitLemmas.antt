-- The defaults of a cell fit it.
use Rattle.std.proofs.Common.{◌≡◌, true, List, [], ◌∷◌, map, refl}
use Rattle.std.specs.Prelude.{All}
use Rattle.std.specs.List.{AllZip}
use Rattle.std.proofs.lemmas.List.Elements.{All-head, All-tail}
use Rattle.vital_typed_cells.specs.Answers.{default_values}
use Rattle.vital_typed_cells.specs.Fits.{FitsCell, IsDelayOf}
use Rattle.vital_objects.specs.declared.generic.TimingGeneric.{TimingGeneric}
use Rattle.vital_operands.specs.Named.{same_type}
use Rattle.vital_typed_cells.specs.Sound.{IsSound, IsSoundGeneric}
use Rattle.vital_timing.specs.declared.delay.DelayType.{DelayType}
use Rattle.vital_timing.specs.declared.delay.DelayType.TheVariants.{One, Six, Two}
use Rattle.vital_timing.specs.Delays.{type_of}
use Rattle.vital_typed_cells.specs.declared.typed_cell.TypedCell.{TypedCell}

same-type : (t : DelayType) → same_type t t ≡ true
same-type One = refl
same-type Two = refl
same-type Six = refl

of-generics : (c : TypedCell) (gs : List TimingGeneric) → All (IsSoundGeneric c) gs → AllZip IsDelayOf gs (map (λ g. g.default) gs)
of-generics c [] sound = tt
of-generics c (g ∷ gs) sound =
    (record { typed = same-type (type_of g.default); short = (All-head (IsSoundGeneric c) g gs sound).short }, of-generics c gs (All-tail (IsSoundGeneric c) g gs sound))

pub defaults-fit : (c : TypedCell) → IsSound c → FitsCell c (default_values c)
defaults-fit c sound = of-generics c c.generics sound.generics_sound
