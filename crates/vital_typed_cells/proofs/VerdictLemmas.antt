-- Verdicts of one cell.
use Rattle.std.proofs.Common.{◌≡◌, List, subst}
use Rattle.std.specs.Prelude.{Option, Result}
use Rattle.vital_level1.specs.declared.level.CellError.{CellError}
use Rattle.vital_level1.specs.declared.level.CellLevel.{CellLevel}
use Rattle.vital_level1.specs.Verdicts.{IsVerdict}
use Rattle.vital_nodes.specs.declared.unit.Arch.{Arch}
use Rattle.vital_nodes.specs.declared.unit.Entity.{Entity}
use Rattle.vital_nodes.specs.declared.unit.Units.{Units}

-- the same verdict, of the same files
pub same-verdict : (files others : List Units) (entity : Entity) (arch : Option Arch) (r s : Result CellLevel CellError) → files ≡ others → r ≡ s → IsVerdict (record { files = files; entity = entity; arch = arch }) r → IsVerdict (record { files = others; entity = entity; arch = arch }) s
same-verdict files others entity arch r s same is verdict =
    subst (λ (q : Result CellLevel CellError). IsVerdict (record { files = others; entity = entity; arch = arch }) q) is
    (subst (λ (fs : List Units). IsVerdict (record { files = fs; entity = entity; arch = arch }) r) same verdict)
