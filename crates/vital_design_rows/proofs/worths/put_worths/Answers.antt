use Rattle.std.proofs.Common.{◌∙◌, subst, sym}
use Rattle.std.specs.Prelude.{All}
use Rattle.vital_as_read.specs.Libraries.{IsFromText}
use Rattle.vital_design_rows.proofs.worths.put_worths.Goals as goal

-- the packages are those of the library
pub check_cell-requires-clause-read : goal.check_cell-requires-clause-read
check_cell-requires-clause-read c =
    subst (All IsFromText) (sym (c.in_ok-typed.ensures ∙ c.requires.packages)) c.requires.read
