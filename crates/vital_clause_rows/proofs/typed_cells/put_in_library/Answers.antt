use Rattle.std.proofs.Common.{◌∙◌, subst, sym}
use Rattle.std.specs.Prelude.{All}
use Rattle.vital_as_read.specs.Libraries.{IsFromText}
use Rattle.vital_clause_rows.proofs.typed_cells.put_in_library.Goals as goal

-- the packages are those of the library
pub check_cell-answer-requires-clause-read : goal.check_cell-answer-requires-clause-read
check_cell-answer-requires-clause-read c =
    subst (All IsFromText) (sym (c.in_ok-typed.ensures ∙ c.in_ok-packages.ensures ∙ c.in_ok-names.ensures)) c.requires.read
