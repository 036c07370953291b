use Rattle.std.specs.Prelude.{All, Some}
use Rattle.std.proofs.lemmas.List.Elements.{All-from_recursion}
use Rattle.vital_names.specs.declared.site.CellUnit.TheVariants.{Architecture}
use Rattle.vital_nodes.specs.Nodes.{sequentials}
use Rattle.vital_nodes.specs.Walk.{nodes_of_all}
use Rattle.vital_operands.specs.Positions.{InStatement}
use Rattle.vital_typed_cells.specs.Positions.{HasNameAt}
use Rattle.vital_typed_cells.specs.Scopes.{scope_of}
use Rattle.vital_uses.specs.Statements.{processes}
use Rattle.vital_typed_cells.proofs.Found.{weaker}
use Rattle.vital_typed_cells.proofs.Told.{all-told}
use Rattle.vital_typed_cells.proofs.Verdict.{meets-by}
use Rattle.vital_typed_cells.proofs.Views.{HasStatementNames, process-scopes, view}
use Rattle.vital_typed_cells.proofs.laws.scopes_are_whole.Goals as goal

pub returns : goal.returns
returns a cell read is =
    All-from_recursion (λ p. All (HasNameAt (scope_of (view cell p)) (InStatement cell Architecture (Some p))) (nodes_of_all (sequentials p.statements))) (processes cell.arch)
    (weaker (HasStatementNames cell) (λ p. All (HasNameAt (scope_of (view cell p)) (InStatement cell Architecture (Some p))) (nodes_of_all (sequentials p.statements)))
    (λ p has. All-from_recursion (HasNameAt (scope_of (view cell p)) (InStatement cell Architecture (Some p))) (nodes_of_all (sequentials p.statements)) has) (processes cell.arch)
    (process-scopes all-told cell read (meets-by cell is)))
