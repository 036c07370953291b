use Rattle.std.proofs.Common.{[], Some, None, refl}
use Rattle.vital_nodes.specs.declared.stmt.Stmt.TheViews.{out-Stmt}
use Rattle.vital_typed_statements.specs.Statements.{context}
use Rattle.vital_typed_cells.proofs.ToldStatements.{call-told, statement-told}
use Rattle.vital_typed_cells.proofs.statement_laws.statements_are_told.Goals as goal

pub returns-clause-statements : goal.returns-clause-statements
returns-clause-statements a cell p s = statement-told (context cell (Some p) []) cell (Some p) (out-Stmt s) refl

pub returns-clause-calls : goal.returns-clause-calls
returns-clause-calls a cell r = call-told (context cell None []) cell None r refl
