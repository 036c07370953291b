use Rattle.std.proofs.Common.{Some, refl, sym}
use Rattle.std.proofs.lemmas.Option.{IfSome_then}
use Rattle.vital_nodes.specs.Nodes.{Expression}
use Rattle.vital_expr.specs.Readings.{vector_of}
use Rattle.vital_expr.specs.Vectors.{length_of}
use Rattle.vital_typed_cells.proofs.Anything.{anything, any-tables, anything-seen}
use Rattle.vital_typed_cells.proofs.Nodes.{node-sound}
use Rattle.vital_typed_cells.proofs.ExprTests.{number-is}
use Rattle.vital_typed_cells.proofs.expr_laws.read_vectors_fit.Goals as goal

pub returns : goal.returns
returns a c n e =
    IfSome_then (vector_of c (Some n) e).tree ((node-sound anything c (Expression e) (anything-seen c.position (Expression e)) (any-tables anything c (Expression e) (λ name inputs results. refl))).vector (Some n))
    (λ v holds. sym (number-is n (length_of v) holds.fits))
