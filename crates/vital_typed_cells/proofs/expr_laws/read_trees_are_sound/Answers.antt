use Rattle.std.proofs.lemmas.Option.{IfSome_then}
use Rattle.vital_nodes.specs.Nodes.{Expression}
use Rattle.vital_expr.specs.Readings.{vector_of}
use Rattle.vital_typed_cells.proofs.Nodes.{node-sound}
use Rattle.vital_typed_cells.proofs.Readings.{sound-vector}
use Rattle.vital_typed_cells.proofs.expr_laws.read_trees_are_sound.Goals as goal

pub returns-clause-levels : goal.returns-clause-levels
returns-clause-levels a s c e scope has = (node-sound s c (Expression e) scope has).level

pub returns-clause-vectors : goal.returns-clause-vectors
returns-clause-vectors a s c e asked scope has = IfSome_then (vector_of c asked e).tree ((node-sound s c (Expression e) scope has).vector asked) (λ v holds. sound-vector s asked v holds)

pub returns-clause-booleans : goal.returns-clause-booleans
returns-clause-booleans a s c e scope has = (node-sound s c (Expression e) scope has).boolean

pub returns-clause-times : goal.returns-clause-times
returns-clause-times a s c e scope has = (node-sound s c (Expression e) scope has).time

pub returns-clause-delays : goal.returns-clause-delays
returns-clause-delays a s c d e scope has = (node-sound s c (Expression e) scope has).delay d
