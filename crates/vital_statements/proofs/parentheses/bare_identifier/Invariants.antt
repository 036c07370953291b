use Rattle.std.proofs.Common.{◌≡◌, length}
use Rattle.vital_nodes.specs.Nodes.{Expression}
use Rattle.vital_nodes.specs.Walk.{nodes_of}
use Rattle.vital_statements.specs.Parentheses.{bare_identifier}
use Rattle.vital_statements.proofs.parentheses.bare_identifier.Given as goal

abbrev pub invariant-loop-next : goal.invariant-loop-next
invariant-loop-next l = bare_identifier l.inner ≡ bare_identifier l.fn.expr

abbrev pub decreases-loop-next : goal.decreases-loop-next
decreases-loop-next l = length (nodes_of (Expression l.inner))
