use Rattle.std.proofs.Common.{◌≡◌, ◌++◌, take}
use Rattle.std.specs.List.{flat_map}
use Rattle.vital_statements.specs.Clauses.{others_than_checks}
use Rattle.vital_statements.proofs.timing_check.put_statements_in_if.Given as goal

abbrev pub invariant-loop-branch : goal.invariant-loop-branch
invariant-loop-branch l = l.places.items ≡ l.initial.places.items ++ others_than_checks l.names l.process (flat_map (λ b. b.statements) (take l.branch-index l.branch-items))
