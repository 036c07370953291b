use Rattle.std.proofs.Common.{◌≡◌, ◌++◌, take}
use Rattle.std.specs.List.{flat_map}
use Rattle.vital_limits.specs.WithinLimits.{limits_within_all}
use Rattle.vital_nodes.specs.Nodes.{parts_of_branch, sequentials}
use Rattle.vital_limits.proofs.within_statements.+sequential.Given as goal

abbrev pub invariant-put_within_stmts-loop-stmt : goal.invariant-put_within_stmts-loop-stmt
invariant-put_within_stmts-loop-stmt l = l.limits.items ≡ l.initial.limits.items ++ limits_within_all (sequentials (take l.stmt-index l.stmts))

abbrev pub invariant-put_in_branches-loop-branch : goal.invariant-put_in_branches-loop-branch
invariant-put_in_branches-loop-branch l = l.limits.items ≡ l.initial.limits.items ++ limits_within_all (flat_map parts_of_branch (take l.branch-index l.branches))
