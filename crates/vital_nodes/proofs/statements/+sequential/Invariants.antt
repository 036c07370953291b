use Rattle.std.proofs.Common.{◌≡◌, ◌++◌, map, take}
use Rattle.std.specs.List.{flat_map}
use Rattle.vital_nodes.specs.Statements.{all_sequential, in_branch}
use Rattle.vital_nodes.proofs.statements.+sequential.Given as goal

abbrev pub invariant-put_all_sequential-loop-stmt : goal.invariant-put_all_sequential-loop-stmt
invariant-put_all_sequential-loop-stmt l = map (λ s. s.now) l.all.items ≡ map (λ s. s.now) l.initial.all.items ++ all_sequential (take l.stmt-index l.statements)

abbrev pub invariant-put_in_branches-loop-branch : goal.invariant-put_in_branches-loop-branch
invariant-put_in_branches-loop-branch l = map (λ s. s.now) l.all.items ≡ map (λ s. s.now) l.initial.all.items ++ flat_map in_branch (take l.branch-index l.branches)
