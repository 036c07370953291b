use Rattle.std.proofs.Common.{◌≡◌, map, take}
use Rattle.std.specs.List.{fold}
use Rattle.vital_machine.specs.Seen.{lent}
use Rattle.vital_machine.specs.Trees.{truth}
use Rattle.vital_primitives.specs.Operators.{truth2}
use Rattle.vital_machine.proofs.truths.+truths.Given as goal

abbrev pub invariant-logical-loop-operand : goal.invariant-logical-loop-operand
invariant-logical-loop-operand l = l.value ≡ fold (truth2 l.operator) l.initial.value (map (truth (lent l.seen)) (take l.operand-index l.others))
