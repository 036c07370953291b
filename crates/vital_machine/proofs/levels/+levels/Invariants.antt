use Rattle.std.proofs.Common.{◌≡◌, ℕ, ◌<◌, get_or, map, take}
use Rattle.std.specs.List.{fold}
use Rattle.vital_machine.specs.Seen.{lent}
use Rattle.vital_machine.specs.Trees.{level}
use Rattle.vital_logic.specs.declared.level.Level.TheVariants.{U}
use Rattle.vital_primitives.specs.Operators.{operator2}
use Rattle.vital_machine.proofs.levels.+levels.Given as goal

abbrev pub invariant-logical-loop-operand : goal.invariant-logical-loop-operand
invariant-logical-loop-operand l = l.value ≡ fold (operator2 l.operator) l.initial.value (map (level (lent l.seen)) (take l.operand-index l.others))

abbrev pub invariant-put_levels-loop-number : goal.invariant-put_levels-loop-number
invariant-put_levels-loop-number l = (i : ℕ) → i < l.number → get_or l.places i U ≡ get_or (map (level (lent l.seen)) l.trees) i U
