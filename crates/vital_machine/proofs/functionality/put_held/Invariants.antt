use Rattle.std.proofs.Common.{◌≡◌, ℕ, ◌<◌, get_or}
use Rattle.vital_logic.specs.declared.level.Level.TheVariants.{U}
use Rattle.vital_machine.specs.Machine.{held_by}
use Rattle.vital_machine.specs.Seen.{lent}
use Rattle.vital_machine.proofs.functionality.put_held.Given as goal

abbrev pub invariant-loop-number : goal.invariant-loop-number
invariant-loop-number l = (i : ℕ) → i < l.number → get_or l.levels i U ≡ get_or (held_by l.place (lent l.seen).slots) i U
