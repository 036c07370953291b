use Rattle.std.proofs.Common.{◌≡◌, ◌≤◌, ◌-◌, length}
use Rattle.std.specs.Prelude.{◌==◌}
use Rattle.vital_associations.specs.Sums.{value}
use Rattle.vital_associations.proofs.sum.Sum.is_same.Given as goal

abbrev pub invariant-loop : goal.invariant-loop
invariant-loop l =
    ((value l.initial.self == value l.initial.other) ≡ (value l.self == value l.other))
    × (l.self.carry ≤ 1)
    × (l.other.carry ≤ 1)
    × (length l.self.first.now ≤ length l.initial.self.first.now - l.counter)
    × (length l.self.second.now ≤ length l.initial.self.second.now - l.counter)
    × (length l.other.first.now ≤ length l.initial.other.first.now - l.counter)
    × (length l.other.second.now ≤ length l.initial.other.second.now - l.counter)
