use Rattle.std.proofs.Common.{◌≡◌, ◌≤◌, length, map, take}
use Rattle.vital_library.specs.Positions.{seen, numbered}
use Rattle.vital_library.proofs.unit_at.units_at.Given as goal

abbrev pub invariant-loop-number : goal.invariant-loop-number
invariant-loop-number l = record {
  units : map seen l.units.items ≡ numbered (take l.number l.files);
  limit : length l.units.items ≤ 4096;
}
