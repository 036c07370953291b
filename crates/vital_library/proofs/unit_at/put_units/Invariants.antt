use Rattle.std.proofs.Common.{◌≡◌, ◌≤◌, ◌+◌, ◌++◌, length, map, take}
use Rattle.vital_library.specs.Positions.{seen}
use Rattle.vital_library.specs.Positions.{numbered_from}
use Rattle.vital_library.proofs.unit_at.put_units.Given as goal

abbrev pub invariant-loop-number : goal.invariant-loop-number
invariant-loop-number l = record {
  units : map seen l.all.items ≡ map seen l.initial.all.items ++ numbered_from l.file 0 (take l.number l.units);
  count : length l.all.items ≡ length l.initial.all.items + l.number;
  limit : length l.all.items ≤ 4096;
}
