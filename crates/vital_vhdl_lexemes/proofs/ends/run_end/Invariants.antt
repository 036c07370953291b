use Rattle.std.proofs.Common.{◌≡◌, ◌-◌, ◌≤◌, true, length}
use Rattle.std.specs.Prelude.{slice_range}
use Rattle.std.specs.List.{list_all}
use Rattle.vital_vhdl_lexemes.proofs.ends.run_end.Given as goal

abbrev pub invariant-loop-end : goal.invariant-loop-end
invariant-loop-end g l = record {
  forward : l.at ≤ l.end;
  within : l.end ≤ length l.text;
  passes : list_all g.C.ByteClass.has (slice_range l.text l.at l.end) ≡ true;
}

abbrev pub decreases-loop-end : goal.decreases-loop-end
decreases-loop-end g l = length l.text - l.end
