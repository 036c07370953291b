use Rattle.std.proofs.Common.{◌≡◌, ◌-◌, ◌<◌, ◌≤◌, true, length}
use Rattle.std.specs.Prelude.{slice_range}
use Rattle.vital_vhdl_lexemes.specs.Forms.{are_underlined}
use Rattle.vital_vhdl_lexemes.proofs.ends.underlined_end.Given as goal

abbrev pub invariant-loop-end : goal.invariant-loop-end
invariant-loop-end g l = record {
  forward : l.at < l.end;
  within : l.end ≤ length l.text;
  joined : are_underlined g.C.ByteClass.has (slice_range l.text l.at l.end) ≡ true;
}

abbrev pub decreases-loop-end : goal.decreases-loop-end
decreases-loop-end g l = length l.text - l.end
