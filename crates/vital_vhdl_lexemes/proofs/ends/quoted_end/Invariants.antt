use Rattle.std.proofs.Common.{◌-◌, ◌≤◌, length}
use Rattle.vital_vhdl_lexemes.proofs.Quoted.{IsOpen, LastClosed}
use Rattle.vital_vhdl_lexemes.proofs.ends.quoted_end.Given as goal

abbrev pub invariant-loop-end : goal.invariant-loop-end
invariant-loop-end l = record {
  forward : l.at ≤ l.end;
  within : l.end ≤ length l.text;
  open_here : IsOpen l.mark l.text l.at l.end;
  last_closed : LastClosed l.mark l.text l.at l.end l.closed;
}

abbrev pub decreases-loop-end : goal.decreases-loop-end
decreases-loop-end l = length l.text - l.end
