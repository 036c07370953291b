use Rattle.std.proofs.Common.{◌≡◌, ◌+◌, ◌≤◌}
use Rattle.vital_lex.specs.Places.{line_of, column_of}
use Rattle.vital_lex.proofs.text_position.TextPosition.forward.Given as goal

abbrev pub invariant-loop-i : goal.invariant-loop-i
invariant-loop-i l = record {
  line_is : l.line ≡ line_of l.text l.i;
  column_is : l.column ≡ column_of l.text l.i;
  line_bound : l.line ≤ 1 + l.i;
  column_bound : l.column ≤ 1 + l.i;
}
