use Rattle.std.proofs.Common.{◌≡◌, ◌+◌, drop, length, take}
use Rattle.vital_cell.specs.Scopes.{lent, named_worths}
use Rattle.vital_cell.specs.Values.{AreSoundIn, worths_in}
use Rattle.vital_cell.proofs.constants.put_worths.Given as goal

abbrev pub invariant-loop-constant : goal.invariant-loop-constant
invariant-loop-constant l = record {
  worths : named_worths l.scope.constants.now l.worths.items ≡ worths_in (lent l.scope) (named_worths l.scope.constants.now l.fn.worths.items) (take l.constant-index l.constants);
  longer : length l.worths.items ≡ length l.fn.worths.items + l.constant-index;
  sound : AreSoundIn (lent l.scope) (named_worths l.scope.constants.now l.worths.items) (drop l.constant-index l.constants);
}
