use Rattle.std.proofs.Common.{◌≡◌, take, map}
use Rattle.std.specs.Prelude.{Some}
use Rattle.vital_operands.specs.Items.{all_some, between_marks, printed_level}
use Rattle.vital_operands.proofs.item_forms.levels_of_text.Given as goal

abbrev pub invariant-loop-byte : goal.invariant-loop-byte
invariant-loop-byte l = all_some (map printed_level (take l.byte-index (between_marks l.text))) ≡ Some l.levels.items
