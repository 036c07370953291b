use Rattle.std.proofs.Common.{◌≡◌, take, map}
use Rattle.std.specs.Prelude.{Some}
use Rattle.vital_nodes.specs.Items.{positional_value}
use Rattle.vital_operands.specs.Items.{all_lent, all_some}
use Rattle.vital_operands.proofs.item_forms.values.Given as goal

abbrev pub invariant-loop-item : goal.invariant-loop-item
invariant-loop-item l = all_some (map positional_value (take l.item-index l.items)) ≡ Some (all_lent l.values.items)
