use Rattle.std.proofs.Common.{◌≡◌, ◌++◌, map, take}
use Rattle.std.specs.List.{filter_map}
use Rattle.vital_expr.specs.Seen.{lent}
use Rattle.vital_table_uses.specs.TableUses.{truth_use_at}
use Rattle.vital_nodes.specs.Seen.{seen}
use Rattle.vital_level1.proofs.uses.put_truth_uses_at.Given as goal

abbrev pub invariant-loop-node : goal.invariant-loop-node
invariant-loop-node l = l.uses.items ≡ l.initial.uses.items ++ filter_map (truth_use_at (lent l.reader)) (map (λ v. seen v.node) (take l.node-index l.nodes))
