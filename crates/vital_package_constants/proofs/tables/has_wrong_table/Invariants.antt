use Rattle.std.proofs.Common.{◌≡◌, map, take}
use Rattle.std.specs.List.{list_any}
use Rattle.vital_expr.specs.Seen.{lent}
use Rattle.vital_package_constants.specs.Tables.{makes_wrong_at}
use Rattle.vital_nodes.specs.Seen.{seen}
use Rattle.vital_package_constants.proofs.tables.has_wrong_table.Given as goal

abbrev pub invariant-loop-node : goal.invariant-loop-node
invariant-loop-node l = l.is_wrong ≡ list_any (makes_wrong_at l.library (lent l.reader)) (map seen (take l.node-index l.nodes))
