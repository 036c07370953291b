use Rattle.std.proofs.Common.{sym, ◌∙◌, ap, arith}
use Rattle.std.specs.Prelude.{◌||◌}
use Rattle.vital_expr.specs.Seen.{lent}
use Rattle.vital_package_constants.specs.Tables.{makes_wrong_at}
use Rattle.vital_nodes.proofs.Lists.{any-seen}
use Rattle.vital_nodes.specs.Seen.{seen}
use Rattle.vital_package_constants.proofs.tables.has_wrong_table.Goals as goal

pub loop-node-preserved : goal.loop-node-preserved
loop-node-preserved c =
    c.in_ok-is_wrong.ensures
    ∙ ap (λ before. makes_wrong_at c.args.library.now (lent c.args.reader.now) (seen c.node-item.result) || before) c.loop-node.invariant
    ∙ sym (any-seen seen (makes_wrong_at c.args.library.now (lent c.args.reader.now)) c.args.nodes.now c.loop-node.node-index c.node-item.result (omega arith) c.node-item.is)
