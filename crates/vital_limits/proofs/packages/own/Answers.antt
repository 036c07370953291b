use Rattle.std.proofs.Common.{sym, ◌∙◌, ap}
use Rattle.std.specs.Prelude.{Bool}
use Rattle.std.specs.List.{list_any}
use Rattle.vital_limits.specs.declared.packages.ConstantLimits.{ConstantLimits}
use Rattle.vital_limits.specs.NodeLimits.{are_too_long, are_too_many, is_too_long_node, table_rows}
use Rattle.vital_limits.proofs.ConstantLemmas.{any-map}
use Rattle.vital_limits.proofs.packages.own.Goals as goal
use Rattle.vital_nodes.specs.Seen.{seen}

abbrev made : Bool → Bool → Bool → ConstantLimits
made rows columns delay = record { rows = rows; columns = columns; delay = delay }

pub returns : goal.returns
returns c =
    let rows = c.table_rows-rows.ensures in
    let long = any-map is_too_long_node seen c.args.nodes.now in
    ap (λ b. made b c.are_too_long.result c.has_too_long.result) (c.are_too_many.ensures ∙ ap are_too_many rows)
    ∙ ap (λ b. made (are_too_many (table_rows c.args.object.now)) b c.has_too_long.result) (c.are_too_long.ensures ∙ ap are_too_long rows)
    ∙ ap (made (are_too_many (table_rows c.args.object.now)) (are_too_long (table_rows c.args.object.now))) (c.has_too_long.ensures ∙ long ∙ ap (list_any is_too_long_node) c.requires)
