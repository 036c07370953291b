use Rattle.std.proofs.Common.{◌∙◌, ap, sym, arith}
use Rattle.std.specs.Prelude.{Some}
use Rattle.vital_declaration_clauses.specs.Scopes.{lent}
use Rattle.vital_operands.proofs.Steps.{all_some-missing, all_some-more}
use Rattle.vital_tables.specs.Tables.{row_of}
use Rattle.vital_tables.proofs.table.rows_of_items.Goals as goal

pub returns-in-None : goal.returns-in-None
returns-in-None c = sym (all_some-missing (row_of (lent c.args.scope)) c.args.items.now c.loop-item.item-index c.item-item.result (omega arith) c.item-item.is (sym c.in_ok-symbols.ensures ∙ c.in-None.is))

pub loop-item-preserved : goal.loop-item-preserved
loop-item-preserved c =
    all_some-more (row_of (lent c.args.scope)) c.args.items.now c.loop-item.item-index c.item-item.result c.in-Some.row c.loop-item.rows.items (omega arith) c.item-item.is (sym c.in_ok-symbols.ensures ∙ c.in-Some.is) c.loop-item.invariant
    ∙ ap Some (sym c.in_ok-push-in-Some.ensures.items)
