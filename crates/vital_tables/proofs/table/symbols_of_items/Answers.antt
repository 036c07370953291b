use Rattle.std.proofs.Common.{◌∙◌, ap, sym, arith}
use Rattle.std.specs.Prelude.{Some}
use Rattle.vital_declaration_clauses.specs.Scopes.{lent}
use Rattle.vital_operands.proofs.Steps.{all_some-missing, all_some-more}
use Rattle.vital_tables.specs.Tables.{symbol_at}
use Rattle.vital_tables.proofs.table.symbols_of_items.Goals as goal

pub returns-in-None : goal.returns-in-None
returns-in-None c = sym (all_some-missing (symbol_at (lent c.args.scope)) c.args.items.now c.loop-item.item-index c.item-item.result (omega arith) c.item-item.is (sym c.in-None.ensures))

pub loop-item-preserved : goal.loop-item-preserved
loop-item-preserved c =
    all_some-more (symbol_at (lent c.args.scope)) c.args.items.now c.loop-item.item-index c.item-item.result c.in-Some.symbol c.loop-item.row.items (omega arith) c.item-item.is (sym c.in-Some.ensures) c.loop-item.invariant
    ∙ ap Some (sym c.in_ok-push-in-Some.ensures.items)
