use Rattle.std.proofs.Common.{[], ◌∷◌, ◌∙◌, ap, sym, arith}
use Rattle.std.specs.Borrow.{Bor}
use Rattle.std.specs.Prelude.{Some}
use Rattle.std.proofs.lemmas.List.{map-append}
use Rattle.vital_nodes.specs.Items.{positional_value}
use Rattle.vital_nodes.specs.declared.expr.Expr.{Expr}
use Rattle.vital_operands.specs.Items.{all_lent}
use Rattle.vital_operands.proofs.Steps.{all_some-missing, all_some-more}
use Rattle.vital_operands.proofs.item_forms.values.Goals as goal

pub returns-in-None : goal.returns-in-None
returns-in-None c = sym (all_some-missing positional_value c.args.items.now c.loop-item.item-index c.item-item.result (omega arith) c.item-item.is (sym c.in-None.ensures))

pub loop-item-preserved : goal.loop-item-preserved
loop-item-preserved c =
    all_some-more positional_value c.args.items.now c.loop-item.item-index c.item-item.result c.in-Some.value.now (all_lent c.loop-item.values.items) (omega arith) c.item-item.is (sym c.in-Some.ensures) c.loop-item.invariant
    ∙ ap Some (sym (ap all_lent c.in_ok-push-in-Some.ensures.items ∙ map-append (λ (e : Bor Expr). e.now) c.loop-item.values.items (c.in-Some.value ∷ [])))
