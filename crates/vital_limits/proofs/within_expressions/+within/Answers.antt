use Rattle.std.proofs.lemmas.Result.{on_ok_weaker}
use Rattle.vital_nodes.specs.declared.expr.Adding.{Adding}
use Rattle.vital_nodes.specs.declared.expr.Expr.{Expr}
use Rattle.vital_nodes.specs.declared.expr.Multiplying.{Multiplying}
use Rattle.vital_nodes.specs.Nodes.{Expression, Item, parts_of_suffix}
use Rattle.vital_limits.proofs.WithinLemmas.{node-put, parts-put, put-expr, put-item, put-name}
use Rattle.vital_limits.proofs.within_expressions.+within.Goals as goal

pub put_within_expr-returns : goal.put_within_expr-returns
put_within_expr-returns t c =
    on_ok_weaker c.put_in_expr.result
    (put-expr c.walked_in_preorder.ensures c.args.expr.now _ _ _ c.in_ok-put_of_expression.ensures)
    c.put_in_expr.ensures

pub put_within_item-returns : goal.put_within_item-returns
put_within_item-returns t c = on_ok_weaker c.put_in_item.result (put-item c.walked_in_preorder.ensures c.args.item.now _ _) c.put_in_item.ensures

pub put_within_name-returns : goal.put_within_name-returns
put_within_name-returns t c =
    on_ok_weaker c.put_in_suffixes.result (put-name c.walked_in_preorder.ensures c.args.name.now _ _ _ c.as_slice.ensures) c.put_in_suffixes.ensures

pub put_within_exprs-loop-expr-preserved : goal.put_within_exprs-loop-expr-preserved
put_within_exprs-loop-expr-preserved t c =
    node-put (λ e. Expression e) _ _ _ c.args.exprs.now c.loop-expr.expr-index c.expr-item.result c.in_ok-put_within_expr.ensures c.loop-expr.invariant c.loop-expr-test.true c.expr-item.is

pub put_within_terms-loop-term-preserved : goal.put_within_terms-loop-term-preserved
put_within_terms-loop-term-preserved t c =
    node-put (λ (term : Adding × Expr). Expression term.1) _ _ _ c.args.terms.now c.loop-term.term-index c.loop-term-item.result c.in_ok-put_within_expr.ensures c.loop-term.invariant c.loop-term-test.true c.loop-term-item.is

pub put_within_factors-loop-factor-preserved : goal.put_within_factors-loop-factor-preserved
put_within_factors-loop-factor-preserved t c =
    node-put (λ (factor : Multiplying × Expr). Expression factor.1) _ _ _ c.args.factors.now c.loop-factor.factor-index c.loop-factor-item.result c.in_ok-put_within_expr.ensures c.loop-factor.invariant c.loop-factor-test.true c.loop-factor-item.is

pub put_within_items-loop-item-preserved : goal.put_within_items-loop-item-preserved
put_within_items-loop-item-preserved t c =
    node-put (λ i. Item i) _ _ _ c.args.list.now c.loop-item.item-index c.item-item.result c.in_ok-put_within_item.ensures c.loop-item.invariant c.loop-item-test.true c.item-item.is

pub put_in_suffixes-loop-suffix-preserved : goal.put_in_suffixes-loop-suffix-preserved
put_in_suffixes-loop-suffix-preserved t c =
    parts-put parts_of_suffix _ _ _ c.args.suffixes.now c.loop-suffix.suffix-index c.suffix-item.result c.in_ok-put_in_suffix.ensures c.loop-suffix.invariant c.loop-suffix-test.true c.suffix-item.is
