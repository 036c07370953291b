use Rattle.vital_nodes.specs.declared.expr.Adding.{Adding}
use Rattle.vital_nodes.specs.declared.expr.Expr.{Expr}
use Rattle.vital_expr.specs.Reading.{Reading}
use Rattle.vital_expr.specs.Readings.{reading}
use Rattle.vital_expr.specs.Seen.{lent}
use Rattle.vital_expr.proofs.Lists.{places-more, tree-more}
use Rattle.vital_expr.proofs.texts.+texts.Goals as goal

pub texts-loop-term-preserved : goal.texts-loop-term-preserved
texts-loop-term-preserved t c = record {
  trees = tree-more (λ (r : Reading). r.text) (λ (term : Adding × Expr). reading (lent c.args.reader.now) term.1) c.args.terms.now c.loop-term.term-index c.loop-term-item.result c.loop-term.texts c.put.new.self c.in_ok-text.text c.loop-term-test.true c.loop-term-item.is c.loop-term.invariant.trees c.in_ok-text.ensures.tree c.in_ok-put.ensures;
  places = places-more (λ (r : Reading). r.text) (λ (term : Adding × Expr). reading (lent c.args.reader.now) term.1) c.args.terms.now c.loop-term.term-index c.loop-term-item.result c.args.broken.now.items c.loop-term.broken.items c.text.new.broken.items c.loop-term-test.true c.loop-term-item.is c.loop-term.invariant.places c.in_ok-text.ensures.places;
}
