use Rattle.std.proofs.Common.{◌+◌, [], ◌∷◌, map, drop, sym, ap, ◌∙◌, arith}
use Rattle.std.proofs.lemmas.List.{map-append}
use Rattle.std.proofs.lemmas.Result.{err_from_is_err_and}
use Rattle.std.specs.Prelude.{Err}
use Rattle.vital_structure.specs.Statements as of_statements
use Rattle.vital_structure.specs.Structures.{signals_of}
use Rattle.vital_instances.specs.Children.{children_behind, lent}
use Rattle.vital_instances.proofs.ChildLemmas.{children-more, children-wrong}
use Rattle.vital_instances.proofs.ErrorLemmas.{answered-error, error-follows}
use Rattle.vital_instances.proofs.children.children_in.Goals as goal

pub loop-statement-preserved : goal.loop-statement-preserved
loop-statement-preserved c =
    let files = c.args.library.now in
    let signals = signals_of c.args.structure.now in
    let ss = c.args.statements.now in
    let i = c.loop-statement.statement-index in
    let found = c.loop-statement.found.items in
    c.loop-statement.invariant
    ∙ children-more files signals (map lent found) ss i c.statement-item.result (lent c.in_ok-child.child) (omega arith) c.statement-item.is c.in_ok-child.ensures
    ∙ sym (ap (λ cs. children_behind files signals cs (map of_statements.lent (drop (i + 1) ss))) (ap (map lent) c.in_ok-push.ensures.items ∙ map-append lent found (c.in_ok-child.child ∷ [])))

pub returns-in_err-child : goal.returns-in_err-child
returns-in_err-child c =
    let p = err_from_is_err_and c.from_residual.result c.from_residual.ensures.1 in
    answered-error (map lent) _ _ _ (p.1 ∙ ap Err p.2) (error-follows _ _ (λ f wrong. c.loop-statement.invariant ∙ children-wrong c.args.library.now (signals_of c.args.structure.now) (map lent c.loop-statement.found.items) c.args.statements.now c.loop-statement.statement-index c.statement-item.result f (omega arith) c.statement-item.is wrong) _ c.in_err-child.ensures)
