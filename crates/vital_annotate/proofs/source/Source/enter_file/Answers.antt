use Rattle.std.proofs.Common.{ap, arith}
use Rattle.std.proofs.lemmas.Result.{err_from_is_err_and}
use Rattle.vital_annotate.specs.Annotations.{each, group_entered}
use Rattle.vital_annotate.proofs.OutcomeLemmas.{go-on_at, other, stopped_at}
use Rattle.vital_annotate.proofs.source.Source.enter_file.Goals as goal

pub returns-in_err-enter_group : goal.returns-in_err-enter_group
returns-in_err-enter_group c =
    let p = err_from_is_err_and c.from_residual.result c.from_residual.ensures.1 in
    rw (p.1, p.2)
    (other _ _ _ _ (ap (λ xs. each (group_entered c.args.self.now.instances.now c.args.self.now.corner) xs c.args.annotations.now) c.as_slice-groups.ensures)
    (stopped_at (group_entered c.args.self.now.instances.now c.args.self.now.corner) c.as_slice-groups.result.now c.loop-group.group-index c.group-item.result _ c.loop-group.annotations _ c.in_err-enter_group.field-0.0 (omega arith)
    c.group-item.is c.loop-group.invariant c.in_err-enter_group.ensures))

pub loop-group-preserved : goal.loop-group-preserved
loop-group-preserved c =
    go-on_at (group_entered c.args.self.now.instances.now c.args.self.now.corner) c.as_slice-groups.result.now c.loop-group.group-index c.group-item.result _ c.loop-group.annotations _ (omega arith)
    c.group-item.is c.loop-group.invariant c.in_ok-enter_group.ensures.done
