use Rattle.std.proofs.Common.{ap, arith}
use Rattle.std.proofs.lemmas.Result.{err_from_is_err_and}
use Rattle.vital_annotate.specs.Annotations.{each, entered}
use Rattle.vital_annotate.proofs.OutcomeLemmas.{go-on_at, other, stopped_at}
use Rattle.vital_annotate.proofs.source.Source.enter_group.Goals as goal

pub returns-in_err-enter : goal.returns-in_err-enter
returns-in_err-enter c =
    let p = err_from_is_err_and c.from_residual-in_err-enter.result c.from_residual-in_err-enter.ensures.1 in
    rw (p.1, p.2)
    (other _ _ _ _ (ap (λ xs. each (λ e. entered c.args.self.now.instances.now c.args.self.now.corner c.args.group.now e.place e.kind) xs c.args.annotations.now) c.as_slice-entries.ensures)
    (stopped_at (λ e. entered c.args.self.now.instances.now c.args.self.now.corner c.args.group.now e.place e.kind) c.as_slice-entries.result.now c.loop-entry.entry-index c.entry-item.result _ c.loop-entry.annotations _ c.in_err-enter.field-0.0 (omega arith)
    c.entry-item.is c.loop-entry.invariant c.in_err-enter.ensures))

pub loop-entry-preserved : goal.loop-entry-preserved
loop-entry-preserved c =
    go-on_at (λ e. entered c.args.self.now.instances.now c.args.self.now.corner c.args.group.now e.place e.kind) c.as_slice-entries.result.now c.loop-entry.entry-index c.entry-item.result _ c.loop-entry.annotations _ (omega arith)
    c.entry-item.is c.loop-entry.invariant c.in_ok-enter.ensures.done
