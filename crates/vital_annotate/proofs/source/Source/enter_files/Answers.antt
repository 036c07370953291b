use Rattle.std.proofs.Common.{arith}
use Rattle.std.proofs.lemmas.Result.{err_from_is_err_and}
use Rattle.vital_annotate.specs.Annotations.{file_entered}
use Rattle.vital_annotate.proofs.OutcomeLemmas.{go-on_at, stopped_at}
use Rattle.vital_annotate.proofs.source.Source.enter_files.Goals as goal

pub returns-in_err-enter_file : goal.returns-in_err-enter_file
returns-in_err-enter_file c =
    let p = err_from_is_err_and c.from_residual.result c.from_residual.ensures.1 in
    rw (p.1, p.2)
    (stopped_at (file_entered c.args.self.now.instances.now c.args.self.now.corner) c.args.files.now c.loop-file.file-index c.file-item.result _ c.loop-file.annotations _ c.in_err-enter_file.field-0.0 (omega arith)
    c.file-item.is c.loop-file.invariant c.in_err-enter_file.ensures)

pub loop-file-preserved : goal.loop-file-preserved
loop-file-preserved c =
    go-on_at (file_entered c.args.self.now.instances.now c.args.self.now.corner) c.args.files.now c.loop-file.file-index c.file-item.result _ c.loop-file.annotations _ (omega arith)
    c.file-item.is c.loop-file.invariant c.in_ok-enter_file.ensures.done
