use Rattle.vital_kernel.proofs.Texts.{flush_failed, flushed, on_err_of, part_passed, part_stops}
use Rattle.vital_kernel.specs.Kernels.{next_text}
use Rattle.vital_kernel.proofs.kernel.Kernel.write_part.Goals as goal

pub returns-in_err-run_part-clause-after : goal.returns-in_err-run_part-clause-after
returns-in_err-run_part-clause-after g c = on_err_of _ _ c.from_residual.result c.from_residual.ensures.1

pub returns-in_err-run_part-clause-prints : goal.returns-in_err-run_part-clause-prints
returns-in_err-run_part-clause-prints g c =
    part_passed (Unit {0}) c.from_residual.result _ (next_text c.args.self.now) c.args.printer.now c.run_part.new.printer c.from_residual.ensures.1 c.in_err-run_part.ensures.prints

pub returns-in_err-run_part-clause-holds_nothing : goal.returns-in_err-run_part-clause-holds_nothing
returns-in_err-run_part-clause-holds_nothing g c = on_err_of _ _ c.from_residual.result c.from_residual.ensures.1

pub returns-in_err-flush-clause-after : goal.returns-in_err-flush-clause-after
returns-in_err-flush-clause-after g c = on_err_of _ _ c.from_residual-in_err-flush.result c.from_residual-in_err-flush.ensures.1

pub returns-in_err-flush-clause-prints : goal.returns-in_err-flush-clause-prints
returns-in_err-flush-clause-prints g c =
    part_stops c.from_residual-in_err-flush.result (next_text c.args.self.now) c.args.printer.now c.flush.new.self c.from_residual-in_err-flush.ensures.1
    (flush_failed (next_text c.args.self.now) c.args.printer.now c.run_part.new.printer c.flush.new.self c.in_ok-run_part.ensures.prints c.in_err-flush.ensures.prints)

pub returns-in_err-flush-clause-holds_nothing : goal.returns-in_err-flush-clause-holds_nothing
returns-in_err-flush-clause-holds_nothing g c = on_err_of _ _ c.from_residual-in_err-flush.result c.from_residual-in_err-flush.ensures.1

pub returns-clause-prints : goal.returns-clause-prints
returns-clause-prints g c =
    flushed (next_text c.args.self.now) c.args.printer.now c.run_part.new.printer c.flush.new.self c.in_ok-run_part.ensures.prints c.in_ok-flush.ensures.prints
