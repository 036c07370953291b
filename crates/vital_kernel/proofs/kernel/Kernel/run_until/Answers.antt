use Rattle.std.proofs.Common.{◌∙◌, Err, ap, subst}
use Rattle.std.proofs.lemmas.Bool.{false≢true}
use Rattle.std.proofs.lemmas.Result.{err_from_is_err_and}
use Rattle.vital_kernel.specs.Kernels.{GoesOn, Simulation}
use Rattle.vital_kernel.specs.declared.run_error.RunError.{RunError}
use Rattle.vital_kernel.proofs.RunLemmas.{begin_failed, begun_is_begun, flush_failed, goes_behind, goes_then}
use Rattle.vital_kernel.proofs.kernel.Kernel.run_until.Goals as goal

pub returns-in_err-flush_before-clause-goes : goal.returns-in_err-flush_before-clause-goes
returns-in_err-flush_before-clause-goes g c =
    flush_failed c.from_residual.result c.args.until c.args.limit c.args.self.now c.flush_before.new.self c.args.printer.now c.flush_before.new.printer c.from_residual.ensures.1
    c.in_err-flush_before.ensures.given_up c.in_err-flush_before.ensures.prints

pub returns-in_err-flush_before-clause-stopped_is_fault : goal.returns-in_err-flush_before-clause-stopped_is_fault
returns-in_err-flush_before-clause-stopped_is_fault g c = λ stopped.
    let failed = err_from_is_err_and c.from_residual.result c.from_residual.ensures.1 in
    failed.1 ∙ ap (λ (e : RunError). Err e) failed.2

pub begin-requires-clause-not_given_up : goal.begin-requires-clause-not_given_up
begin-requires-clause-not_given_up g c = c.in_ok-flush_before.ensures.given_up

pub begin-requires-clause-goes_on : goal.begin-requires-clause-goes_on
begin-requires-clause-goes_on g c = c.in_ok-flush_before.ensures.prints.goes_on

pub returns-in_err-begin-clause-goes : goal.returns-in_err-begin-clause-goes
returns-in_err-begin-clause-goes g c =
    goes_behind c.from_residual-in_err-begin.result c.args.until c.args.limit c.args.self.now c.begin.new.self c.args.printer.now c.flush_before.new.printer c.begin.new.printer c.in_ok-flush_before.ensures.prints
    (subst (λ (k : Simulation). GoesOn c.from_residual-in_err-begin.result c.args.until c.args.limit k c.begin.new.self c.flush_before.new.printer c.begin.new.printer) c.in_ok-flush_before.ensures.same
    (begin_failed c.from_residual-in_err-begin.result _ c.args.until c.args.limit c.flush_before.new.self c.begin.new.self c.flush_before.new.printer c.begin.new.printer c.in_ok-flush_before.ensures.prints.goes_on
    c.in_err-begin.ensures.given_up c.from_residual-in_err-begin.ensures.1 c.in_err-begin.ensures.prints))

pub returns-in_err-begin-clause-stopped_is_fault : goal.returns-in_err-begin-clause-stopped_is_fault
returns-in_err-begin-clause-stopped_is_fault g c = λ stopped. absurd (false≢true (c.in_ok-flush_before.ensures.stopped_is_fault stopped))

pub returns-in_err-begin-clause-stopped_prints_nothing : goal.returns-in_err-begin-clause-stopped_prints_nothing
returns-in_err-begin-clause-stopped_prints_nothing g c = λ stopped. absurd (false≢true (c.in_ok-flush_before.ensures.stopped_is_fault stopped))

pub run_cycles-requires-clause-not_given_up : goal.run_cycles-requires-clause-not_given_up
run_cycles-requires-clause-not_given_up g c = c.in_ok-begin.ensures.given_up

pub run_cycles-requires-clause-begun : goal.run_cycles-requires-clause-begun
run_cycles-requires-clause-begun g c = ap (λ (k : Simulation). k.is_begun) c.in_ok-begin.ensures.after ∙ begun_is_begun c.flush_before.new.self

pub run_cycles-requires-clause-goes_on : goal.run_cycles-requires-clause-goes_on
run_cycles-requires-clause-goes_on g c = c.in_ok-begin.ensures.prints.goes_on

pub returns-clause-goes : goal.returns-clause-goes
returns-clause-goes g c =
    goes_behind c.run_cycles.result c.args.until c.args.limit c.args.self.now c.run_cycles.new.self c.args.printer.now c.flush_before.new.printer c.run_cycles.new.printer c.in_ok-flush_before.ensures.prints
    (subst (λ (k : Simulation). GoesOn c.run_cycles.result c.args.until c.args.limit k c.run_cycles.new.self c.flush_before.new.printer c.run_cycles.new.printer) c.in_ok-flush_before.ensures.same
    (goes_then c.run_cycles.result c.args.until c.args.limit c.flush_before.new.self c.begin.new.self c.run_cycles.new.self c.flush_before.new.printer c.begin.new.printer c.run_cycles.new.printer
    c.in_ok-begin.ensures.after c.in_ok-begin.ensures.prints c.run_cycles.ensures))

pub returns-clause-stopped_is_fault : goal.returns-clause-stopped_is_fault
returns-clause-stopped_is_fault g c = λ stopped. absurd (false≢true (c.in_ok-flush_before.ensures.stopped_is_fault stopped))

pub returns-clause-stopped_prints_nothing : goal.returns-clause-stopped_prints_nothing
returns-clause-stopped_prints_nothing g c = λ stopped. absurd (false≢true (c.in_ok-flush_before.ensures.stopped_is_fault stopped))
