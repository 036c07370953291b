use Rattle.std.proofs.Common.{◌≡◌, ◌∙◌, ◌-◌, ◌<◌, ◌^◌, [], Err, OnOk, sym, ap, subst}
use Rattle.std.specs.Prelude.{is_err}
use Rattle.std.proofs.lemmas.Bool.{false≢true}
use Rattle.std.proofs.lemmas.Result.{err_from_is_err_and}
use Rattle.vital_kernel.specs.Kernels.{IsToCome, Simulation, after_next, next_text}
use Rattle.vital_kernel.proofs.PartLemmas.{delta_few}
use Rattle.vital_kernel.proofs.Texts.{on_err_of, part_behind, part_stops, stopped_within}
use Rattle.vital_report.specs.declared.print_error.PrintError.{PrintError}
use Rattle.vital_report.specs.Reporters.{PrintsPart}
use Rattle.vital_kernel.proofs.kernel.Kernel.cycle.Goals as goal

pub returns-in_err-flush_before-clause-after : goal.returns-in_err-flush_before-clause-after
returns-in_err-flush_before-clause-after g c = on_err_of _ _ c.from_residual.result c.from_residual.ensures.1

pub returns-in_err-flush_before-clause-prints : goal.returns-in_err-flush_before-clause-prints
returns-in_err-flush_before-clause-prints g c =
    let text = next_text c.args.self.now in
    part_stops c.from_residual.result text c.args.printer.now c.flush_before.new.printer c.from_residual.ensures.1
    (stopped_within [] text c.args.printer.now c.flush_before.new.printer c.in_err-flush_before.ensures.prints)

pub returns-in_err-flush_before-clause-holds_nothing : goal.returns-in_err-flush_before-clause-holds_nothing
returns-in_err-flush_before-clause-holds_nothing g c = on_err_of _ _ c.from_residual.result c.from_residual.ensures.1

pub returns-in_err-flush_before-clause-given_up : goal.returns-in_err-flush_before-clause-given_up
returns-in_err-flush_before-clause-given_up g c =
    let failed = err_from_is_err_and c.from_residual.result c.from_residual.ensures.1 in
    c.in_err-flush_before.ensures.given_up ∙ sym (ap is_err failed.1)

pub returns-in_err-flush_before-clause-stopped_is_fault : goal.returns-in_err-flush_before-clause-stopped_is_fault
returns-in_err-flush_before-clause-stopped_is_fault g c = λ stopped.
    let failed = err_from_is_err_and c.from_residual.result c.from_residual.ensures.1 in
    failed.1 ∙ ap (λ (e : PrintError). Err e) failed.2

pub run_next-requires-clause-not_given_up : goal.run_next-requires-clause-not_given_up
run_next-requires-clause-not_given_up g c = c.in_ok-flush_before.ensures.given_up

pub run_next-requires-clause-to_come : goal.run_next-requires-clause-to_come
run_next-requires-clause-to_come g c = subst IsToCome (sym c.in_ok-flush_before.ensures.same) c.requires.to_come

pub run_next-requires-clause-delta : goal.run_next-requires-clause-delta
run_next-requires-clause-delta g c = λ begun.
    delta_few c.flush_before.new.self.state (subst (λ (k : Simulation). k.state.delta < 2 ^ 32 - 1) (sym c.in_ok-flush_before.ensures.same) c.requires.delta)

pub run_next-requires-clause-goes_on : goal.run_next-requires-clause-goes_on
run_next-requires-clause-goes_on g c = c.in_ok-flush_before.ensures.prints.goes_on

pub returns-clause-after : goal.returns-clause-after
returns-clause-after g c =
    subst (λ (k : Simulation). OnOk c.run_next.result (c.run_next.new.self ≡ after_next k)) c.in_ok-flush_before.ensures.same c.run_next.ensures.after

pub returns-clause-prints : goal.returns-clause-prints
returns-clause-prints g c =
    part_behind c.run_next.result (next_text c.args.self.now) c.args.printer.now c.flush_before.new.printer c.run_next.new.printer c.in_ok-flush_before.ensures.prints
    (subst (λ (k : Simulation). PrintsPart c.run_next.result (next_text k) c.flush_before.new.printer c.run_next.new.printer) c.in_ok-flush_before.ensures.same c.run_next.ensures.prints)

pub returns-clause-stopped_is_fault : goal.returns-clause-stopped_is_fault
returns-clause-stopped_is_fault g c = λ stopped. absurd (false≢true (c.in_ok-flush_before.ensures.stopped_is_fault stopped))

pub returns-clause-stopped_prints_nothing : goal.returns-clause-stopped_prints_nothing
returns-clause-stopped_prints_nothing g c = λ stopped. absurd (false≢true (c.in_ok-flush_before.ensures.stopped_is_fault stopped))
