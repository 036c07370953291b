use Rattle.std.proofs.Common.{◌≡◌, ◌+◌, ◌<◌, ◌≤◌, List, [], ◌∷◌, length, drop, get_or, refl, subst, arith}
use Rattle.std.specs.List.{filter_map}
use Rattle.std.specs.Prelude.{slice_get}
use Rattle.std.proofs.lemmas.Option.{slice_get-get_or}
use Rattle.vital_kernel.specs.Activations.{from_state, state_of, text_in}
use Rattle.vital_kernel.specs.Cycles.{activated, all_activated}
use Rattle.vital_kernel.proofs.Activations.{ToRun, first_runs, one_ran}
use Rattle.vital_kernel.proofs.Keeping.{keeps_none, keeps_then}
use Rattle.vital_kernel.proofs.Steps.{picked_at, picked_none, some_at}
use Rattle.vital_kernel.proofs.Texts.{left_all, left_none, on_err_of, part_failed}
use Rattle.vital_kernel.specs.Networks.{NetProcess, processes}
use Rattle.vital_kernel.proofs.activation.run_some.Goals as goal

pub loop-process-init : goal.loop-process-init
loop-process-init g c =
    let n = c.args.network.now in
    let all = processes n in
    let ps = filter_map (slice_get all) c.args.numbers.now in
    let before = state_of (g.A.Agenda.content c.args.agenda.now) c.args.delta c.args.signals.now.signals c.args.processes.now.variables in
    record {
      to_run = record { state = refl; left = left_all c.args.printer.now (text_in n (all_activated ps (from_state before)).happened) c.requires.goes_on };
      keeps = keeps_none (g.A.Agenda.content c.args.agenda.now);
      can_run = c.requires.can_run;
    }

pub run_process-requires-clause-can_run : goal.run_process-requires-clause-can_run
run_process-requires-clause-can_run g c = c.loop-process.invariant.can_run

pub run_process-requires-clause-there : goal.run_process-requires-clause-there
run_process-requires-clause-there g c =
    c.requires.there c.loop-process.process-index 0 (omega (arith, c.loop-process-test.true))

pub run_process-requires-clause-goes_on : goal.run_process-requires-clause-goes_on
run_process-requires-clause-goes_on g c = c.loop-process.invariant.to_run.left.printed.goes_on

pub returns-in_err-run_process-clause-keeps : goal.returns-in_err-run_process-clause-keeps
returns-in_err-run_process-clause-keeps g c =
    keeps_then (g.A.Agenda.content c.args.agenda.now) (g.A.Agenda.content c.loop-process.agenda) (g.A.Agenda.content c.run_process.new.agenda) c.loop-process.invariant.keeps c.in_err-run_process.ensures.keeps

pub returns-in_err-run_process-clause-can_run : goal.returns-in_err-run_process-clause-can_run
returns-in_err-run_process-clause-can_run g c = c.in_err-run_process.ensures.can_run

pub returns-in_err-run_process-clause-activates : goal.returns-in_err-run_process-clause-activates
returns-in_err-run_process-clause-activates g c =
    let n = c.args.network.now in
    let all = processes n in
    let numbers = c.args.numbers.now in
    let ps = filter_map (slice_get all) numbers in
    let i = c.loop-process.process-index in
    let k = get_or numbers i 0 in
    let at : i < length numbers = omega (arith, c.loop-process-test.true) in
    let within : k < length all = c.requires.there i 0 at in
    let p = some_at all k within in
    let split : filter_map (slice_get all) (drop i numbers) ≡ p.0 ∷ filter_map (slice_get all) (drop (i + 1) numbers) = picked_at all numbers i k p.0 (slice_get-get_or numbers i 0 at) p.1 in
    let rest = filter_map (slice_get all) (drop (i + 1) numbers) in
    let before = state_of (g.A.Agenda.content c.args.agenda.now) c.args.delta c.args.signals.now.signals c.args.processes.now.variables in
    let now = state_of (g.A.Agenda.content c.loop-process.agenda) c.args.delta c.args.signals.now.signals c.loop-process.processes.variables in
    let whole = all_activated ps (from_state before) in
    let start = c.args.printer.now in
    let to_run : ToRun n whole.state start (text_in n whole.happened) (p.0 ∷ rest) now c.loop-process.printer = subst (λ (xs : List NetProcess). ToRun n whole.state start (text_in n whole.happened) xs now c.loop-process.printer) split c.loop-process.invariant.to_run in
    let one = activated (from_state now) p.0 in
    let both = first_runs n whole.state start (text_in n whole.happened) p.0 rest now c.loop-process.printer to_run in
    record {
      state = on_err_of _ _ c.from_residual.result c.from_residual.ensures.1;
      prints =
          part_failed (Unit {0}) c.from_residual.result _ start (text_in n whole.happened) (text_in n one.happened) (text_in n (all_activated rest (from_state one.state)).happened) c.loop-process.printer
          c.run_process.new.printer c.from_residual.ensures.1 both.1 (c.in_err-run_process.ensures.activates p.0 p.1).prints;
    }

pub loop-process-preserved : goal.loop-process-preserved
loop-process-preserved g c =
    let n = c.args.network.now in
    let all = processes n in
    let numbers = c.args.numbers.now in
    let ps = filter_map (slice_get all) numbers in
    let i = c.loop-process.process-index in
    let k = get_or numbers i 0 in
    let at : i < length numbers = omega (arith, c.loop-process-test.true) in
    let within : k < length all = c.requires.there i 0 at in
    let p = some_at all k within in
    let split : filter_map (slice_get all) (drop i numbers) ≡ p.0 ∷ filter_map (slice_get all) (drop (i + 1) numbers) = picked_at all numbers i k p.0 (slice_get-get_or numbers i 0 at) p.1 in
    let rest = filter_map (slice_get all) (drop (i + 1) numbers) in
    let before = state_of (g.A.Agenda.content c.args.agenda.now) c.args.delta c.args.signals.now.signals c.args.processes.now.variables in
    let now = state_of (g.A.Agenda.content c.loop-process.agenda) c.args.delta c.args.signals.now.signals c.loop-process.processes.variables in
    let whole = all_activated ps (from_state before) in
    let start = c.args.printer.now in
    let to_run : ToRun n whole.state start (text_in n whole.happened) (p.0 ∷ rest) now c.loop-process.printer = subst (λ (xs : List NetProcess). ToRun n whole.state start (text_in n whole.happened) xs now c.loop-process.printer) split c.loop-process.invariant.to_run in
    let next = state_of (g.A.Agenda.content c.run_process.new.agenda) c.args.delta c.args.signals.now.signals c.run_process.new.processes.variables in
    let did = c.in_ok-run_process.ensures.activates p.0 p.1 in
    record {
      to_run = one_ran n whole.state start (text_in n whole.happened) p.0 rest now next c.loop-process.printer c.run_process.new.printer to_run did.state did.prints;
      keeps = keeps_then (g.A.Agenda.content c.args.agenda.now) (g.A.Agenda.content c.loop-process.agenda) (g.A.Agenda.content c.run_process.new.agenda) c.loop-process.invariant.keeps c.in_ok-run_process.ensures.keeps;
      can_run = c.in_ok-run_process.ensures.can_run;
    }

pub returns-clause-activates : goal.returns-clause-activates
returns-clause-activates g c =
    let n = c.args.network.now in
    let all = processes n in
    let numbers = c.args.numbers.now in
    let ps = filter_map (slice_get all) numbers in
    let i = c.loop-process.process-index in
    let k = get_or numbers i 0 in
    let past : length numbers ≤ i = omega (arith, c.loop-process-test.false) in
    let none : filter_map (slice_get all) (drop i numbers) ≡ [] = picked_none all numbers i past in
    let before = state_of (g.A.Agenda.content c.args.agenda.now) c.args.delta c.args.signals.now.signals c.args.processes.now.variables in
    let now = state_of (g.A.Agenda.content c.loop-process.agenda) c.args.delta c.args.signals.now.signals c.loop-process.processes.variables in
    let whole = all_activated ps (from_state before) in
    let start = c.args.printer.now in
    let done : ToRun n whole.state start (text_in n whole.happened) [] now c.loop-process.printer = subst (λ (xs : List NetProcess). ToRun n whole.state start (text_in n whole.happened) xs now c.loop-process.printer) none c.loop-process.invariant.to_run in
    record { state = done.state; prints = left_none start (text_in n whole.happened) c.loop-process.printer done.left }

pub returns-clause-keeps : goal.returns-clause-keeps
returns-clause-keeps g c = c.loop-process.invariant.keeps

pub returns-clause-can_run : goal.returns-clause-can_run
returns-clause-can_run g c = c.loop-process.invariant.can_run
