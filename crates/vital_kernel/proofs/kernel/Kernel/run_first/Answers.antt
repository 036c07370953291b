use Rattle.std.proofs.Common.{◌≡◌, ◌∙◌, ℕ, List, ◌++◌, false, true, length, map, refl, sym, ap, subst, arith}
use Rattle.std.specs.List.{flat_map, zip}
use Rattle.std.specs.Prelude.{OnOk}
use Rattle.std.proofs.lemmas.List.Concat.{flat_map-append}
use Rattle.vital_kernel.specs.Activations.{init_text, state_of, text_in}
use Rattle.vital_kernel.specs.Cycles.{Happening, first_state, initial_run}
use Rattle.vital_kernel.specs.Kernels.{Simulation, simulation_with, state_with}
use Rattle.vital_kernel.specs.Lines.{init_lines, lines_of, run_lines}
use Rattle.vital_kernel.specs.States.{State}
use Rattle.vital_kernel.proofs.CycleLemmas.{as_many_signals, on_ok}
use Rattle.vital_kernel.proofs.FirstLemmas.{inits_told, is_first}
use Rattle.vital_kernel.proofs.KernelLemmas.{begun_parts, can_run, kept_parts}
use Rattle.vital_kernel.proofs.Texts.{Left, on_err_of, part_last, part_stops, stopped_within}
use Rattle.vital_kernel.specs.declared.network.NetSignal.{NetSignal}
use Rattle.vital_report.specs.Lines.{bytes_of, text_of}
use Rattle.vital_report.specs.Reporters.{Printed, PrintsPart, Stopped}
use Rattle.vital_signals.specs.declared.signal.Signal.{Signal}
use Rattle.vital_kernel.proofs.kernel.Kernel.run_first.Goals as goal

pub print_inits-requires-clause-one_each : goal.print_inits-requires-clause-one_each
print_inits-requires-clause-one_each g c =
    let inv = c.self.invariant in
    ap length c.signals.ensures.signals ∙ sym (as_many_signals c.self.inside.network.now c.self.inside.signals (g.A.Agenda.content c.self.inside.agenda).drivers inv.defaults inv.current)

pub print_inits-requires-clause-goes_on : goal.print_inits-requires-clause-goes_on
print_inits-requires-clause-goes_on g c =
    c.requires.goes_on

pub invariant_of-self : goal.invariant_of-self
invariant_of-self g c =
    let n = c.self.inside.network.now in
    let lines = c.self.inside.lines.now in
    let numbers = c.self.inside.stimulus_drivers.items in
    let old = g.A.Agenda.content c.self.inside.agenda in
    let s = c.self.inside.signals in
    let ps = c.self.inside.processes in
    let inv = c.self.invariant in
    let st = state_of old c.self.inside.delta s.signals ps.variables in
    let unbegun : c.self.inside.is_begun ≡ false = ap (λ (k : Simulation). k.is_begun) c.self.view_is ∙ c.requires.first in
    let first : st ≡ first_state n = (inv.first unbegun).0 in
    begun_parts n lines c.self.inside.left.now c.self.inside.is_begun c.self.inside.delta c.self.inside.due.room numbers old s ps c.self.inside.listeners inv unbegun c.signals.ensures.sound.signals_there

pub returns-in_err-print_inits-clause-after : goal.returns-in_err-print_inits-clause-after
returns-in_err-print_inits-clause-after g c =
    on_err_of _ _ c.from_residual.result c.from_residual.ensures.1

pub returns-in_err-print_inits-clause-prints : goal.returns-in_err-print_inits-clause-prints
returns-in_err-print_inits-clause-prints g c =
    let n = c.self.inside.network.now in
    let lines = c.self.inside.lines.now in
    let numbers = c.self.inside.stimulus_drivers.items in
    let old = g.A.Agenda.content c.self.inside.agenda in
    let s = c.self.inside.signals in
    let ps = c.self.inside.processes in
    let inv = c.self.invariant in
    let st = state_of old c.self.inside.delta s.signals ps.variables in
    let unbegun : c.self.inside.is_begun ≡ false = ap (λ (k : Simulation). k.is_begun) c.self.view_is ∙ c.requires.first in
    let first : st ≡ first_state n = (inv.first unbegun).0 in
    let told : flat_map init_text (zip c.signals.result.now (map (λ (x : Signal). x.value) s.signals)) ≡ text_of (init_lines n) =
    ap (λ (xs : List NetSignal). flat_map init_text (zip xs (map (λ (x : Signal). x.value) s.signals))) c.signals.ensures.signals ∙ inits_told n st first in
    let happened = (initial_run n lines).happened in
    let whole = text_of (run_lines n happened) in
    let parts : text_of (init_lines n) ++ text_in n happened ≡ whole = sym (flat_map-append bytes_of (init_lines n) (flat_map (lines_of n) happened)) in
    let failed : Stopped whole c.args.printer.now c.print_inits.new.printer =
    subst (λ (text : List ℕ). Stopped text c.args.printer.now c.print_inits.new.printer) parts
    (stopped_within (text_of (init_lines n)) (text_in n happened) c.args.printer.now c.print_inits.new.printer
    (subst (λ (text : List ℕ). Stopped text c.args.printer.now c.print_inits.new.printer) told c.in_err-print_inits.ensures)) in
    subst (λ (k : Simulation). PrintsPart c.from_residual.result (text_of (run_lines k.network (initial_run k.network k.lines).happened)) c.args.printer.now c.print_inits.new.printer) c.self.view_is
    (part_stops c.from_residual.result whole c.args.printer.now c.print_inits.new.printer c.from_residual.ensures.1 failed)

pub run_all-requires-clause-can_run : goal.run_all-requires-clause-can_run
run_all-requires-clause-can_run g c =
    let n = c.self.inside.network.now in
    let lines = c.self.inside.lines.now in
    let numbers = c.self.inside.stimulus_drivers.items in
    let old = g.A.Agenda.content c.self.inside.agenda in
    let s = c.self.inside.signals in
    let ps = c.self.inside.processes in
    let inv = c.self.invariant in
    let st = state_of old c.self.inside.delta s.signals ps.variables in
    let unbegun : c.self.inside.is_begun ≡ false = ap (λ (k : Simulation). k.is_begun) c.self.view_is ∙ c.requires.first in
    let first : st ≡ first_state n = (inv.first unbegun).0 in
    let zero : old.now ≡ 0 = ap (λ (x : State). x.now) first in
    can_run n old s ps inv.defaults inv.signals_of inv.current inv.network inv.latest (omega (arith, zero))

pub run_all-requires-clause-goes_on : goal.run_all-requires-clause-goes_on
run_all-requires-clause-goes_on g c =
    c.in_ok-print_inits.ensures.goes_on

pub invariant_of-self-2 : goal.invariant_of-self-2
invariant_of-self-2 g c =
    let n = c.self.inside.network.now in
    let lines = c.self.inside.lines.now in
    let numbers = c.self.inside.stimulus_drivers.items in
    let old = g.A.Agenda.content c.self.inside.agenda in
    let s = c.self.inside.signals in
    let ps = c.self.inside.processes in
    let inv = c.self.invariant in
    let st = state_of old c.self.inside.delta s.signals ps.variables in
    let unbegun : c.self.inside.is_begun ≡ false = ap (λ (k : Simulation). k.is_begun) c.self.view_is ∙ c.requires.first in
    let first : st ≡ first_state n = (inv.first unbegun).0 in
    let begun = begun_parts n lines c.self.inside.left.now c.self.inside.is_begun c.self.inside.delta c.self.inside.due.room numbers old s ps c.self.inside.listeners inv unbegun c.signals.ensures.sound.signals_there in
    kept_parts n lines lines lines true c.self.inside.delta c.self.inside.due.room numbers old (g.A.Agenda.content c.run_all.new.agenda) s ps c.run_all.new.processes c.self.inside.listeners begun refl c.run_all.ensures.keeps
    c.run_all.ensures.can_run.network c.run_all.ensures.can_run.later begun.to_hand

pub returns-clause-after : goal.returns-clause-after
returns-clause-after g c =
    let n = c.self.inside.network.now in
    let lines = c.self.inside.lines.now in
    let numbers = c.self.inside.stimulus_drivers.items in
    let old = g.A.Agenda.content c.self.inside.agenda in
    let s = c.self.inside.signals in
    let ps = c.self.inside.processes in
    let inv = c.self.invariant in
    let st = state_of old c.self.inside.delta s.signals ps.variables in
    let unbegun : c.self.inside.is_begun ≡ false = ap (λ (k : Simulation). k.is_begun) c.self.view_is ∙ c.requires.first in
    let first : st ≡ first_state n = (inv.first unbegun).0 in
    let is = is_first n numbers lines st c.signals.ensures.sound inv.stimulated inv.driven inv.in_order first in
    let view : Simulation =
    simulation_with numbers lines (record { network = n; lines = lines; is_begun = true; is_given_up = c.self.inside.is_given_up; state = state_of (g.A.Agenda.content c.run_all.new.agenda) c.self.inside.delta s.signals c.run_all.new.processes.variables }) in
    subst (λ (k : Simulation). OnOk c.run_all.result (view ≡ (let it : Simulation = record k { is_begun = true; state = (initial_run k.network k.lines).state } in it))) c.self.view_is
    (on_ok c.run_all.result c.run_all.ensures.activates.state (λ e.
    ap (λ (x : State). let it : Simulation = record view { state = x } in it) (ap (state_with numbers lines) e ∙ is.state)))

pub returns-clause-prints : goal.returns-clause-prints
returns-clause-prints g c =
    let n = c.self.inside.network.now in
    let lines = c.self.inside.lines.now in
    let numbers = c.self.inside.stimulus_drivers.items in
    let old = g.A.Agenda.content c.self.inside.agenda in
    let s = c.self.inside.signals in
    let ps = c.self.inside.processes in
    let inv = c.self.invariant in
    let st = state_of old c.self.inside.delta s.signals ps.variables in
    let unbegun : c.self.inside.is_begun ≡ false = ap (λ (k : Simulation). k.is_begun) c.self.view_is ∙ c.requires.first in
    let first : st ≡ first_state n = (inv.first unbegun).0 in
    let is = is_first n numbers lines st c.signals.ensures.sound inv.stimulated inv.driven inv.in_order first in
    let told : flat_map init_text (zip c.signals.result.now (map (λ (x : Signal). x.value) s.signals)) ≡ text_of (init_lines n) =
    ap (λ (xs : List NetSignal). flat_map init_text (zip xs (map (λ (x : Signal). x.value) s.signals))) c.signals.ensures.signals ∙ inits_told n st first in
    let happened = (initial_run n lines).happened in
    let whole = text_of (run_lines n happened) in
    let parts : text_of (init_lines n) ++ text_in n happened ≡ whole = sym (flat_map-append bytes_of (init_lines n) (flat_map (lines_of n) happened)) in
    let left : Left c.args.printer.now whole (text_in n happened) c.print_inits.new.printer =
    record { front = text_of (init_lines n); parts = parts; printed = subst (λ (text : List ℕ). Printed text c.args.printer.now c.print_inits.new.printer) told c.in_ok-print_inits.ensures } in
    subst (λ (k : Simulation). PrintsPart c.run_all.result (text_of (run_lines k.network (initial_run k.network k.lines).happened)) c.args.printer.now c.run_all.new.printer) c.self.view_is
    (part_last c.run_all.result c.args.printer.now whole (text_in n happened) c.print_inits.new.printer c.run_all.new.printer left
    (subst (λ (h : List Happening). PrintsPart c.run_all.result (text_in n h) c.print_inits.new.printer c.run_all.new.printer) is.happened c.run_all.ensures.activates.prints))
