use Rattle.std.proofs.Common.{◌≡◌, ◌∙◌, ℕ, ◌+◌, ◌<◌, List, Some, length, map, refl, sym, ap, subst, arith}
use Rattle.std.specs.List.{filter, filter_map, flat_map}
use Rattle.std.specs.Prelude.{All, IsSome, OnOk, slice_get}
use Rattle.std.proofs.lemmas.List.{length-map}
use Rattle.vital_agenda.specs.Agendas.{Content, advanced}
use Rattle.vital_agenda.specs.Driver.{advance, next_time}
use Rattle.vital_kernel.specs.Activations.{event_text_at, from_state, state_of, text_in}
use Rattle.vital_kernel.specs.Cycles.{Part, all_activated, cycle_at, is_sensitive_to, new_values, updated}
use Rattle.vital_kernel.specs.Handing.{AreLeft, with_lines}
use Rattle.vital_kernel.specs.Kernels.{Simulation, simulation_with, state_with}
use Rattle.vital_kernel.specs.States.{State}
use Rattle.vital_kernel.proofs.CycleLemmas.{CycleIs, IsUpdated, as_many_signals, cycle_is, events_there, events_told, on_ok, processes_are, processes_there, updated_is}
use Rattle.vital_kernel.proofs.EventLemmas.{rising_below}
use Rattle.vital_kernel.proofs.Handed.{Handed, can_hand, handed}
use Rattle.vital_kernel.proofs.Handing.{left_lower}
use Rattle.vital_kernel.proofs.KernelLemmas.{can_run, kept_parts, next_parts}
use Rattle.vital_kernel.proofs.Texts.{Left, left_all, left_breaks, on_err_of, part_breaks, part_last, part_stops, stopped_within}
use Rattle.vital_kernel.specs.Triggered.{ListenerState, triggered_by}
use Rattle.vital_netlist.specs.declared.design_lists.DesignDriver.{DesignDriver}
use Rattle.vital_kernel.specs.Networks.{all_drivers, processes}
use Rattle.vital_kernel.specs.declared.network.NetSignal.{NetSignal}
use Rattle.vital_report.specs.Reporters.{Printed, PrintsPart, Stopped}
use Rattle.vital_signals.specs.Lists.{AreRising}
use Rattle.vital_signals.specs.SignalStates.{SignalState}
use Rattle.vital_kernel.proofs.kernel.Kernel.run_cycle.Goals as goal

pub hand_due-requires-clause-left : goal.hand_due-requires-clause-left
hand_due-requires-clause-left g c =
    let start = g.A.Agenda.content c.self.inside.agenda in
    subst (λ (xs : List ℕ). AreLeft xs (length start.drivers) start.now c.self.inside.left.now) (sym c.deref.ensures.value)
    (can_hand c.self.inside.network.now c.self.inside.lines.now c.self.inside.is_begun c.self.inside.delta c.self.inside.due.room c.self.inside.stimulus_drivers.items c.self.inside.left.now start c.self.inside.signals c.self.inside.processes
    c.self.inside.listeners c.self.invariant)

pub hand_due-requires-clause-next : goal.hand_due-requires-clause-next
hand_due-requires-clause-next g c =
    let start = g.A.Agenda.content c.self.inside.agenda in
    subst (λ (xs : List ℕ). next_time (with_lines xs c.self.inside.left.now start.drivers) ≡ Some c.args.time) (sym c.deref.ensures.value) (ap (λ (k : Simulation). next_time k.state.drivers) c.self.view_is ∙ c.requires.next)

pub invariant_of-self : goal.invariant_of-self
invariant_of-self g c =
    let left = c.self.inside.left.now in
    let inv = c.self.invariant in
    let keeps = c.in_err-self-inside.ensures.keeps in
    kept_parts c.self.inside.network.now c.self.inside.lines.now left left c.self.inside.is_begun c.self.inside.delta c.self.inside.due.room c.self.inside.stimulus_drivers.items (g.A.Agenda.content c.self.inside.agenda)
    (g.A.Agenda.content c.hand_due.new.agenda) c.self.inside.signals c.self.inside.processes c.self.inside.processes c.self.inside.listeners inv (ap (λ (k : Simulation). k.is_begun) c.self.view_is ∙ c.requires.begun) keeps inv.network
    (omega (arith, inv.latest, keeps.now)) inv.to_hand

pub returns-in_err-self-inside-clause-after : goal.returns-in_err-self-inside-clause-after
returns-in_err-self-inside-clause-after g c =
    on_err_of _ _ c.from_residual.result c.from_residual.ensures.1

pub returns-in_err-self-inside-clause-prints : goal.returns-in_err-self-inside-clause-prints
returns-in_err-self-inside-clause-prints g c =
    let k = c.args.self.now in
    let whole = text_in k.network (cycle_at k.network c.args.time c.args.delta k.state).happened in
    let start = c.args.printer.now in
    part_breaks c.from_residual.result whole start start c.from_residual.ensures.1 (left_breaks start whole whole start (left_all start whole c.requires.goes_on))

pub advance-requires-clause-pending : goal.advance-requires-clause-pending
advance-requires-clause-pending g c =
    subst IsSome (sym c.in_ok-self-inside.ensures.next) refl

pub advance-requires-clause-room : goal.advance-requires-clause-room
advance-requires-clause-room g c =
    omega (arith, c.self.invariant.room, c.in_ok-self-inside.ensures.keeps.as_many)

pub update-requires : goal.update-requires
update-requires g c =
    record {
      before = g.A.Agenda.content c.hand_due.new.agenda;
      current = c.in_ok-self-inside.ensures.keeps.current c.self.inside.signals c.self.invariant.current;
      after = c.advance.ensures.after;
      due_then = c.advance.ensures.due;
    }

pub print_events-requires-clause-one_each : goal.print_events-requires-clause-one_each
print_events-requires-clause-one_each g c =
    let n = c.self.inside.network.now in
    let new = g.A.Agenda.content c.advance.new.self in
    let t = c.update.new.self in
    let inv = c.self.invariant in
    let defaults : t.defaults ≡ map (λ (x : NetSignal). x.initial) n.signals = ap (λ (x : SignalState). x.defaults) c.update.ensures.after ∙ inv.defaults in
    ap length c.signals-watched.ensures.signals ∙ sym (as_many_signals n t new.drivers defaults c.update.ensures.current)

pub print_events-requires-clause-there : goal.print_events-requires-clause-there
print_events-requires-clause-there g c =
    let n = c.self.inside.network.now in
    let old = g.A.Agenda.content c.hand_due.new.agenda in
    let new = g.A.Agenda.content c.advance.new.self in
    let s = c.self.inside.signals in
    let t = c.update.new.self in
    let ps = c.self.inside.processes in
    let inv = c.self.invariant in
    let comes : Some new.now ≡ Some c.args.time = sym c.advance.ensures.time ∙ c.in_ok-self-inside.ensures.next in
    let at : new.now ≡ c.args.time = cc in
    let up : IsUpdated n c.args.time old new s t =
    record { defaults = inv.defaults; signals_of = inv.signals_of; content = c.advance.ensures.after ∙ ap (λ (x : ℕ). advanced x old) at; signals = c.update.ensures.after } in
    let as_many : length s.signals ≡ length n.signals = as_many_signals n s (g.A.Agenda.content c.self.inside.agenda).drivers inv.defaults inv.current in
    let there : All (λ number. number < length n.signals) t.events = rising_below 0 (length n.signals) t.events (events_there n c.args.time c.self.inside.delta old new s t ps.variables up as_many) in
    subst (λ (xs : List NetSignal). All (λ number. number < length xs) t.events) (sym c.signals-watched.ensures.signals) there

pub print_events-requires-clause-goes_on : goal.print_events-requires-clause-goes_on
print_events-requires-clause-goes_on g c =
    c.requires.goes_on

pub invariant_of-self-in_err-print_events : goal.invariant_of-self-in_err-print_events
invariant_of-self-in_err-print_events g c =
    let n = c.self.inside.network.now in
    let old = g.A.Agenda.content c.hand_due.new.agenda in
    let new = g.A.Agenda.content c.advance.new.self in
    let s = c.self.inside.signals in
    let t = c.update.new.self in
    let ps = c.self.inside.processes in
    let inv = c.self.invariant in
    let comes : Some new.now ≡ Some c.args.time = sym c.advance.ensures.time ∙ c.in_ok-self-inside.ensures.next in
    let at : new.now ≡ c.args.time = cc in
    let lines = c.self.inside.lines.now in
    let numbers = c.self.inside.stimulus_drivers.items in
    let left = c.self.inside.left.now in
    let later = c.in_ok-self-inside.field-0.now in
    let start = g.A.Agenda.content c.self.inside.agenda in
    let hand : Handed n c.args.time c.args.delta c.self.inside.delta numbers left later start old s ps =
    handed n lines c.self.inside.is_begun c.args.time c.args.delta c.self.inside.delta c.self.inside.due.room numbers left later start old s ps c.self.inside.listeners c.args.self.now.state c.self.invariant (ap (λ (k : Simulation). k.state) c.self.view_is)
    c.requires.next c.requires.rise c.signals-watched.ensures.sound c.in_ok-self-inside.ensures.left (subst (λ (xs : List ℕ). with_lines xs later old.drivers ≡ with_lines xs left start.drivers) c.deref.ensures.value c.in_ok-self-inside.ensures.same)
    c.in_ok-self-inside.ensures.keeps.now in
    next_parts n lines left later c.self.inside.is_begun c.self.inside.delta c.args.delta c.self.inside.due.room c.advance.new.due.room numbers start new s t ps ps
    c.self.inside.listeners c.self.inside.listeners inv (ap (λ (k : Simulation). k.is_begun) c.self.view_is ∙ c.requires.begun) c.advance.ensures.keeps_room (record {
      defaults = ap (λ (x : SignalState). x.defaults) c.update.ensures.after;
      signals_of = ap (λ (x : SignalState). x.signals_of) c.update.ensures.after;
      listened = refl;
      sensitivities = refl;
      network = inv.network;
      current = c.update.ensures.current;
      as_many = ap (λ (x : Content). length x.drivers) c.advance.ensures.after ∙ length-map old.drivers (advance new.now) ∙ c.in_ok-self-inside.ensures.keeps.as_many;
      to_hand = left_lower numbers (length n.stimulus_drivers) new.now (c.args.time + 1) later (omega (arith, at)) hand.to_hand;
      latest = omega (arith, inv.latest, hand.above, at);
      delta = c.requires.delta;
    })

pub returns-in_err-print_events-clause-after : goal.returns-in_err-print_events-clause-after
returns-in_err-print_events-clause-after g c =
    on_err_of _ _ c.from_residual-in_err-print_events.result c.from_residual-in_err-print_events.ensures.1

pub returns-in_err-print_events-clause-prints : goal.returns-in_err-print_events-clause-prints
returns-in_err-print_events-clause-prints g c =
    let n = c.self.inside.network.now in
    let old = g.A.Agenda.content c.hand_due.new.agenda in
    let new = g.A.Agenda.content c.advance.new.self in
    let s = c.self.inside.signals in
    let t = c.update.new.self in
    let ps = c.self.inside.processes in
    let inv = c.self.invariant in
    let st = state_of old c.self.inside.delta s.signals ps.variables in
    let comes : Some new.now ≡ Some c.args.time = sym c.advance.ensures.time ∙ c.in_ok-self-inside.ensures.next in
    let at : new.now ≡ c.args.time = cc in
    let up : IsUpdated n c.args.time old new s t =
    record { defaults = inv.defaults; signals_of = inv.signals_of; content = c.advance.ensures.after ∙ ap (λ (x : ℕ). advanced x old) at; signals = c.update.ensures.after } in
    let told : flat_map (event_text_at c.args.time c.args.delta c.signals-watched.result.now t.signals) t.events ≡ text_in n (updated n c.args.time c.args.delta st).happened =
    ap (λ (xs : List NetSignal). flat_map (event_text_at c.args.time c.args.delta xs t.signals) t.events) c.signals-watched.ensures.signals
    ∙ events_told n c.args.time c.args.delta c.self.inside.delta old new s t ps.variables up in
    let qs = filter (is_sensitive_to (new_values n c.args.time st)) (processes n) in
    let part : CycleIs n c.args.time c.args.delta st qs (updated n c.args.time c.args.delta st).state = cycle_is n c.args.time c.args.delta st qs (updated n c.args.time c.args.delta st).state refl refl in
    let rest = text_in n (all_activated qs (from_state (updated n c.args.time c.args.delta st).state)).happened in
    let failed : Stopped (text_in n (cycle_at n c.args.time c.args.delta st).happened) c.args.printer.now c.print_events.new.printer =
    subst (λ (text : List ℕ). Stopped text c.args.printer.now c.print_events.new.printer) part.text
    (stopped_within (text_in n (updated n c.args.time c.args.delta st).happened) rest c.args.printer.now c.print_events.new.printer
    (subst (λ (text : List ℕ). Stopped text c.args.printer.now c.print_events.new.printer) told c.in_err-print_events.ensures)) in
    let lines = c.self.inside.lines.now in
    let numbers = c.self.inside.stimulus_drivers.items in
    let left = c.self.inside.left.now in
    let later = c.in_ok-self-inside.field-0.now in
    let start = g.A.Agenda.content c.self.inside.agenda in
    let hand : Handed n c.args.time c.args.delta c.self.inside.delta numbers left later start old s ps =
    handed n lines c.self.inside.is_begun c.args.time c.args.delta c.self.inside.delta c.self.inside.due.room numbers left later start old s ps c.self.inside.listeners c.args.self.now.state c.self.invariant (ap (λ (k : Simulation). k.state) c.self.view_is)
    c.requires.next c.requires.rise c.signals-watched.ensures.sound c.in_ok-self-inside.ensures.left (subst (λ (xs : List ℕ). with_lines xs later old.drivers ≡ with_lines xs left start.drivers) c.deref.ensures.value c.in_ok-self-inside.ensures.same)
    c.in_ok-self-inside.ensures.keeps.now in
    let same : text_in n (cycle_at n c.args.time c.args.delta st).happened ≡ text_in n (cycle_at n c.args.time c.args.delta (state_with numbers left (state_of start c.self.inside.delta s.signals ps.variables))).happened =
    sym (ap (λ (x : Part). text_in n x.happened) hand.cycle) in
    subst (λ (k : Simulation). PrintsPart c.from_residual-in_err-print_events.result (text_in k.network (cycle_at k.network c.args.time c.args.delta k.state).happened) c.args.printer.now c.print_events.new.printer) c.self.view_is
    (subst (λ (text : List ℕ). PrintsPart c.from_residual-in_err-print_events.result text c.args.printer.now c.print_events.new.printer) same
    (part_stops c.from_residual-in_err-print_events.result (text_in n (cycle_at n c.args.time c.args.delta st).happened) c.args.printer.now c.print_events.new.printer c.from_residual-in_err-print_events.ensures.1 failed))

pub trigger-requires : goal.trigger-requires
trigger-requires g c =
    let n = c.self.inside.network.now in
    let old = g.A.Agenda.content c.hand_due.new.agenda in
    let new = g.A.Agenda.content c.advance.new.self in
    let s = c.self.inside.signals in
    let t = c.update.new.self in
    let ps = c.self.inside.processes in
    let inv = c.self.invariant in
    let comes : Some new.now ≡ Some c.args.time = sym c.advance.ensures.time ∙ c.in_ok-self-inside.ensures.next in
    let at : new.now ≡ c.args.time = cc in
    let up : IsUpdated n c.args.time old new s t =
    record { defaults = inv.defaults; signals_of = inv.signals_of; content = c.advance.ensures.after ∙ ap (λ (x : ℕ). advanced x old) at; signals = c.update.ensures.after } in
    let as_many : length s.signals ≡ length n.signals = as_many_signals n s (g.A.Agenda.content c.self.inside.agenda).drivers inv.defaults inv.current in
    let there : AreRising 0 (length n.signals) t.events = events_there n c.args.time c.self.inside.delta old new s t ps.variables up as_many in
    subst (λ (es : List ℕ). AreRising 0 c.self.inside.listeners.signals es) (sym c.events.ensures) (subst (λ (most : ℕ). AreRising 0 most t.events) (sym inv.listened) there)

pub run_some-requires-clause-can_run : goal.run_some-requires-clause-can_run
run_some-requires-clause-can_run g c =
    let n = c.self.inside.network.now in
    let old = g.A.Agenda.content c.hand_due.new.agenda in
    let new = g.A.Agenda.content c.advance.new.self in
    let s = c.self.inside.signals in
    let t = c.update.new.self in
    let ps = c.self.inside.processes in
    let inv = c.self.invariant in
    let comes : Some new.now ≡ Some c.args.time = sym c.advance.ensures.time ∙ c.in_ok-self-inside.ensures.next in
    let at : new.now ≡ c.args.time = cc in
    let defaults : t.defaults ≡ map (λ (x : NetSignal). x.initial) n.signals = ap (λ (x : SignalState). x.defaults) c.update.ensures.after ∙ inv.defaults in
    let signals_of : t.signals_of ≡ map (λ (x : DesignDriver). x.signal) (all_drivers n) = ap (λ (x : SignalState). x.signals_of) c.update.ensures.after ∙ inv.signals_of in
    let lines = c.self.inside.lines.now in
    let numbers = c.self.inside.stimulus_drivers.items in
    let left = c.self.inside.left.now in
    let later = c.in_ok-self-inside.field-0.now in
    let start = g.A.Agenda.content c.self.inside.agenda in
    let hand : Handed n c.args.time c.args.delta c.self.inside.delta numbers left later start old s ps =
    handed n lines c.self.inside.is_begun c.args.time c.args.delta c.self.inside.delta c.self.inside.due.room numbers left later start old s ps c.self.inside.listeners c.args.self.now.state c.self.invariant (ap (λ (k : Simulation). k.state) c.self.view_is)
    c.requires.next c.requires.rise c.signals-watched.ensures.sound c.in_ok-self-inside.ensures.left (subst (λ (xs : List ℕ). with_lines xs later old.drivers ≡ with_lines xs left start.drivers) c.deref.ensures.value c.in_ok-self-inside.ensures.same)
    c.in_ok-self-inside.ensures.keeps.now in
    can_run n new t ps defaults signals_of c.update.ensures.current inv.network (omega (arith, inv.latest, hand.above, at)) (omega (arith, at, c.requires.time))

pub run_some-requires-clause-there : goal.run_some-requires-clause-there
run_some-requires-clause-there g c =
    let n = c.self.inside.network.now in
    let t = c.update.new.self in
    let inv = c.self.invariant in
    let triggered = c.triggered.result.now in
    let listed : triggered ≡ triggered_by t.events c.self.inside.listeners.sensitivities =
    c.triggered.ensures ∙ ap (λ (x : ListenerState). x.triggered) c.trigger.ensures ∙ ap (λ (es : List ℕ). triggered_by es c.self.inside.listeners.sensitivities) c.events.ensures in
    processes_there n t.events triggered c.self.inside.listeners.sensitivities inv.sensitivities listed

pub run_some-requires-clause-goes_on : goal.run_some-requires-clause-goes_on
run_some-requires-clause-goes_on g c =
    c.in_ok-print_events.ensures.goes_on

pub invariant_of-self-2 : goal.invariant_of-self-2
invariant_of-self-2 g c =
    let n = c.self.inside.network.now in
    let old = g.A.Agenda.content c.hand_due.new.agenda in
    let new = g.A.Agenda.content c.advance.new.self in
    let s = c.self.inside.signals in
    let t = c.update.new.self in
    let ps = c.self.inside.processes in
    let inv = c.self.invariant in
    let comes : Some new.now ≡ Some c.args.time = sym c.advance.ensures.time ∙ c.in_ok-self-inside.ensures.next in
    let at : new.now ≡ c.args.time = cc in
    let lines = c.self.inside.lines.now in
    let numbers = c.self.inside.stimulus_drivers.items in
    let left = c.self.inside.left.now in
    let later = c.in_ok-self-inside.field-0.now in
    let start = g.A.Agenda.content c.self.inside.agenda in
    let hand : Handed n c.args.time c.args.delta c.self.inside.delta numbers left later start old s ps =
    handed n lines c.self.inside.is_begun c.args.time c.args.delta c.self.inside.delta c.self.inside.due.room numbers left later start old s ps c.self.inside.listeners c.args.self.now.state c.self.invariant (ap (λ (k : Simulation). k.state) c.self.view_is)
    c.requires.next c.requires.rise c.signals-watched.ensures.sound c.in_ok-self-inside.ensures.left (subst (λ (xs : List ℕ). with_lines xs later old.drivers ≡ with_lines xs left start.drivers) c.deref.ensures.value c.in_ok-self-inside.ensures.same)
    c.in_ok-self-inside.ensures.keeps.now in
    let next = g.A.Agenda.content c.run_some.new.agenda in
    let keeps = c.run_some.ensures.keeps in
    next_parts n lines left later c.self.inside.is_begun c.self.inside.delta c.args.delta c.self.inside.due.room c.advance.new.due.room numbers start next s t ps c.run_some.new.processes
    c.self.inside.listeners c.trigger.new.self inv (ap (λ (k : Simulation). k.is_begun) c.self.view_is ∙ c.requires.begun) c.advance.ensures.keeps_room (record {
      defaults = ap (λ (x : SignalState). x.defaults) c.update.ensures.after;
      signals_of = ap (λ (x : SignalState). x.signals_of) c.update.ensures.after;
      listened = ap (λ (x : ListenerState). x.signals) c.trigger.ensures;
      sensitivities = ap (λ (x : ListenerState). x.sensitivities) c.trigger.ensures;
      network = c.run_some.ensures.can_run.network;
      current = keeps.current t c.update.ensures.current;
      as_many = keeps.as_many ∙ ap (λ (x : Content). length x.drivers) c.advance.ensures.after ∙ length-map old.drivers (advance new.now) ∙ c.in_ok-self-inside.ensures.keeps.as_many;
      to_hand = left_lower numbers (length n.stimulus_drivers) next.now (c.args.time + 1) later (omega (arith, at, keeps.now)) hand.to_hand;
      latest = c.run_some.ensures.can_run.later;
      delta = c.requires.delta;
    })

pub returns-clause-after : goal.returns-clause-after
returns-clause-after g c =
    let n = c.self.inside.network.now in
    let old = g.A.Agenda.content c.hand_due.new.agenda in
    let new = g.A.Agenda.content c.advance.new.self in
    let s = c.self.inside.signals in
    let t = c.update.new.self in
    let ps = c.self.inside.processes in
    let inv = c.self.invariant in
    let st = state_of old c.self.inside.delta s.signals ps.variables in
    let comes : Some new.now ≡ Some c.args.time = sym c.advance.ensures.time ∙ c.in_ok-self-inside.ensures.next in
    let at : new.now ≡ c.args.time = cc in
    let up : IsUpdated n c.args.time old new s t =
    record { defaults = inv.defaults; signals_of = inv.signals_of; content = c.advance.ensures.after ∙ ap (λ (x : ℕ). advanced x old) at; signals = c.update.ensures.after } in
    let triggered = c.triggered.result.now in
    let listed : triggered ≡ triggered_by t.events c.self.inside.listeners.sensitivities =
    c.triggered.ensures ∙ ap (λ (x : ListenerState). x.triggered) c.trigger.ensures ∙ ap (λ (es : List ℕ). triggered_by es c.self.inside.listeners.sensitivities) c.events.ensures in
    let qs = filter_map (slice_get (processes n)) triggered in
    let middle = state_of new c.args.delta t.signals ps.variables in
    let part : CycleIs n c.args.time c.args.delta st qs middle =
    cycle_is n c.args.time c.args.delta st qs middle
    (processes_are n c.args.time c.self.inside.delta old new s t ps.variables triggered c.self.inside.listeners.sensitivities up inv.sensitivities listed)
    (updated_is n c.args.time c.args.delta c.self.inside.delta old new s t ps.variables up) in
    let next = g.A.Agenda.content c.run_some.new.agenda in
    let lines = c.self.inside.lines.now in
    let numbers = c.self.inside.stimulus_drivers.items in
    let left = c.self.inside.left.now in
    let later = c.in_ok-self-inside.field-0.now in
    let start = g.A.Agenda.content c.self.inside.agenda in
    let hand : Handed n c.args.time c.args.delta c.self.inside.delta numbers left later start old s ps =
    handed n lines c.self.inside.is_begun c.args.time c.args.delta c.self.inside.delta c.self.inside.due.room numbers left later start old s ps c.self.inside.listeners c.args.self.now.state c.self.invariant (ap (λ (k : Simulation). k.state) c.self.view_is)
    c.requires.next c.requires.rise c.signals-watched.ensures.sound c.in_ok-self-inside.ensures.left (subst (λ (xs : List ℕ). with_lines xs later old.drivers ≡ with_lines xs left start.drivers) c.deref.ensures.value c.in_ok-self-inside.ensures.same)
    c.in_ok-self-inside.ensures.keeps.now in
    let view : Simulation =
    simulation_with numbers later (record { network = n; lines = lines; is_begun = c.self.inside.is_begun; is_given_up = c.self.inside.is_given_up; state = state_of next c.args.delta t.signals c.run_some.new.processes.variables }) in
    subst (λ (k : Simulation). OnOk c.run_some.result (view ≡ (let it : Simulation = record k { state = (cycle_at k.network c.args.time c.args.delta k.state).state } in it))) c.self.view_is
    (on_ok c.run_some.result c.run_some.ensures.activates.state (λ e.
    ap (λ (x : State). let it : Simulation = record view { state = x } in it) (ap (state_with numbers later) (e ∙ part.state) ∙ sym (ap (λ (x : Part). x.state) hand.cycle))))

pub returns-clause-prints : goal.returns-clause-prints
returns-clause-prints g c =
    let n = c.self.inside.network.now in
    let old = g.A.Agenda.content c.hand_due.new.agenda in
    let new = g.A.Agenda.content c.advance.new.self in
    let s = c.self.inside.signals in
    let t = c.update.new.self in
    let ps = c.self.inside.processes in
    let inv = c.self.invariant in
    let st = state_of old c.self.inside.delta s.signals ps.variables in
    let comes : Some new.now ≡ Some c.args.time = sym c.advance.ensures.time ∙ c.in_ok-self-inside.ensures.next in
    let at : new.now ≡ c.args.time = cc in
    let up : IsUpdated n c.args.time old new s t =
    record { defaults = inv.defaults; signals_of = inv.signals_of; content = c.advance.ensures.after ∙ ap (λ (x : ℕ). advanced x old) at; signals = c.update.ensures.after } in
    let triggered = c.triggered.result.now in
    let listed : triggered ≡ triggered_by t.events c.self.inside.listeners.sensitivities =
    c.triggered.ensures ∙ ap (λ (x : ListenerState). x.triggered) c.trigger.ensures ∙ ap (λ (es : List ℕ). triggered_by es c.self.inside.listeners.sensitivities) c.events.ensures in
    let qs = filter_map (slice_get (processes n)) triggered in
    let middle = state_of new c.args.delta t.signals ps.variables in
    let part : CycleIs n c.args.time c.args.delta st qs middle =
    cycle_is n c.args.time c.args.delta st qs middle
    (processes_are n c.args.time c.self.inside.delta old new s t ps.variables triggered c.self.inside.listeners.sensitivities up inv.sensitivities listed)
    (updated_is n c.args.time c.args.delta c.self.inside.delta old new s t ps.variables up) in
    let told : flat_map (event_text_at c.args.time c.args.delta c.signals-watched.result.now t.signals) t.events ≡ text_in n (updated n c.args.time c.args.delta st).happened =
    ap (λ (xs : List NetSignal). flat_map (event_text_at c.args.time c.args.delta xs t.signals) t.events) c.signals-watched.ensures.signals
    ∙ events_told n c.args.time c.args.delta c.self.inside.delta old new s t ps.variables up in
    let whole = text_in n (cycle_at n c.args.time c.args.delta st).happened in
    let rest = text_in n (all_activated qs (from_state middle)).happened in
    let begins : Left c.args.printer.now whole rest c.print_events.new.printer =
    record {
      front = text_in n (updated n c.args.time c.args.delta st).happened;
      parts = part.text;
      printed = subst (λ (text : List ℕ). Printed text c.args.printer.now c.print_events.new.printer) told c.in_ok-print_events.ensures;
    } in
    let lines = c.self.inside.lines.now in
    let numbers = c.self.inside.stimulus_drivers.items in
    let left = c.self.inside.left.now in
    let later = c.in_ok-self-inside.field-0.now in
    let start = g.A.Agenda.content c.self.inside.agenda in
    let hand : Handed n c.args.time c.args.delta c.self.inside.delta numbers left later start old s ps =
    handed n lines c.self.inside.is_begun c.args.time c.args.delta c.self.inside.delta c.self.inside.due.room numbers left later start old s ps c.self.inside.listeners c.args.self.now.state c.self.invariant (ap (λ (k : Simulation). k.state) c.self.view_is)
    c.requires.next c.requires.rise c.signals-watched.ensures.sound c.in_ok-self-inside.ensures.left (subst (λ (xs : List ℕ). with_lines xs later old.drivers ≡ with_lines xs left start.drivers) c.deref.ensures.value c.in_ok-self-inside.ensures.same)
    c.in_ok-self-inside.ensures.keeps.now in
    let same : text_in n (cycle_at n c.args.time c.args.delta st).happened ≡ text_in n (cycle_at n c.args.time c.args.delta (state_with numbers left (state_of start c.self.inside.delta s.signals ps.variables))).happened =
    sym (ap (λ (x : Part). text_in n x.happened) hand.cycle) in
    subst (λ (k : Simulation). PrintsPart c.run_some.result (text_in k.network (cycle_at k.network c.args.time c.args.delta k.state).happened) c.args.printer.now c.run_some.new.printer) c.self.view_is
    (subst (λ (text : List ℕ). PrintsPart c.run_some.result text c.args.printer.now c.run_some.new.printer) same
    (part_last c.run_some.result c.args.printer.now whole rest c.print_events.new.printer c.run_some.new.printer begins c.run_some.ensures.activates.prints))
