use Rattle.std.proofs.Common.{◌≡◌, ◌∙◌, false, length, refl, ap, sym, subst, arith}
use Rattle.std.proofs.lemmas.List.{length-map}
use Rattle.vital_agenda.specs.Agendas.{Content, idle, idle_driver}
use Rattle.vital_agenda.specs.DueLists.{DueList}
use Rattle.vital_kernel.specs.Kernels.{Simulation}
use Rattle.vital_kernel.specs.States.{State}
use Rattle.vital_kernel.proofs.FirstLemmas.{starts}
use Rattle.vital_kernel.specs.Triggered.{ListenerState}
use Rattle.vital_kernel.specs.Processes.{ProcessStates}
use Rattle.vital_signals.specs.SignalStates.{AreCurrent, SignalState}
use Rattle.vital_kernel.proofs.kernel.Kernel.start.Goals as goal

pub first_signals-requires : goal.first_signals-requires
first_signals-requires g c = c.deref.ensures.value ∙ c.in_ok-initial.ensures

pub overflow_cast-len : goal.overflow_cast-len
overflow_cast-len g c = omega (arith, c.len.ensures, ap length c.deref.ensures.value, c.in_ok-signals.ensures.few, c.in_ok-initial.initial.ok.0)

pub new-requires-3 : goal.new-requires-3
new-requires-3 g c = omega (arith, ap length c.as_slice.ensures.value, ap length c.deref.ensures.value, c.in_ok-signals.ensures.few)

pub invariant_of-result : goal.invariant_of-result
invariant_of-result g c =
    let n = c.args.network.now in
    let content = g.A.Agenda.content c.in_ok-agenda.agenda in
    let given : c.as_slice.result.now ≡ c.deref.result.now = c.as_slice.ensures.value ∙ sym c.deref.ensures.value in
    let is : content ≡ idle c.deref.result.now = c.in_ok-agenda.ensures ∙ ap idle given in
    record {
      defaults = ap (λ (x : SignalState). x.defaults) c.in_ok-signals.ensures.first;
      signals_of = ap (λ (x : SignalState). x.signals_of) c.in_ok-signals.ensures.first;
      listened = ap (λ (x : ListenerState). x.signals) c.in_ok-listeners.ensures;
      sensitivities = ap (λ (x : ListenerState). x.sensitivities) c.in_ok-listeners.ensures;
      network = ap (λ (x : ProcessStates). x.network) c.in_ok-processes.ensures.first;
      stimulated = c.in_ok-stimulus_drivers.ensures;
      driven = c.requires.driven;
      in_order = c.requires.in_order;
      to_hand = tt;
      current = subst (λ (x : Content). AreCurrent c.in_ok-signals.signals x.drivers) (sym is) c.in_ok-signals.ensures.current;
      room =
          omega (
            arith,
            ap (λ (x : Content). length x.drivers) is,
            length-map c.deref.result.now idle_driver,
            ap length c.deref.ensures.value,
            c.len.ensures,
            c.in_ok-initial.initial.ok.0,
            ap (λ (x : DueList). x.room) c.in_ok-due.ensures,
          );
      latest = omega (arith, ap (λ (x : ProcessStates). x.latest) c.in_ok-processes.ensures.first);
      delta = omega arith;
      first = λ e. (starts n content c.in_ok-signals.signals c.in_ok-processes.processes c.deref.result.now (c.deref.ensures.value ∙ c.in_ok-initial.ensures) is c.in_ok-signals.ensures.first c.in_ok-processes.ensures.first, refl);
    }

pub returns : goal.returns
returns g c =
    let n = c.args.network.now in
    let content = g.A.Agenda.content c.in_ok-agenda.agenda in
    let given : c.as_slice.result.now ≡ c.deref.result.now = c.as_slice.ensures.value ∙ sym c.deref.ensures.value in
    let is : content ≡ idle c.deref.result.now = c.in_ok-agenda.ensures ∙ ap idle given in
    ap (λ (x : State). let it : Simulation = record { network = n; lines = c.args.lines.now; is_begun = false; is_given_up = false; state = x } in it)
    (starts n content c.in_ok-signals.signals c.in_ok-processes.processes c.deref.result.now (c.deref.ensures.value ∙ c.in_ok-initial.ensures) is c.in_ok-signals.ensures.first c.in_ok-processes.ensures.first)
