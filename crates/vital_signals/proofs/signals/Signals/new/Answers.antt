use Rattle.std.proofs.Common.{◌≡◌, length, map, ap, sym, ◌∙◌, arith}
use Rattle.std.proofs.lemmas.List.{length-map}
use Rattle.vital_agenda.specs.Agendas.{Content, idle_driver}
use Rattle.vital_signals.specs.Events.{quiet_signal}
use Rattle.vital_signals.specs.Lists.{NumberList}
use Rattle.vital_signals.specs.Sources.{SourceLists}
use Rattle.vital_signals.specs.Values.{values}
use Rattle.vital_signals.specs.declared.signal.Signal.{Signal}
use Rattle.vital_signals.proofs.StateLemmas.{length-values, quiet_values}
use Rattle.vital_signals.proofs.signals.Signals.new.Goals as goal

pub invariant_of-result-2 : goal.invariant_of-result-2
invariant_of-result-2 c =
    let sources = c.in_ok-sources.sources in
    let drivers = c.in_ok-agenda.agenda.drivers in
    let is : c.in_ok-signals.signals.items ≡ map quiet_signal (values sources.defaults sources.signals_of drivers) = c.in_ok-signals.ensures in
    let lists : sources ≡ record { defaults = c.args.defaults.now; signals_of = c.args.signals_of.now } = c.in_ok-sources.ensures in
    let long : length c.in_ok-signals.signals.items ≡ length sources.defaults =
    ap length is ∙ length-map (values sources.defaults sources.signals_of drivers) quiet_signal ∙ length-values sources.defaults sources.signals_of drivers in
    let one_each : length c.args.signals_of.now ≡ length c.sources.inside.signals_of.items =
    sym (ap (λ (s : SourceLists). length s.signals_of) lists) ∙ sym (ap (λ (s : SourceLists). length s.signals_of) c.sources.view_is) in (
      long ∙ sym (ap (λ (s : SourceLists). length s.defaults) c.sources.view_is),
      omega (arith, long, ap (λ (s : SourceLists). length s.defaults) lists, c.requires.few_signals),
      ap (λ (n : NumberList). n.room) c.in_ok-reserve.ensures ∙ one_each,
      ap (λ (n : NumberList). n.room) c.in_ok-reserve-2.ensures ∙ one_each,
    )

pub returns-clause-current : goal.returns-clause-current
returns-clause-current c =
    let sources = c.in_ok-sources.sources in
    let is : c.in_ok-signals.signals.items ≡ map quiet_signal (values sources.defaults sources.signals_of c.in_ok-agenda.agenda.drivers) = c.in_ok-signals.ensures in
    let lists : sources ≡ record { defaults = c.args.defaults.now; signals_of = c.args.signals_of.now } = c.in_ok-sources.ensures in
    let drivers : c.in_ok-agenda.agenda.drivers ≡ map idle_driver c.args.initial.now = ap (λ (content : Content). content.drivers) c.in_ok-agenda.ensures in
    record {
      one_each =
          length-map c.args.initial.now idle_driver ∙ c.requires.one_each
          ∙ sym (ap (λ (s : SourceLists). length s.signals_of) lists) ∙ sym (ap (λ (s : SourceLists). length s.signals_of) c.sources.view_is);
      given =
          ap (map (λ (signal : Signal). signal.value)) is ∙ quiet_values (values sources.defaults sources.signals_of c.in_ok-agenda.agenda.drivers)
          ∙ ap (values sources.defaults sources.signals_of) drivers
          ∙ sym (ap (λ (s : SourceLists). values s.defaults s.signals_of (map idle_driver c.args.initial.now)) c.sources.view_is);
    }
