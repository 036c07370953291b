use Rattle.std.proofs.Common.{ℕ, None, Some, drop, get_or, ap, sym, ◌∙◌}
use Rattle.std.proofs.lemmas.List.{length-map}
use Rattle.vital_agenda.specs.Driver.{Driver, currents}
use Rattle.vital_signals.specs.Sources.{SourceLists}
use Rattle.vital_signals.specs.Values.{driven, values_driving}
use Rattle.vital_signals.proofs.SourceLemmas.{got, value_is, values_from}
use Rattle.vital_signals.proofs.sources.Sources.value.Goals as goal

pub driven-requires-clause-there : goal.driven-requires-clause-there
driven-requires-clause-there g c =
    let drivers = (g.A.Agenda.content c.args.agenda.now).drivers in
    (values_from 0 c.args.number (Some c.in-Some.driver) c.args.self.now.signals_of (currents drivers) (length-map drivers (λ (d : Driver). d.current) ∙ c.requires.one_each) (sym c.in-Some.ensures)).0.1

pub returns-in-Some : goal.returns-in-Some
returns-in-Some g c =
    let drivers = (g.A.Agenda.content c.args.agenda.now).drivers in
    let signals = c.args.self.now.signals_of in
    let found = values_from 0 c.args.number (Some c.in-Some.driver) signals (currents drivers) (length-map drivers (λ (d : Driver). d.current) ∙ c.requires.one_each) (sym c.in-Some.ensures) in
    value_is c.args.number c.args.self.now.defaults signals drivers c.driven.result c.requires.there
    (λ default there.
    ap (driven default) found.1 ∙ ap (λ (n : ℕ). driven default (values_driving n (drop c.in-Some.driver signals) (drop c.in-Some.driver (currents drivers)))) (sym found.0.2)
    ∙ c.driven.ensures default)

pub returns-in-None : goal.returns-in-None
returns-in-None g c =
    let drivers = (g.A.Agenda.content c.args.agenda.now).drivers in
    let signals = c.args.self.now.signals_of in
    let found = values_from 0 c.args.number None signals (currents drivers) (length-map drivers (λ (d : Driver). d.current) ∙ c.requires.one_each) (sym c.in-None.ensures) in
    value_is c.args.number c.args.self.now.defaults signals drivers c.index.result.now c.requires.there
    (λ default there.
    ap (driven default) found.1 ∙ sym (got c.args.self.now.defaults c.args.number default c.index.result.now there)
    ∙ ap (λ (s : SourceLists). get_or s.defaults c.args.number c.index.result.now) (sym c.self.view_is) ∙ sym c.index.ensures)
