use Rattle.std.proofs.Common.{◌∙◌}
use Rattle.std.proofs.lemmas.List.{length-map}
use Rattle.vital_agenda.specs.Driver.{Driver, currents}
use Rattle.vital_signals.proofs.SourceLemmas.{more_drive, one_drives}
use Rattle.vital_signals.proofs.sources.Sources.driven.Goals as goal

pub returns-in-Some : goal.returns-in-Some
returns-in-Some g c =
    let drivers = (g.A.Agenda.content c.args.agenda.now).drivers in
    more_drive c.args.driver c.in-Some.field-0 c.args.self.now.signals_of (currents drivers) c.resolved.result
    (length-map drivers (λ (d : Driver). d.current) ∙ c.requires.one_each) c.requires.there c.in-Some.ensures c.resolved.ensures

pub returns-in-None : goal.returns-in-None
returns-in-None g c =
    let drivers = (g.A.Agenda.content c.args.agenda.now).drivers in
    one_drives c.args.driver c.args.self.now.signals_of (currents drivers) c.current.result
    (length-map drivers (λ (d : Driver). d.current) ∙ c.requires.one_each) c.requires.there c.in-None.ensures c.current.ensures
