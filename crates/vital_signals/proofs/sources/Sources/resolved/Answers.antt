use Rattle.std.proofs.Common.{get_or, ◌∙◌}
use Rattle.std.proofs.lemmas.List.{length-map}
use Rattle.vital_agenda.specs.Driver.{Driver, currents}
use Rattle.vital_signals.proofs.SourceLemmas.{turn}
use Rattle.vital_signals.proofs.sources.Sources.resolved.Goals as goal

pub loop-at-smaller : goal.loop-at-smaller
loop-at-smaller g c =
    let signals = c.args.self.now.signals_of in
    let drivers = (g.A.Agenda.content c.args.agenda.now).drivers in
    (turn (get_or signals c.args.driver 0) c.in-Some.driver c.loop-at.at c.next-at.result signals (currents drivers) c.loop-at.value c.current.result c.resolve2-value.result
    (length-map drivers (λ (d : Driver). d.current) ∙ c.requires.one_each) c.in-Some.is c.loop-at.invariant.here c.next-at.ensures c.current.ensures c.resolve2-value.ensures).fewer

pub loop-at-preserved : goal.loop-at-preserved
loop-at-preserved g c =
    let signals = c.args.self.now.signals_of in
    let drivers = (g.A.Agenda.content c.args.agenda.now).drivers in
    let turned =
    turn (get_or signals c.args.driver 0) c.in-Some.driver c.loop-at.at c.next-at.result signals (currents drivers) c.loop-at.value c.current.result c.resolve2-value.result
    (length-map drivers (λ (d : Driver). d.current) ∙ c.requires.one_each) c.in-Some.is c.loop-at.invariant.here c.next-at.ensures c.current.ensures c.resolve2-value.ensures in
    record { here = turned.here; left = turned.left ∙ c.loop-at.invariant.left }
