use Rattle.std.proofs.Common.{◌≡◌, ◌∙◌, ◌++◌, ◌∷◌, [], map, ap, arith}
use Rattle.std.proofs.lemmas.List.{take_all}
use Rattle.vital_signals.specs.Events.{quiet_signal}
use Rattle.vital_signals.specs.Values.{values}
use Rattle.vital_signals.proofs.StateLemmas.{length-values, one_more_quiet}
use Rattle.vital_signals.proofs.signals.first_values.Goals as goal

pub loop-number-preserved : goal.loop-number-preserved
loop-number-preserved g c =
    let defaults = c.args.sources.now.defaults in
    let signals_of = c.args.sources.now.signals_of in
    let drivers = (g.A.Agenda.content c.args.agenda.now).drivers in
    let pushed : c.push.new.self.items ≡ c.loop-number.signals.items ++ c.quiet.result ∷ [] = c.in_ok-push.ensures.items in
    pushed
    ∙ one_more_quiet c.loop-number.number (values defaults signals_of drivers) c.loop-number.signals.items c.value.result c.quiet.result (omega (arith, length-values defaults signals_of drivers))
    c.value.ensures c.quiet.ensures c.loop-number.invariant

pub returns : goal.returns
returns g c =
    let drivers = (g.A.Agenda.content c.args.agenda.now).drivers in
    let given = values c.args.sources.now.defaults c.args.sources.now.signals_of drivers in
    c.loop-number.invariant
    ∙ ap (map quiet_signal) (take_all c.loop-number.number given (omega (arith, length-values c.args.sources.now.defaults c.args.sources.now.signals_of drivers)))
