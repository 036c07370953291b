use Rattle.std.proofs.Common.{length, ap, ◌∙◌}
use Rattle.vital_agenda.specs.Driver.{Driver, send}
use Rattle.vital_agenda.specs.Agendas.{Content}
use Rattle.vital_agenda.proofs.Contents.{length-changed}
use Rattle.vital_agenda.proofs.queue_agenda.tests.take.Goals as goal

pub returns-in_ok-assign-in-Send-clause-drivers : goal.returns-in_ok-assign-in-Send-clause-drivers
returns-in_ok-assign-in-Send-clause-drivers g c =
    let old : Content = g.A.Agenda.content c.args.agenda.now in
    ap (λ (s : Content). length s.drivers) c.in_ok-assign-in-Send.ensures.ok
    ∙ length-changed c.in-Send.driver (send old.now c.in-Send.kind c.in-Send.value c.in-Send.delay) old.drivers ∙ c.requires.drivers
