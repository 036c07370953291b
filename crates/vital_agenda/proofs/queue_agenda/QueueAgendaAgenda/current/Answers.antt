use Rattle.std.proofs.Common.{◌<◌, List, ap, length, sym, ◌∙◌, arith}
use Rattle.std.specs.Prelude.{slice_get}
use Rattle.vital_logic.specs.declared.level.Level.{Level}
use Rattle.vital_agenda.specs.Driver.{currents}
use Rattle.vital_agenda.specs.Agendas.{Content}
use Rattle.vital_agenda.proofs.Contents.{length-drivers}
use Rattle.vital_agenda.proofs.FirstDue.{currents_are, got_there}
use Rattle.vital_agenda.proofs.queue_agenda.QueueAgendaAgenda.current.Goals as goal

pub index-requires : goal.index-requires
index-requires c =
    let drivers = ap (λ (s : Content). length s.drivers) c.self.view_is in
    omega (arith, c.requires, drivers, length-drivers 0 c.self.inside.current.items c.self.inside.queue.entries)

pub returns : goal.returns
returns c =
    let drivers = ap (λ (s : Content). length s.drivers) c.self.view_is in
    let there : c.args.driver < length c.self.inside.current.items = omega (arith, c.requires, drivers, length-drivers 0 c.self.inside.current.items c.self.inside.queue.entries) in
    ap (λ (s : Content). slice_get (currents s.drivers) c.args.driver) (sym c.self.view_is)
    ∙ ap (λ (xs : List Level). slice_get xs c.args.driver) (currents_are 0 c.self.inside.current.items c.self.inside.queue.entries)
    ∙ got_there c.self.inside.current.items c.args.driver c.index.result.now there c.index.ensures
