use Rattle.std.proofs.Common.{◌∙◌, ℕ, Option, ap}
use Rattle.vital_agenda.specs.Driver.{next_time, sooner}
use Rattle.vital_kernel.specs.Kernels.{Simulation}
use Rattle.vital_kernel.proofs.Handed.{next_seen, rise_seen}
use Rattle.vital_kernel.proofs.kernel.Kernel.next_time.Goals as goal

pub returns-clause-next : goal.returns-clause-next
returns-clause-next g c =
    let content = g.A.Agenda.content c.self.inside.agenda in
    c.sooner.ensures ∙ ap (λ (o : Option ℕ). sooner o c.first_time.result) c.next_time.ensures.next ∙ ap (sooner (next_time content.drivers)) c.first_time.ensures
    ∙ next_seen c.self.inside.network.now c.self.inside.lines.now c.self.inside.is_begun c.self.inside.delta c.self.inside.due.room c.self.inside.stimulus_drivers.items c.self.inside.left.now content
    c.self.inside.signals c.self.inside.processes c.self.inside.listeners c.args.self.now.state c.self.invariant (ap (λ (k : Simulation). k.state) c.self.view_is)

pub returns-clause-rise : goal.returns-clause-rise
returns-clause-rise g c =
    rise_seen c.self.inside.network.now c.self.inside.lines.now c.self.inside.is_begun c.self.inside.delta c.self.inside.due.room c.self.inside.stimulus_drivers.items c.self.inside.left.now (g.A.Agenda.content c.self.inside.agenda)
    c.self.inside.signals c.self.inside.processes c.self.inside.listeners c.args.self.now.state c.self.invariant (ap (λ (k : Simulation). k.state) c.self.view_is) c.next_time.ensures.valid
