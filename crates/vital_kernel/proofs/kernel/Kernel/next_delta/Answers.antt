use Rattle.std.proofs.Common.{ap, ◌∙◌, arith}
use Rattle.vital_kernel.specs.Kernels.{Simulation}
use Rattle.vital_kernel.specs.Runs.{delta_at}
use Rattle.vital_kernel.proofs.PartLemmas.{delta_anew, delta_more}
use Rattle.vital_kernel.proofs.kernel.Kernel.next_delta.Goals as goal

pub overflow_add-result : goal.overflow_add-result
overflow_add-result g c = omega (arith, c.self.invariant.delta)

pub returns-then-time-now : goal.returns-then-time-now
returns-then-time-now g c =
    delta_more c.args.time (g.A.Agenda.content c.self.inside.agenda).now c.self.inside.delta (c.if-time-now.true ∙ c.now.ensures.now)
    ∙ ap (λ (k : Simulation). delta_at c.args.time k.state.now k.state.delta) c.self.view_is

pub returns-else-time-now : goal.returns-else-time-now
returns-else-time-now g c =
    delta_anew c.args.time (g.A.Agenda.content c.self.inside.agenda).now c.now.result c.self.inside.delta c.if-time-now.false c.now.ensures.now
    ∙ ap (λ (k : Simulation). delta_at c.args.time k.state.now k.state.delta) c.self.view_is
