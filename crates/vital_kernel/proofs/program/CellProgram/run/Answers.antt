use Rattle.std.proofs.Common.{ℕ, ap, subst}
use Rattle.std.specs.Prelude.{All}
use Rattle.vital_machine.specs.Fits.{EffectIsOfCell, StepsAreOfCell}
use Rattle.vital_kernel.proofs.program.CellProgram.run.Goals as goal

pub returns-clause-numbers : goal.returns-clause-numbers
returns-clause-numbers c =
    subst
    (λ program. (drivers : ℕ) → All (λ p. StepsAreOfCell drivers program.bits p.steps) program.processes → All (EffectIsOfCell drivers program.bits) c.activate.new.effects.listed)
    (ap (λ p. p.program) c.self.view_is)
    c.activate.ensures.numbers
