use Rattle.std.proofs.Common.{ℕ, IfOk, ap, subst}
use Rattle.vital_machine.specs.Fits.{FitsStore}
use Rattle.vital_kernel.proofs.program.CellProgram.first_store.Goals as goal

pub returns-clause-fits : goal.returns-clause-fits
returns-clause-fits c =
    subst (λ program. IfOk c.new.result (λ store. (now : ℕ) → FitsStore program now store)) (ap (λ p. p.program) c.self.view_is) c.new.ensures.fits
