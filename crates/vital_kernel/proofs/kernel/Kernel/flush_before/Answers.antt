use Rattle.std.proofs.Common.{◌≡◌, OnOk, subst, sym}
use Rattle.vital_kernel.specs.Kernels.{Simulation}
use Rattle.vital_kernel.proofs.PartLemmas.{unmarked}
use Rattle.vital_kernel.proofs.kernel.Kernel.flush_before.Goals as goal

pub returns-clause-same : goal.returns-clause-same
returns-clause-same g c =
    subst (λ (k : Simulation). OnOk c.flush-written.result ((let it : Simulation = record k { is_given_up = c.is_err-self-inside.result } in it) ≡ c.args.self.now)) (sym c.self.view_is)
    (unmarked c.flush-written.result c.is_err-self-inside.result c.args.self.now c.is_err-self-inside.ensures.value c.requires.not_given_up)
