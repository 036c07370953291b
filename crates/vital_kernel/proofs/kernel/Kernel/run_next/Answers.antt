use Rattle.std.proofs.Common.{◌≡◌, OnOk, subst, sym}
use Rattle.vital_kernel.specs.Kernels.{Simulation, after_next}
use Rattle.vital_kernel.proofs.PartLemmas.{marked}
use Rattle.vital_kernel.proofs.kernel.Kernel.run_next.Goals as goal

pub returns-clause-after : goal.returns-clause-after
returns-clause-after g c =
    subst (λ (k : Simulation). OnOk c.write_part-outcome.result ((let it : Simulation = record k { is_given_up = c.is_err-self-inside.result } in it) ≡ after_next c.args.self.now)) (sym c.self.view_is)
    (marked c.write_part-outcome.result c.is_err-self-inside.result c.args.self.now c.write_part-outcome.new.self c.is_err-self-inside.ensures.value c.requires.not_given_up c.write_part-outcome.ensures.after)
