use Rattle.vital_instances.proofs.JudgeLemmas.{judge_by, judges}
use Rattle.vital_instances.proofs.preorder.instances.Goals as goal

pub returns : goal.returns
returns c =
    let one = c.one_first_breach.ensures in
    (judge_by one, judges one, c.instances_judged.ensures (judge_by one) (judges one))
