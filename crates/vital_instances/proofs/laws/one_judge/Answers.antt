use Rattle.vital_instances.proofs.JudgeLemmas.{judge_by, judges, same-judge}
use Rattle.vital_instances.proofs.laws.one_judge.Goals as goal

pub returns-clause-is : goal.returns-clause-is
returns-clause-is c = (judge_by c.one_first_breach.ensures, judges c.one_first_breach.ensures)

pub returns-clause-only : goal.returns-clause-only
returns-clause-only c a b is also = same-judge c.one_first_breach.ensures a b is also
