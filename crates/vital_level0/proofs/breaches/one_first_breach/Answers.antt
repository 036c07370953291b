use Rattle.vital_level0.proofs.FirstBreaches.{one-first}
use Rattle.vital_level0.proofs.breaches.one_first_breach.Goals as goal

pub returns : goal.returns
returns c = one-first
