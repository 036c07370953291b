use Rattle.vital_nodes.proofs.Walking.{folded-law}
use Rattle.vital_nodes.proofs.laws.folded_upwards.Goals as goal

pub returns : goal.returns
returns g c = folded-law
