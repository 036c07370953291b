use Rattle.vital_nodes.proofs.Walking.{nodes-law}
use Rattle.vital_nodes.proofs.laws.walked_in_preorder.Goals as goal

pub returns : goal.returns
returns c = nodes-law
