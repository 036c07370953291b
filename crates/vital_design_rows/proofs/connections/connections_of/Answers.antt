use Rattle.std.proofs.Common.{refl}
use Rattle.vital_design_rows.proofs.connections.connections_of.Goals as goal

-- one association has a bit in common with no other
pub new-requires : goal.new-requires
new-requires c = ((λ port bit h. refl), tt)
