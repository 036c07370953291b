-- The modes that a port may have, by how it is used.
use Rattle.std.specs.Prelude.{Bool}
use Rattle.vital_nodes.specs.declared.decl.Mode.{Mode}
use Rattle.vital_level0.specs.declared.direction.Direction.{Direction}
use Rattle.vital_level0.specs.declared.direction.Direction.TheVariants as direction
use Rattle.vital_level0.specs.Prefixes.{is_in, is_out}

abbrev pub fits : Direction → Mode → Bool
fits direction.In = is_in
fits direction.Out = is_out
