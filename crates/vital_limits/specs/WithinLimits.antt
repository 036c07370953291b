-- The limits that nodes pass with all that they hold.
use Rattle.std.specs.Prelude.{List}
use Rattle.std.specs.List.{flat_map}
use Rattle.vital_limits.specs.declared.passed.PassedLimit.{PassedLimit}
use Rattle.vital_limits.specs.NodeLimits.{limits_of_node}
use Rattle.vital_nodes.specs.Nodes.{Node}
use Rattle.vital_nodes.specs.Walk.{nodes_of}

-- The limits of a node and of all nodes in it, in the order of the text.
unfoldable pub limits_within : Node → List PassedLimit
limits_within v = flat_map limits_of_node (nodes_of v)

-- The same of nodes one after another.
abbrev pub limits_within_all : List Node → List PassedLimit
limits_within_all vs = flat_map limits_within vs
