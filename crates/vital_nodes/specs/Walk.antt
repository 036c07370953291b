-- The nodes of units in preorder: a node stands before what it holds, and what it holds in the order of the text. So the places
-- of the nodes rise. And what is made of nodes from their parts upwards.
use Rattle.std.specs.Prelude.{ℕ, zero, suc, List, [], ◌∷◌, map}
use Rattle.std.specs.List.{flat_map}
use Rattle.vital_nodes.specs.declared.unit.Unit.{Unit as Unit'}
use Rattle.vital_nodes.specs.Counts.{count_of}
use Rattle.vital_nodes.specs.Nodes.{Node, parts_of, parts_of_unit}

-- A node and what it holds, down to a depth.
abbrev pub nodes_to : ℕ → Node → List Node
nodes_to zero v = []
nodes_to (suc depth) v = v ∷ flat_map (nodes_to depth) (parts_of v)

-- A node and all that it holds: no node is nested deeper than there are nodes. What defines it is its law: these are the node,
-- and then the same of each of its parts.
unfoldable pub nodes_of : Node → List Node
nodes_of v = nodes_to (count_of v) v

-- The same of nodes one after another.
abbrev pub nodes_of_all : List Node → List Node
nodes_of_all vs = flat_map nodes_of vs

-- All nodes of a unit.
abbrev pub nodes_of_unit : Unit' → List Node
nodes_of_unit u = nodes_of_all (parts_of_unit u)

-- What a step makes of a node and of what it made of each of its parts, in their order, down to a depth.
abbrev pub folded_to : {R : Type 0} → (Node → List R → R) → ℕ → Node → R
folded_to step zero v = step v []
folded_to step (suc depth) v = step v (map (folded_to step depth) (parts_of v))

-- The value of a node, made of it and of the values of its parts. What defines it is its law: it is what the step makes of the
-- node and of the same of each of its parts.
unfoldable pub folded : {R : Type 0} → (Node → List R → R) → Node → R
folded step v = folded_to step (count_of v) v
