-- What holds of all nodes of several nodes holds of all nodes of each of these.
use Rattle.std.proofs.Common.{List, [], ◌∷◌, sym, subst}
use Rattle.std.specs.List.{AllByRecursion, flat_map}
use Rattle.vital_nodes.specs.Nodes.{Node, parts_of}
use Rattle.vital_nodes.specs.Walk.{nodes_of, nodes_of_all}
use Rattle.vital_nodes.proofs.Walking.{nodes-law}
use Rattle.vital_typed_cells.proofs.Nodes.{all-nodes, all-within}
use Rattle.vital_typed_cells.proofs.Upwards.{upwards}
use Rattle.vital_typed_cells.proofs.Found.{both-lists, each}

abbrev pub Within : (Node → Type 0) → Node → Type 0
Within P v = AllByRecursion P (nodes_of v)

abbrev IsClosed : (Node → Type 0) → Node → Type 0
IsClosed P v = Within P v → AllByRecursion (Within P) (nodes_of v)

closed-all : (P : Node → Type 0) (vs : List Node) → AllByRecursion (IsClosed P) vs → AllByRecursion (Within P) vs → AllByRecursion (Within P) (flat_map nodes_of vs)
closed-all P [] closed all = tt
closed-all P (v ∷ vs) closed all = both-lists (Within P) (nodes_of v) (flat_map nodes_of vs) (closed.0 all.0) (closed-all P vs closed.1 all.1)

closed-step : (P : Node → Type 0) (v : Node) → AllByRecursion (IsClosed P) (parts_of v) → IsClosed P v
closed-step P v closed all =
    subst (AllByRecursion (Within P)) (sym (nodes-law v)) (all, closed-all P (parts_of v) closed (all-nodes P (parts_of v) (all-within P v all).1))

closed-node : (P : Node → Type 0) (v : Node) → IsClosed P v
closed-node P v = upwards (IsClosed P) (closed-step P) v

pub closed : (P : Node → Type 0) (vs : List Node) → AllByRecursion P (nodes_of_all vs) → AllByRecursion (Within P) (nodes_of_all vs)
closed P vs all = closed-all P vs (each (IsClosed P) (closed-node P) vs) (all-nodes P vs all)
