-- What holds of each node that it holds of the parts of holds of all nodes.
use Rattle.std.proofs.Common.{ℕ, zero, suc, ◌≤◌, List, [], ◌∷◌, arith}
use Rattle.std.specs.List.{AllByRecursion}
use Rattle.vital_nodes.specs.Counts.{count_of}
use Rattle.vital_nodes.specs.Nodes.{Node, parts_of}
use Rattle.vital_nodes.proofs.Counting.{node-count, weight}

abbrev HoldsTo : (Node → Type 0) → ℕ → Type 0
HoldsTo P n = (v : Node) → count_of v ≤ n → P v

all-to : (P : Node → Type 0) (n : ℕ) → HoldsTo P n → (vs : List Node) → weight vs ≤ n → AllByRecursion P vs
all-to P n holds [] h = tt
all-to P n holds (v ∷ vs) h = (holds v (omega (arith, h)), all-to P n holds vs (omega (arith, h)))

holds-to : (P : Node → Type 0) → ((v : Node) → AllByRecursion P (parts_of v) → P v) → (n : ℕ) → HoldsTo P n
holds-to P step zero v h = absurd (omega (arith, node-count v, h))
holds-to P step (suc n) v h = step v (all-to P n (holds-to P step n) (parts_of v) (omega (arith, node-count v, h)))

pub upwards : (P : Node → Type 0) → ((v : Node) → AllByRecursion P (parts_of v) → P v) → (v : Node) → P v
upwards P step v = holds-to P step (count_of v) v (omega arith)
