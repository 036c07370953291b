-- What the nodes of a node are, itself and then those of its parts; and what its value is, made of it and of those of its parts.
use Rattle.std.proofs.Common.{◌≡◌, ℕ, zero, suc, ◌≤◌, List, [], ◌∷◌, ◌++◌, map, refl, ap, ◌∙◌, arith}
use Rattle.std.specs.List.{flat_map}
use Rattle.vital_nodes.specs.Counts.{count_of}
use Rattle.vital_nodes.specs.Nodes.{Node, parts_of}
use Rattle.vital_nodes.specs.Walk.{folded, folded_to, nodes_of, nodes_to}
use Rattle.vital_nodes.proofs.Counting.{node-count, weight}

-- No more depth is of use than there are nodes.
abbrev IsEnough : ℕ → Type 0
IsEnough n = (m : ℕ) (v : Node) → count_of v ≤ n → count_of v ≤ m → nodes_to n v ≡ nodes_to m v

flat-enough : (n m : ℕ) → IsEnough n → (vs : List Node) → weight vs ≤ n → weight vs ≤ m → flat_map (nodes_to n) vs ≡ flat_map (nodes_to m) vs
flat-enough n m enough [] h k = refl
flat-enough n m enough (v ∷ vs) h k =
    ap (λ us. us ++ flat_map (nodes_to n) vs) (enough m v (omega (arith, h)) (omega (arith, k)))
    ∙ ap (λ us. nodes_to m v ++ us) (flat-enough n m enough vs (omega (arith, h)) (omega (arith, k)))

to-enough : (n : ℕ) → IsEnough n
to-enough zero m v h k = absurd (omega (arith, node-count v, h))
to-enough (suc n) zero v h k = absurd (omega (arith, node-count v, k))
to-enough (suc n) (suc m) v h k =
    ap (λ us. v ∷ us) (flat-enough n m (to-enough n) (parts_of v) (omega (arith, node-count v, h)) (omega (arith, node-count v, k)))

each-enough : (n : ℕ) (vs : List Node) → weight vs ≤ n → flat_map (nodes_to n) vs ≡ flat_map (λ v. nodes_to (count_of v) v) vs
each-enough n [] h = refl
each-enough n (v ∷ vs) h =
    ap (λ us. us ++ flat_map (nodes_to n) vs) (to-enough n (count_of v) v (omega (arith, h)) (omega arith))
    ∙ ap (λ us. nodes_to (count_of v) v ++ us) (each-enough n vs (omega (arith, h)))

pub nodes-law : (v : Node) → nodes_of v ≡ v ∷ flat_map nodes_of (parts_of v)
unfolding nodes_of
nodes-law v =
    to-enough (count_of v) (suc (weight (parts_of v))) v (omega arith) (omega (arith, node-count v))
    ∙ ap (λ us. v ∷ us) (each-enough (weight (parts_of v)) (parts_of v) (omega arith))

-- The same of values.
abbrev IsEnoughFor : {R : Type 0} → (Node → List R → R) → ℕ → Type 0
IsEnoughFor step n = (m : ℕ) (v : Node) → count_of v ≤ n → count_of v ≤ m → folded_to step n v ≡ folded_to step m v

values-enough : {R : Type 0} (step : Node → List R → R) (n m : ℕ) → IsEnoughFor step n → (vs : List Node) → weight vs ≤ n → weight vs ≤ m → map (folded_to step n) vs ≡ map (folded_to step m) vs
values-enough step n m enough [] h k = refl
values-enough step n m enough (v ∷ vs) h k =
    ap (λ r. r ∷ map (folded_to step n) vs) (enough m v (omega (arith, h)) (omega (arith, k)))
    ∙ ap (λ rs. folded_to step m v ∷ rs) (values-enough step n m enough vs (omega (arith, h)) (omega (arith, k)))

value-enough : {R : Type 0} (step : Node → List R → R) (n : ℕ) → IsEnoughFor step n
value-enough step zero m v h k = absurd (omega (arith, node-count v, h))
value-enough step (suc n) zero v h k = absurd (omega (arith, node-count v, k))
value-enough step (suc n) (suc m) v h k =
    ap (step v) (values-enough step n m (value-enough step n) (parts_of v) (omega (arith, node-count v, h)) (omega (arith, node-count v, k)))

each-value : {R : Type 0} (step : Node → List R → R) (n : ℕ) (vs : List Node) → weight vs ≤ n → map (folded_to step n) vs ≡ map (λ v. folded_to step (count_of v) v) vs
each-value step n [] h = refl
each-value step n (v ∷ vs) h =
    ap (λ r. r ∷ map (folded_to step n) vs) (value-enough step n (count_of v) v (omega (arith, h)) (omega arith))
    ∙ ap (λ rs. folded_to step (count_of v) v ∷ rs) (each-value step n vs (omega (arith, h)))

pub folded-law : {R : Type 0} (step : Node → List R → R) (v : Node) → folded step v ≡ step v (map (folded step) (parts_of v))
unfolding folded
folded-law step v =
    value-enough step (count_of v) (suc (weight (parts_of v))) v (omega arith) (omega (arith, node-count v))
    ∙ ap (step v) (each-value step (weight (parts_of v)) (parts_of v) (omega arith))
