-- Identifiers, level by level.
use Rattle.std.proofs.Common.{◌≡◌, ℕ, suc, ◌+◌, ◌-◌, ◌<◌, ◌≤◌, List, [], ◌++◌, refl, sym, ◌∙◌, ap, append-nil, append_assoc, arith}
use Rattle.std.specs.List.{flat_map}
use Rattle.vital_nodes.specs.declared.identifier.Identifier.{Identifier}
use Rattle.vital_nodes.specs.Nodes.{Node}
use Rattle.vital_nodes.specs.Walk.{nodes_of_all}
use Rattle.vital_associations.specs.Identifiers.{identifiers_of_node, identifiers_to, formal_parts}

no-level : (vs : List Node) → identifiers_to 0 vs ≡ []
unfolding identifiers_to
no-level vs = refl

first-level : (levels : ℕ) (vs : List Node) → identifiers_to (suc levels) vs ≡ flat_map identifiers_of_node (nodes_of_all vs) ++ identifiers_to levels (flat_map formal_parts (nodes_of_all vs))
unfolding identifiers_to
first-level levels vs = refl

-- the first of the levels that are left, and then the others
level-more : (levels k : ℕ) (vs : List Node) → k < levels → identifiers_to (levels - k) vs ≡ flat_map identifiers_of_node (nodes_of_all vs) ++ identifiers_to (levels - (k + 1)) (flat_map formal_parts (nodes_of_all vs))
level-more levels k vs within =
    let left : levels - k ≡ suc (levels - (k + 1)) = omega (arith, within) in
    ap (λ n. identifiers_to n vs) left ∙ first-level (levels - (k + 1)) vs

-- one level more is found
pub level-found : (levels k : ℕ) (vs next : List Node) (found new all : List Identifier) → k < levels → new ≡ found ++ flat_map identifiers_of_node (nodes_of_all vs) → next ≡ flat_map formal_parts (nodes_of_all vs) → found ++ identifiers_to (levels - k) vs ≡ all → new ++ identifiers_to (levels - (k + 1)) next ≡ all
level-found levels k vs next found new all within put is before =
    let here = flat_map identifiers_of_node (nodes_of_all vs) in
    let others = identifiers_to (levels - (k + 1)) in
    ap (λ is. is ++ others next) put
    ∙ append_assoc found here (others next)
    ∙ ap (λ us. found ++ (here ++ others us)) is
    ∙ ap (λ is. found ++ is) (sym (level-more levels k vs within))
    ∙ before

-- and then none is left
pub levels-found : (levels k : ℕ) (vs : List Node) (found all : List Identifier) → levels ≤ k → found ++ identifiers_to (levels - k) vs ≡ all → found ≡ all
levels-found levels k vs found all past before =
    let none_left : levels - k ≡ 0 = omega (arith, past) in
    sym (append-nil found) ∙ ap (λ is. found ++ is) (sym (ap (λ n. identifiers_to n vs) none_left ∙ no-level vs)) ∙ before
