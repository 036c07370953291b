-- One more declaration beside its viewpoint.
use Rattle.std.proofs.Common.{◌≡◌, ℕ, suc, ◌+◌, ◌<◌, ◌≤◌, List, [], ◌∷◌, ◌++◌, length, drop, drop-cons, get_or, refl, sym, ◌∙◌, ap, append_assoc, arith}
use Rattle.std.specs.Prelude.{Option}
use Rattle.std.proofs.lemmas.List.{append-nil, drop_all}
use Rattle.vital_base.specs.declared.place.Place.{Place}
use Rattle.vital_nodes.specs.declared.stmt.Process.{Process}
use Rattle.vital_nodes.specs.Nodes.{Node}
use Rattle.vital_names.specs.declared.site.CellUnit.{CellUnit}
use Rattle.vital_uses.specs.Nodes.{nodes_in}
use Rattle.vital_uses.specs.Sited.{SitedNode, beside, seen_from}

-- what is left begins with this declaration, and the places that are left begin with its viewpoint
pub nodes_more : {A : Type 0} (parts : A → List Node) (unit : CellUnit) (process : Option Process) (places others : List Place) (viewpoint : Place) (ds : List A) (i : ℕ) (d : A) (before now whole : List SitedNode) → i < length ds → d ≡ get_or ds i d → places ≡ viewpoint ∷ others
    → now ≡ before ++ seen_from (record { unit = unit; process = process; viewpoint = viewpoint }) (parts d)
    → before ++ nodes_in parts (beside unit process places (drop i ds)) ≡ whole → now ++ nodes_in parts (beside unit process others (drop (i + 1) ds)) ≡ whole
nodes_more parts unit process places others viewpoint ds i d before now whole within is first put was =
    let one : suc i ≡ i + 1 = omega arith in
    let dropped : drop i ds ≡ d ∷ drop (i + 1) ds = drop-cons ds i d within ∙ ap (λ y. y ∷ drop (suc i) ds) (sym is) ∙ ap (λ n. d ∷ drop n ds) one in
    ap (λ ns. ns ++ nodes_in parts (beside unit process others (drop (i + 1) ds))) put
    ∙ append_assoc before (seen_from (record { unit = unit; process = process; viewpoint = viewpoint }) (parts d)) (nodes_in parts (beside unit process others (drop (i + 1) ds)))
    ∙ ap (λ ns. before ++ ns) (
    sym (ap (λ ps. nodes_in parts (beside unit process ps (drop i ds))) first ∙ ap (λ es. nodes_in parts (beside unit process (viewpoint ∷ others) es)) dropped))
    ∙ was

-- behind the last declaration nothing is left
beside-nil : {A : Type 0} (unit : CellUnit) (process : Option Process) (places : List Place) → beside {A = A} unit process places [] ≡ []
beside-nil unit process [] = refl
beside-nil unit process (p ∷ ps) = refl

pub nodes_end : {A : Type 0} (parts : A → List Node) (unit : CellUnit) (process : Option Process) (places : List Place) (ds : List A) (i : ℕ) (before whole : List SitedNode) → length ds ≤ i → before ++ nodes_in parts (beside unit process places (drop i ds)) ≡ whole → before ≡ whole
nodes_end parts unit process places ds i before whole past was =
    sym (append-nil before)
    ∙ sym (ap (λ ns. before ++ ns) (ap (λ es. nodes_in parts (beside unit process places es)) (drop_all i ds past) ∙ ap (nodes_in parts) (beside-nil unit process places)))
    ∙ was
