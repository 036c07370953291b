-- One turn of a loop over what is read one after another.
use Rattle.std.proofs.Common.{◌≡◌, ℕ, ◌+◌, ◌<◌, List, ◌++◌, length, take, map, get_or, Option, sym, ◌∙◌, ap}
use Rattle.std.proofs.lemmas.List.{map-id}
use Rattle.vital_base.specs.declared.place.Place.{Place}
use Rattle.vital_expr.specs.Outcomes.{Outcome, all_typed, with_tree}
use Rattle.vital_expr.proofs.Lists.{places-more, tree-more}

pub tree_next : {A B : Type 0} (g : A → Outcome B) (xs : List A) (i : ℕ) (x : A) (before now : Option (List B)) (tree : Option B) → i < length xs → x ≡ get_or xs i x → before ≡ (all_typed (map g (take i xs))).tree → tree ≡ (g x).tree → now ≡ with_tree before tree → now ≡ (all_typed (map g (take (i + 1) xs))).tree
tree_next {A} {B} g xs i x before now tree within is so-far given put =
    tree-more (λ (o : Outcome B). o) g xs i x before now tree within is (so-far ∙ ap (λ os. (all_typed os).tree) (sym (map-id (map g (take i xs))))) given put
    ∙ ap (λ os. (all_typed os).tree) (map-id (map g (take (i + 1) xs)))

pub places_next : {A B : Type 0} (g : A → Outcome B) (xs : List A) (i : ℕ) (x : A) (first before now : List Place) → i < length xs → x ≡ get_or xs i x → before ≡ first ++ (all_typed (map g (take i xs))).places → now ≡ before ++ (g x).places → now ≡ first ++ (all_typed (map g (take (i + 1) xs))).places
places_next {A} {B} g xs i x first before now within is so-far put =
    places-more (λ (o : Outcome B). o) g xs i x first before now within is (so-far ∙ ap (λ os. first ++ (all_typed os).places) (sym (map-id (map g (take i xs))))) put
    ∙ ap (λ os. first ++ (all_typed os).places) (map-id (map g (take (i + 1) xs)))
