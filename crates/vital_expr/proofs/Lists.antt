-- One turn of a loop over expressions, a type of each of which is asked.
use Rattle.std.proofs.Common.{◌≡◌, ℕ, ◌+◌, ◌<◌, List, [], ◌∷◌, ◌++◌, length, take, map, get_or, Option, Some, None, refl, sym, ◌∙◌, ap, append_assoc}
use Rattle.std.proofs.lemmas.List.{append-nil, map-append}
use Rattle.vital_base.specs.declared.place.Place.{Place}
use Rattle.vital_nodes.proofs.Lists.{map-take}
use Rattle.vital_expr.specs.Outcomes.{Outcome, all_typed, both_by, put_first, with_tree}

-- A tree before others, and one behind them.
around : {A : Type 0} (a : Option A) (b : Option (List A)) (c : Option A) (ps qs : List Place) → (both_by put_first a (with_tree b c) ps).tree ≡ with_tree (both_by put_first a b qs).tree c
around None b None ps qs = refl
around None b (Some t) ps qs = refl
around (Some t) None c ps qs = refl
around (Some t) (Some ts) None ps qs = refl
around (Some t) (Some ts) (Some u) ps qs = refl

-- What is broken in a list is what is broken in its elements.
put-places : {A : Type 0} (a : Option A) (b : Option (List A)) (ps : List Place) → (both_by put_first a b ps).places ≡ ps
put-places None b ps = refl
put-places (Some t) None ps = refl
put-places (Some t) (Some ts) ps = append-nil ps

only-tree : {A : Type 0} (a : Option A) (ps : List Place) → (both_by put_first a (Some []) ps).tree ≡ with_tree (Some []) a
only-tree None ps = refl
only-tree (Some t) ps = refl

tree-behind : {A : Type 0} (os : List (Outcome A)) (o : Outcome A) → (all_typed (os ++ o ∷ [])).tree ≡ with_tree (all_typed os).tree o.tree
tree-behind [] o = only-tree o.tree (o.places ++ [])
tree-behind (q ∷ os) o =
    ap (λ b. (both_by put_first q.tree b (q.places ++ (all_typed (os ++ o ∷ [])).places)).tree) (tree-behind os o)
    ∙ around q.tree (all_typed os).tree o.tree (q.places ++ (all_typed (os ++ o ∷ [])).places) (q.places ++ (all_typed os).places)

places-behind : {A : Type 0} (os : List (Outcome A)) (o : Outcome A) → (all_typed (os ++ o ∷ [])).places ≡ (all_typed os).places ++ o.places
places-behind [] o = put-places o.tree (Some []) (o.places ++ []) ∙ append-nil o.places
places-behind (q ∷ os) o =
    put-places q.tree (all_typed (os ++ o ∷ [])).tree (q.places ++ (all_typed (os ++ o ∷ [])).places)
    ∙ ap (λ ps. q.places ++ ps) (places-behind os o)
    ∙ sym (append_assoc q.places (all_typed os).places o.places)
    ∙ ap (λ ps. ps ++ o.places) (sym (put-places q.tree (all_typed os).tree (q.places ++ (all_typed os).places)))

-- One element more.
outcomes-more : {A R B : Type 0} (f : R → Outcome B) (g : A → R) (xs : List A) (i : ℕ) (x : A) → i < length xs → x ≡ get_or xs i x → map f (map g (take (i + 1) xs)) ≡ map f (map g (take i xs)) ++ f (g x) ∷ []
outcomes-more f g xs i x within is = ap (map f) (map-take g xs i x within is) ∙ map-append f (map g (take i xs)) (g x ∷ [])

-- The trees of the expressions so far, and of one more; and the places.
pub tree-more : {A R B : Type 0} (f : R → Outcome B) (g : A → R) (xs : List A) (i : ℕ) (x : A) (before now : Option (List B)) (tree : Option B) → i < length xs → x ≡ get_or xs i x → before ≡ (all_typed (map f (map g (take i xs)))).tree → tree ≡ (f (g x)).tree → now ≡ with_tree before tree → now ≡ (all_typed (map f (map g (take (i + 1) xs)))).tree
tree-more f g xs i x before now tree within is so-far given put =
    put
    ∙ ap (λ b. with_tree b tree) so-far
    ∙ ap (λ t. with_tree (all_typed (map f (map g (take i xs)))).tree t) given
    ∙ sym (tree-behind (map f (map g (take i xs))) (f (g x)))
    ∙ ap (λ os. (all_typed os).tree) (sym (outcomes-more f g xs i x within is))

pub places-more : {A R B : Type 0} (f : R → Outcome B) (g : A → R) (xs : List A) (i : ℕ) (x : A) (first before now : List Place) → i < length xs → x ≡ get_or xs i x → before ≡ first ++ (all_typed (map f (map g (take i xs)))).places → now ≡ before ++ (f (g x)).places → now ≡ first ++ (all_typed (map f (map g (take (i + 1) xs)))).places
places-more f g xs i x first before now within is so-far put =
    put
    ∙ ap (λ ps. ps ++ (f (g x)).places) so-far
    ∙ append_assoc first (all_typed (map f (map g (take i xs)))).places (f (g x)).places
    ∙ ap (λ ps. first ++ ps) (sym (places-behind (map f (map g (take i xs))) (f (g x))) ∙ ap (λ os. (all_typed os).places) (sym (outcomes-more f g xs i x within is)))
