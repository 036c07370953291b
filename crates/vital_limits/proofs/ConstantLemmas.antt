-- Tests of what is seen of the nodes of a constant.
use Rattle.std.proofs.Common.{◌≡◌, List, [], ◌∷◌, map, refl, ap}
use Rattle.std.specs.Prelude.{Bool, ◌||◌}
use Rattle.std.specs.List.{list_any}

pub any-map : {A B : Type 0} (test : B → Bool) (see : A → B) (xs : List A) → list_any (λ x. test (see x)) xs ≡ list_any test (map see xs)
any-map test see [] = refl
any-map test see (x ∷ xs) = ap (λ b. test (see x) || b) (any-map test see xs)
