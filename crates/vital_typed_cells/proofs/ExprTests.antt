-- Tests that hold together.
use Rattle.std.proofs.Common.{◌≡◌, ℕ, Bool, true, false, List, [], ◌∷◌, map, refl, ap, ◌∙◌, arith}
use Rattle.std.proofs.lemmas.Bool.Decides.{nat_tests}
use Rattle.std.specs.Prelude.{◌&&◌, ◌==◌}
use Rattle.std.specs.List.{AllByRecursion, list_all}

pub both-true : (a b : Bool) → a ≡ true → b ≡ true → (a && b) ≡ true
both-true a b first second = ap (λ x. x && b) first ∙ second

pub first-true : (a b : Bool) → (a && b) ≡ true → a ≡ true
first-true true b is = refl
first-true false b is = is

pub second-true : (a b : Bool) → (a && b) ≡ true → b ≡ true
second-true true b is = is
second-true false b is = cc

pub all-true : {A : Type 0} (test : A → Bool) (xs : List A) → AllByRecursion (λ x. test x ≡ true) xs → list_all (λ b. b) (map test xs) ≡ true
all-true test [] holds = refl
all-true test (x ∷ xs) holds = both-true (test x) (list_all (λ b. b) (map test xs)) holds.0 (all-true test xs holds.1)

pub same-number : (m n : ℕ) → m ≡ n → (m == n) ≡ true
same-number m n is = grind (arith, nat_tests)

pub number-is : (m n : ℕ) → (m == n) ≡ true → m ≡ n
number-is m n is = grind (arith, nat_tests)
