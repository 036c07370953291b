-- Numbers of what stands in lists, from 0.
use Rattle.std.specs.Prelude.{ℕ, Bool, List, [], ◌∷◌, filter, map, Option, Some, None}
use Rattle.std.specs.List.{enumerate_from}

-- those that pass a test, in order
abbrev pub numbers_where : {A : Type 0} → (A → Bool) → List A → List ℕ
numbers_where test xs = map (λ x. x.0) (filter (λ x. test x.1) (enumerate_from 0 xs))

-- the first of some numbers
abbrev pub first_number : List ℕ → Option ℕ
first_number [] = None
first_number (n ∷ ns) = Some n
