-- The first of the bytes that a word means.
use Rattle.std.specs.Prelude.{ℕ, Bool, List, [], ◌∷◌, Option, Some, None}
use Rattle.vital_sdf_words.specs.Paths.{unescaped}
use Rattle.vital_sdf_words.specs.declared.paths.Unit.{Unit as Unit'}

-- A byte that a word means, and those behind it.
abbrev pub unit_and_others : Unit' → (ℕ × Bool) × List (ℕ × Bool)
unit_and_others unit = ((unit.byte, unit.is_escaped), unescaped unit.others.now)

-- The first of a list, and the others.
abbrev pub first_and_others : {X : Type 0} → List X → Option (X × List X)
first_and_others [] = None
first_and_others (x ∷ xs) = Some (x, xs)
