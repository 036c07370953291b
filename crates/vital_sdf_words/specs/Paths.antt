-- The parts of paths in an SDF file (IEEE 1497): a divider parts them, and a backslash escapes the byte behind it.
use Rattle.std.specs.Prelude.{ℕ, ◌==◌, ◌&&◌, Bool, true, false, not, List, [], ◌∷◌, map, if◌then◌else◌}
use Rattle.std.specs.List.{slice_split}

-- The bytes that a word means, each with whether it is escaped. A backslash at the very end means itself.
abbrev pub unescaped : List ℕ → List (ℕ × Bool)
unescaped [] = []
unescaped (byte ∷ []) = (byte, false) ∷ []
unescaped (byte ∷ next ∷ others) =
    if byte == 92 then (next, true) ∷ unescaped others else (byte, false) ∷ unescaped (next ∷ others)

abbrev pub is_divider : ℕ → ℕ × Bool → Bool
is_divider divider read = not read.1 && read.0 == divider

-- What stands between the dividers of a word that aren't escaped. A word without one is one part, also an empty word.
abbrev pub parts : ℕ → List ℕ → List (List ℕ)
parts divider word = map (map (λ read. read.0)) (slice_split (is_divider divider) (unescaped word))
