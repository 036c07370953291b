-- The names of instances and signals, as they are printed.
use Rattle.std.specs.Prelude.{ℕ, List, [], ◌∷◌, ◌++◌, codes, Option, Some, None}
use Rattle.std.specs.List.{flat_map}
use Rattle.vital_naturals.specs.Numerals.{numeral}

-- A bit: its identifier, and in a vector its index in parentheses behind it.
abbrev pub bit_name : List ℕ → Option ℕ → List ℕ
bit_name identifier None = identifier
bit_name identifier (Some index) = (identifier ++ codes "(") ++ (numeral index ++ codes ")")

-- Labels, a dot behind each.
abbrev pub with_dots : List (List ℕ) → List ℕ
with_dots labels = flat_map (λ label. label ++ codes ".") labels

-- Labels, a dot between each two.
abbrev pub dotted : List ℕ → List (List ℕ) → List ℕ
dotted label [] = label
dotted label (other ∷ others) = (label ++ codes ".") ++ dotted other others

-- The path of an instance: the labels on it, from the top on. That of the top, which has none, is a dash.
abbrev pub path_name : List (List ℕ) → List ℕ
path_name [] = codes "-"
path_name (label ∷ others) = dotted label others

-- A signal: the labels on the path of its instance, a dot behind each, and then its bit.
abbrev pub signal_name : List (List ℕ) → List ℕ → Option ℕ → List ℕ
signal_name labels identifier index = with_dots labels ++ bit_name identifier index
