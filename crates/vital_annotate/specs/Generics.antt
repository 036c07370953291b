-- The timing generics of a cell by their names.
use Rattle.std.specs.Prelude.{ℕ, List, [], ◌∷◌, Option, Some, None}
use Rattle.std.specs.Str.{bytes_eq}
use Rattle.vital_annotate.specs.Numbers.{first_number, numbers_where}
use Rattle.vital_objects.specs.declared.generic.TimingGeneric.{TimingGeneric}

-- The number of the timing generic of a name, if there is one.
abbrev pub number_named : List TimingGeneric → List ℕ → Option ℕ
number_named generics name = first_number (numbers_where (λ g. bytes_eq g.name name) generics)

-- That of the first of some names that the cell has.
abbrev pub or_else : Option ℕ → Option ℕ → Option ℕ
or_else (Some n) other = Some n
or_else None other = other

abbrev pub generic_of : List TimingGeneric → List (List ℕ) → Option ℕ
generic_of generics [] = None
generic_of generics (name ∷ names) = or_else (number_named generics name) (generic_of generics names)
