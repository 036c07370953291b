-- The names of what is declared.
use Rattle.std.specs.Prelude.{ℕ, List, map}
use Rattle.vital_names.specs.Declarations.{Declared, identifier_of}

abbrev pub name_of : Declared → List ℕ
name_of d = (identifier_of d).name

abbrev pub names_of : List Declared → List (List ℕ)
names_of ds = map name_of ds
