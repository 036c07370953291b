-- The numbers of generics by their names.
use Rattle.std.specs.Prelude.{◌≡◌, ℕ, List}
use Rattle.std.specs.Borrow.{Bor}
use Rattle.std.specs.HashMap.{HashMap}
use Rattle.std.specs.declared.hash.BuildHasherDefault.{BuildHasherDefault}
use Rattle.std.specs.declared.hash.FoldHasher.{FoldHasher}
use Rattle.vital_annotate.specs.Generics.{number_named}
use Rattle.vital_names.specs.FirstNames.{first_in}
use Rattle.vital_objects.specs.declared.generic.TimingGeneric.{TimingGeneric}

-- A map has the number of the first generic of each name.
abbrev pub HasNumbers : HashMap (Bor (List ℕ)) ℕ (BuildHasherDefault FoldHasher) → List TimingGeneric → Type 0
HasNumbers numbers generics = (name : List ℕ) → first_in numbers name ≡ number_named generics name
