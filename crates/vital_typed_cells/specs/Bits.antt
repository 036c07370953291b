-- The bits of a cell by their names.
use Rattle.std.specs.Prelude.{◌≡◌, ℕ, List, ◌++◌, map, position, Option}
use Rattle.std.specs.Borrow.{Bor}
use Rattle.std.specs.HashMap.{HashMap}
use Rattle.std.specs.Str.{bytes_eq}
use Rattle.std.specs.declared.hash.BuildHasherDefault.{BuildHasherDefault}
use Rattle.std.specs.declared.hash.FoldHasher.{FoldHasher}
use Rattle.vital_names.specs.FirstNames.{first_in}
use Rattle.vital_objects.specs.declared.port.Port.{Port}
use Rattle.vital_objects.specs.declared.signal.Signal.{Signal}

-- The names of the bits of ports and then of signals.
abbrev pub names_of : List Port → List Signal → List (List ℕ)
names_of ports signals = map (λ p. p.name) ports ++ map (λ s. s.name) signals

-- The number of the first of a name, from 0.
abbrev pub number_of : List (List ℕ) → List ℕ → Option ℕ
number_of names name = position (λ n. bytes_eq n name) names

-- A map has the number of the first of each name.
abbrev pub HasNumbers : HashMap (Bor (List ℕ)) ℕ (BuildHasherDefault FoldHasher) → List (List ℕ) → Type 0
HasNumbers numbers names = (name : List ℕ) → first_in numbers name ≡ number_of names name
