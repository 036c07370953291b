-- What indexes hold.
use Rattle.std.specs.Prelude.{◌≡◌, ℕ, List}
use Rattle.std.specs.Borrow.{Bor}
use Rattle.std.specs.HashMap.{HashMap}
use Rattle.std.specs.Option.{option_map}
use Rattle.std.specs.declared.hash.BuildHasherDefault.{BuildHasherDefault}
use Rattle.std.specs.declared.hash.FoldHasher.{FoldHasher}
use Rattle.vital_names.specs.declared.declared.Declared.{Declared as Declared'}
use Rattle.vital_names.specs.declared.predeclared.Predeclared.{Predeclared}
use Rattle.vital_names.specs.Declarations.{Declared, first_named, lent}
use Rattle.vital_names.specs.FirstNames.{first_in}
use Rattle.vital_names.specs.Words.{predeclared}

-- A map has the first of each name in a list.
abbrev pub HasFirst : HashMap (Bor (List ℕ)) Declared' (BuildHasherDefault FoldHasher) → List Declared → Type 0
HasFirst names ds = (name : List ℕ) → option_map lent (first_in names name) ≡ first_named name ds

-- A map has the meaning of each predeclared word.
abbrev pub HasPredeclared : HashMap (Bor (List ℕ)) Predeclared (BuildHasherDefault FoldHasher) → Type 0
HasPredeclared names = (name : List ℕ) → first_in names name ≡ predeclared name
