-- What an index of given ports holds.
use Rattle.std.specs.Prelude.{◌≡◌, ℕ, List, Option, position}
use Rattle.std.specs.Borrow.{Bor}
use Rattle.std.specs.HashMap.{HashMap, get_by}
use Rattle.std.specs.Str.{bytes_eq}
use Rattle.std.specs.declared.hash.BuildHasherDefault.{BuildHasherDefault}
use Rattle.std.specs.declared.hash.FoldHasher.{FoldHasher}
use Rattle.vital_base.specs.declared.ports.PortBit.{PortBit}
use Rattle.vital_stim.specs.Stimuli.{is_named}

-- The number that a map has for a name.
abbrev pub number_in : HashMap (Bor (List ℕ)) ℕ (BuildHasherDefault FoldHasher) → List ℕ → Option ℕ
number_in numbers name = get_by (λ key. bytes_eq name key.now) numbers

-- The number of the first port of a name.
abbrev pub number_of : List PortBit → List ℕ → Option ℕ
number_of ports name = position (is_named name) ports

-- A map has the number of the first port of each name.
abbrev pub Numbers : List PortBit → HashMap (Bor (List ℕ)) ℕ (BuildHasherDefault FoldHasher) → Type 0
Numbers ports numbers = (name : List ℕ) → number_in numbers name ≡ number_of ports name
