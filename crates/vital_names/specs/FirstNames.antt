-- Maps of the standard library whose keys are names, borrowed.
use Rattle.std.specs.Prelude.{ℕ, List, Option}
use Rattle.std.specs.Borrow.{Bor}
use Rattle.std.specs.HashMap.{HashMap, get_by}
use Rattle.std.specs.Str.{bytes_eq}
use Rattle.std.specs.declared.hash.BuildHasherDefault.{BuildHasherDefault}
use Rattle.std.specs.declared.hash.FoldHasher.{FoldHasher}

-- What a map has under a name.
abbrev pub first_in : {V : Type 0} → HashMap (Bor (List ℕ)) V (BuildHasherDefault FoldHasher) → List ℕ → Option V
first_in names name = get_by (λ key. bytes_eq name key.now) names
