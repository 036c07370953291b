-- Names of ports in order of first sight.
use Rattle.std.specs.Prelude.{ℕ, List, [], ◌∷◌, ◌++◌, length, map, if◌then◌else◌}
use Rattle.std.specs.List.{list_any}
use Rattle.std.specs.Str.{bytes_eq}
use Rattle.std.specs.declared.alloc.Global.{Global}
use Rattle.std.specs.declared.hash.FoldHasher.{FoldHasher}
use Rattle.std.specs.declared.hash.BuildHasherDefault.{BuildHasherDefault}
use Rattle.std.specs.declared.vec.Vec.{Vec}
use Rattle.indexmap.specs.IndexSet.{IndexSet}

-- The names that a set has, in order.
abbrev pub texts : IndexSet (Vec ℕ Global) (BuildHasherDefault FoldHasher) → List (List ℕ)
texts names = map (λ key. key.items) names.keys

abbrev pub names_count : IndexSet (Vec ℕ Global) (BuildHasherDefault FoldHasher) → ℕ
names_count names = length names.keys

-- The names with one more at the end, unless it is among them.
abbrev pub with_name : List (List ℕ) → List ℕ → List (List ℕ)
with_name names name = if list_any (bytes_eq name) names then names else names ++ name ∷ []
