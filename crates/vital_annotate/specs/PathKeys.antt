-- The keys under which instances are found: a path that fits an instance has the key of its labels, and the name of an entity
-- in small letters is the key of each label that it equals.
use Rattle.std.specs.Prelude.{ℕ, if◌then◌else◌, List, [], ◌∷◌, ◌++◌, flat_map}
use Rattle.std.specs.Borrow.{Bor}
use Rattle.std.specs.HashMap.{HashMap, get_by}
use Rattle.std.specs.Option.{option_map_or}
use Rattle.std.specs.Str.{bytes_eq}
use Rattle.std.specs.declared.alloc.Global.{Global}
use Rattle.std.specs.declared.vec.Vec.{Vec}
use Rattle.std.specs.declared.hash.BuildHasherDefault.{BuildHasherDefault}
use Rattle.std.specs.declared.hash.FoldHasher.{FoldHasher}
use Rattle.vital_annotate.specs.Names.{folded}
use Rattle.vital_annotate.specs.Parts.{begins_extended, inner}

-- of a label: its text without case
abbrev pub label_key : List ℕ → List ℕ
label_key label = if begins_extended label then folded (inner label) else label

-- of labels, and of the parts of a path: one after the other, with a dot behind each
abbrev pub labels_key : List (List ℕ) → List ℕ
labels_key labels = flat_map (λ label. label_key label ++ 46 ∷ []) labels

abbrev pub path_key : List (List ℕ) → List ℕ
path_key path = flat_map (λ part. folded part ++ 46 ∷ []) path

-- The numbers that a map has under a key.
abbrev pub numbers_under : HashMap (Bor (List ℕ)) (Vec ℕ Global) (BuildHasherDefault FoldHasher) → List ℕ → List ℕ
numbers_under numbers key = option_map_or (λ group. group.items) (get_by (λ k. bytes_eq key k.now) numbers) []
