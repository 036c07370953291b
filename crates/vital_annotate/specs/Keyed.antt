-- Instances of cells by the keys of their paths and of their entities.
use Rattle.std.specs.Prelude.{◌≡◌, ℕ, false, Bool, List, slice_get}
use Rattle.std.specs.Borrow.{Bor}
use Rattle.std.specs.HashMap.{HashMap}
use Rattle.std.specs.Option.{option_map_or}
use Rattle.std.specs.Str.{bytes_eq}
use Rattle.std.specs.declared.alloc.Global.{Global}
use Rattle.std.specs.declared.vec.Vec.{Vec}
use Rattle.std.specs.declared.hash.BuildHasherDefault.{BuildHasherDefault}
use Rattle.std.specs.declared.hash.FoldHasher.{FoldHasher}
use Rattle.vital_annotate.specs.Instances.{CellInstance}
use Rattle.vital_annotate.specs.Numbers.{numbers_where}
use Rattle.vital_annotate.specs.Parts.{part_is, parts_are}
use Rattle.vital_annotate.specs.PathKeys.{label_key, labels_key, numbers_under}

-- A map has the numbers of those with each key of a path, in order.
abbrev pub HasKeys : HashMap (Bor (List ℕ)) (Vec ℕ Global) (BuildHasherDefault FoldHasher) → List CellInstance → Type 0
HasKeys numbers is = (key : List ℕ) → numbers_under numbers key ≡ numbers_where (λ i. bytes_eq (labels_key i.labels) key) is

-- A map has the numbers of those with each key of an entity, in order.
abbrev pub HasEntityKeys : HashMap (Bor (List ℕ)) (Vec ℕ Global) (BuildHasherDefault FoldHasher) → List CellInstance → Type 0
HasEntityKeys numbers is = (key : List ℕ) → numbers_under numbers key ≡ numbers_where (λ i. bytes_eq (label_key i.entity) key) is

-- A path fits the instance of a number.
abbrev pub fits_at : List CellInstance → List (List ℕ) → ℕ → Bool
fits_at is path number = option_map_or (λ i. parts_are i.labels path) (slice_get is number) false

-- The instance of a number is of an entity.
abbrev pub is_of : List CellInstance → List ℕ → ℕ → Bool
is_of is entity number = option_map_or (λ i. part_is i.entity entity) (slice_get is number) false
