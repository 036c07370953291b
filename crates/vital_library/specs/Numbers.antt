-- The numbers of entities by their names.
use Rattle.std.specs.Prelude.{ℕ, Bool, List, Option, position}
use Rattle.std.specs.Str.{bytes_eq}
use Rattle.std.specs.HashMap.{HashMap, get_by}
use Rattle.std.specs.declared.alloc.Global.{Global}
use Rattle.std.specs.declared.vec.Vec.{Vec}
use Rattle.std.specs.declared.hash.BuildHasherDefault.{BuildHasherDefault}
use Rattle.std.specs.declared.hash.FoldHasher.{FoldHasher}
use Rattle.vital_nodes.specs.declared.unit.Entity.{Entity}
use Rattle.vital_nodes.specs.declared.unit.Units.{Units}
use Rattle.vital_library.specs.Units.{entities}

-- An entity has a name.
abbrev pub is_named : List ℕ → Entity → Bool
is_named name entity = bytes_eq entity.identifier.name name

-- The number of the entity of a name, if there is one: the first of them, counted from 0.
abbrev pub number_named : List ℕ → List Units → Option ℕ
number_named name files = position (is_named name) (entities files)

-- The number that a map has under a name.
abbrev pub number_of : HashMap (Vec ℕ Global) ℕ (BuildHasherDefault FoldHasher) → List ℕ → Option ℕ
number_of numbers name = get_by (λ key. bytes_eq name key.items) numbers
