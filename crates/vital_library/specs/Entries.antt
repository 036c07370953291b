-- What a library keeps of its entities, beside its files.
use Rattle.std.specs.Prelude.{ℕ, List, [], map, filter, Bool, false}
use Rattle.std.specs.List.{filter_map}
use Rattle.std.specs.Option.{option_map, option_map_or}
use Rattle.std.specs.Str.{bytes_eq}
use Rattle.std.specs.Borrow.{Bor}
use Rattle.std.specs.HashMap.{HashMap, get_by}
use Rattle.std.specs.declared.alloc.Global.{Global}
use Rattle.std.specs.declared.vec.Vec.{Vec}
use Rattle.std.specs.declared.hash.BuildHasherDefault.{BuildHasherDefault}
use Rattle.std.specs.declared.hash.FoldHasher.{FoldHasher}
use Rattle.vital_nodes.specs.declared.unit.Entity.{Entity}
use Rattle.vital_nodes.specs.declared.unit.Unit.{Unit as Unit'}
use Rattle.vital_nodes.specs.declared.unit.Unit.TheVariants as unit
use Rattle.vital_library.specs.declared.entry.Entry.{Entry}
use Rattle.vital_library.specs.declared.position.Position.{Position}
use Rattle.vital_library.specs.Units.{as_entity}

-- A unit is an architecture of the entity of a name.
abbrev pub is_arch_of : List ℕ → Unit' → Bool
is_arch_of name (unit.Arch a) = bytes_eq a.entity.name name
is_arch_of name (unit.Entity e) = false
is_arch_of name (unit.Pack p) = false
is_arch_of name (unit.Config c) = false

-- Where the architectures of the entity of a name stand.
abbrev pub positions_of_archs : List ℕ → List (Position × Unit') → List Position
positions_of_archs name units = map (λ u. u.0) (filter (λ u. is_arch_of name u.1) units)

-- The positions that a map has under a name.
abbrev pub group_of : HashMap (Bor (List ℕ)) (Vec Position Global) (BuildHasherDefault FoldHasher) → List ℕ → List Position
group_of groups name = option_map_or (λ group. group.items) (get_by (λ key. bytes_eq name key.now) groups) []

-- The entities among units, each with its position.
abbrev pub entities_with_positions : List (Position × Unit') → List (Position × Entity)
entities_with_positions units = filter_map (λ u. option_map (λ entity. (u.0, entity)) (as_entity u.1)) units

-- An entry as the position of an entity and those of its architectures.
abbrev pub shown : Entry → Position × List Position
shown entry = (entry.position, entry.archs.items)

-- The position of an entity with those under its name.
abbrev pub with_group : HashMap (Bor (List ℕ)) (Vec Position Global) (BuildHasherDefault FoldHasher) → Position × Entity → Position × List Position
with_group groups u = (u.0, group_of groups u.1.identifier.name)

-- What is kept of units.
abbrev pub entries_among : List (Position × Unit') → List (Position × List Position)
entries_among units = map (λ u. (u.0, positions_of_archs u.1.identifier.name units)) (entities_with_positions units)
