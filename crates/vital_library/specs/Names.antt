-- Names in sets of the standard library, which hold them borrowed.
use Rattle.std.specs.Prelude.{ℕ, Bool, ◌&&◌, not, filter, List}
use Rattle.std.specs.List.{list_any}
use Rattle.std.specs.Str.{bytes_eq}
use Rattle.std.specs.Borrow.{Bor}
use Rattle.std.specs.HashSet.{HashSet}
use Rattle.std.specs.declared.hash.BuildHasherDefault.{BuildHasherDefault}
use Rattle.std.specs.declared.hash.FoldHasher.{FoldHasher}
use Rattle.vital_nodes.specs.declared.unit.Arch.{Arch}
use Rattle.vital_nodes.specs.declared.unit.Unit.{Unit as Unit'}
use Rattle.vital_nodes.specs.declared.unit.Unit.TheVariants as unit
use Rattle.vital_nodes.specs.Places.{identifier_of_unit}
use Rattle.vital_library.specs.declared.names.DeclaredNames.{DeclaredNames}
use Rattle.vital_library.specs.Units.{archs_among}

-- A set has a name.
abbrev pub has_name : HashSet (Bor (List ℕ)) (BuildHasherDefault FoldHasher) → List ℕ → Bool
has_name names name = list_any (λ key. bytes_eq name key.now) names.keys

-- A set has the name of an entity with that of an architecture.
abbrev pub has_names : HashSet (Bor (List ℕ) × Bor (List ℕ)) (BuildHasherDefault FoldHasher) → List ℕ → List ℕ → Bool
has_names names entity arch = list_any (λ key. bytes_eq entity key.0.now && bytes_eq arch key.1.now) names.keys

-- The name of a unit was declared in its space.
abbrev pub is_declared : DeclaredNames → Unit' → Bool
is_declared declared (unit.Arch a) = has_names declared.archs a.entity.name a.identifier.name
is_declared declared w = has_name declared.names (identifier_of_unit w).name

-- The architectures among units of entities whose names a set lacks.
abbrev pub without_name : HashSet (Bor (List ℕ)) (BuildHasherDefault FoldHasher) → List Unit' → List Arch
without_name names units = filter (λ arch. not (has_name names arch.entity.name)) (archs_among units)
