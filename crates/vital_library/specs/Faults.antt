-- The faults of units, and the one of them that counts.
use Rattle.std.specs.Prelude.{ℕ, Bool, false, ◌&&◌, not, List, [], ◌∷◌, ◌++◌, map, filter, fold, Option, Some, None, if◌then◌else◌}
use Rattle.std.specs.List.{list_any}
use Rattle.std.specs.Str.{bytes_eq}
use Rattle.vital_base.specs.Places.{is_before}
use Rattle.vital_nodes.specs.declared.unit.Arch.{Arch}
use Rattle.vital_nodes.specs.declared.unit.Unit.{Unit as Unit'}
use Rattle.vital_nodes.specs.declared.unit.Unit.TheVariants as unit
use Rattle.vital_nodes.specs.Places.{identifier_of_unit}
use Rattle.vital_library.specs.declared.fault.Fault.{Fault}
use Rattle.vital_library.specs.declared.fault.FaultKind.TheVariants.{Duplicate, NoEntity}
use Rattle.vital_library.specs.Units.{entities_among, archs_among}

-- Two units have one name in one space of names. Entities, packages and configurations share a space; the architectures of
-- each entity have one of their own (IEEE 1076-1993, 11.1).
abbrev pub shares_name : Unit' → Unit' → Bool
shares_name (unit.Arch v) (unit.Arch w) = bytes_eq v.entity.name w.entity.name && bytes_eq v.identifier.name w.identifier.name
shares_name (unit.Arch v) w = false
shares_name v (unit.Arch w) = false
shares_name v w = bytes_eq (identifier_of_unit v).name (identifier_of_unit w).name

-- Those of the units that share a name with an earlier one, where those seen stand before them all.
abbrev pub duplicates_after : List Unit' → List Unit' → List Unit'
duplicates_after seen [] = []
duplicates_after seen (w ∷ others) =
    if list_any (λ v. shares_name v w) seen then w ∷ duplicates_after (seen ++ w ∷ []) others
    else duplicates_after (seen ++ w ∷ []) others

-- The units that share a name with an earlier one.
abbrev pub duplicates : List Unit' → List Unit'
duplicates units = duplicates_after [] units

-- One of the units is the entity of this name.
abbrev pub has_entity : List Unit' → List ℕ → Bool
has_entity units name = list_any (λ entity. bytes_eq entity.identifier.name name) (entities_among units)

-- The architectures of entities that are not there.
abbrev pub without_entity : List Unit' → List Arch
without_entity units = filter (λ arch. not (has_entity units arch.entity.name)) (archs_among units)

-- A duplicate stands at its identifier, and a missing entity where an architecture names it.
abbrev pub duplicate : Unit' → Fault
duplicate w = record { kind = Duplicate; place = (identifier_of_unit w).place }

abbrev pub no_entity : Arch → Fault
no_entity arch = record { kind = NoEntity; place = arch.entity.place }

-- All faults.
abbrev pub faults : List Unit' → List Fault
faults units = map duplicate (duplicates units) ++ map no_entity (without_entity units)

-- The one of two faults that stands before the other; at one place the first of them.
abbrev pub sooner : Option Fault → Fault → Option Fault
sooner None fault = Some fault
sooner (Some least) fault = if is_before fault.place least.place then Some fault else Some least

-- The first of the faults with the least place.
abbrev pub least_of : List Fault → Option Fault
least_of found = fold sooner None found
