-- The units of a design, as they are made.
use Rattle.std.proofs.Common.{◌≡◌, ℕ, zero, suc, ◌+◌, ◌<◌, List, [], ◌∷◌, length, take, drop, map, min, refl, sym, ap, ◌∙◌, arith}
use Rattle.std.specs.Prelude.{true, false, IsSome, Option, Some, None, Result, Ok}
use Rattle.std.specs.List.{enumerate_from, slice_get}
use Rattle.std.specs.Option.{option_map_or}
use Rattle.std.proofs.lemmas.List.{length-map, length-take}
use Rattle.std.proofs.lemmas.Option.{slice_get_within}
use Rattle.vital_connections.specs.Objects.{Object, bits_of_all, lent, object_of_signal}
use Rattle.vital_connections.specs.Runs.{bits_of_runs}
use Rattle.vital_connections.specs.declared.object.Object.{Object as Object'}
use Rattle.vital_netlist.specs.Cells.{cell_as, tree_of}
use Rattle.vital_netlist.specs.CellDrivers.{driven_numbers}
use Rattle.vital_netlist.specs.CellObjects.{objects_of_cell}
use Rattle.vital_instances.specs.Children.{Child, children_behind, ports_of, unless_fault}
use Rattle.vital_instances.specs.Contents.{contents_at, contents_as, fault_in}
use Rattle.vital_instances.specs.Faults.{Fault}
use Rattle.vital_instances.specs.Units.{Unit as Unit', last_arch, net_unit_of, unit_at, unit_with}
use Rattle.vital_library.specs.Units.{archs_of_entity, entities, roles}
use Rattle.vital_nodes.specs.declared.unit.Arch.{Arch}
use Rattle.vital_nodes.specs.declared.unit.Entity.{Entity}
use Rattle.vital_nodes.specs.declared.unit.Role.{Role}
use Rattle.vital_nodes.specs.declared.unit.Role.TheVariants as role
use Rattle.vital_nodes.specs.declared.unit.Units.{Units}
use Rattle.vital_structure.specs.Faults.{UnitFault}
use Rattle.vital_structure.specs.Structures.{signals_of, statements_of}
use Rattle.vital_structure.specs.Structures as structures
use Rattle.vital_typed_cells.specs.declared.typed_cell.TypedCell.{TypedCell}
use Rattle.vital_netlist.specs.declared.unit.Unit.{Unit}
use Rattle.vital_netlist.specs.Netlists.{IsUnit}
use Rattle.vital_netlist.specs.DesignObjects.{driven_as, driven_at, objects_as, objects_at, objects_in, port_count, ports_at}
use Rattle.vital_netlist.proofs.DesignBitLemmas.{rest_min, take_min}

none-there : IsSome {T = Unit'} None → ⊥
none-there h = let some : false ≡ true = h in cc

-- ---- the unit of an entity

entity-is : (e : Option Entity) (r : Option Role) (a : Option Arch) (u : Unit') → unit_with e r a ≡ Some u → e ≡ Some u.entity
entity-is None r a u is = absurd (cc)
entity-is (Some e) None a u is = absurd (cc)
entity-is (Some e) (Some r) None u is = absurd (cc)
entity-is (Some e) (Some r) (Some a) u is =
    let made : Unit' = record { entity = e; role = r; arch = a } in
    let same : made ≡ u = cc in
    ap (λ (v : Unit'). Some v.entity) same

pub entity_of : (files : List Units) (n : ℕ) (u : Unit') → unit_at files n ≡ Some u → slice_get (entities files) n ≡ Some u.entity
entity_of files n u at = entity-is (slice_get (entities files) n) (slice_get (roles files) n) (last_arch (archs_of_entity n files)) u at

pub unit_within : (files : List Units) (n : ℕ) (u : Unit') → unit_at files n ≡ Some u → n < length (entities files)
unit_within files n u at = slice_get_within (entities files) n u.entity (entity_of files n u at)

pub ports_are : (files : List Units) (n : ℕ) (u : Unit') → unit_at files n ≡ Some u → ports_of files n ≡ u.entity.ports
ports_are files n u at = ap (λ o. option_map_or (λ (e : Entity). e.ports) o []) (entity_of files n u at)

pub objects_are : (files : List Units) (n : ℕ) (u : Unit') → unit_at files n ≡ Some u → objects_at files n ≡ objects_in files u
objects_are files n u at = ap (λ o. option_map_or (objects_in files) o []) at

driven-are : (files : List Units) (n : ℕ) (u : Unit') → unit_at files n ≡ Some u → driven_at files n ≡ driven_as files u u.role
driven-are files n u at = ap (λ o. option_map_or (λ (v : Unit'). driven_as files v v.role) o []) at

-- ---- what it is as a cell

objects-as-cell : (files : List Units) (u : Unit') (c : TypedCell) (r : Role) → cell_as files u r ≡ Some c → objects_as files u r ≡ objects_of_cell c
objects-as-cell files u c role.Lib is = let same : tree_of files u ≡ c = cc in ap objects_of_cell same
objects-as-cell files u c role.Net is = absurd (cc)

objects-as-net : (files : List Units) (u : Unit') (r : Role) → cell_as files u r ≡ None → objects_as files u r ≡ map object_of_signal (signals_of (net_unit_of u))
objects-as-net files u role.Lib is = absurd (cc)
objects-as-net files u role.Net is = refl

driven-as-cell : (files : List Units) (u : Unit') (c : TypedCell) (r : Role) → cell_as files u r ≡ Some c → driven_as files u r ≡ driven_numbers c
driven-as-cell files u c role.Lib is = let same : tree_of files u ≡ c = cc in ap driven_numbers same
driven-as-cell files u c role.Net is = absurd (cc)

driven-as-net : (files : List Units) (u : Unit') (r : Role) → cell_as files u r ≡ None → driven_as files u r ≡ []
driven-as-net files u role.Lib is = absurd (cc)
driven-as-net files u role.Net is = refl

pub cell_objects : (files : List Units) (n : ℕ) (u : Unit') (c : TypedCell) → unit_at files n ≡ Some u → cell_as files u u.role ≡ Some c → objects_at files n ≡ objects_of_cell c
cell_objects files n u c at is = objects_are files n u at ∙ objects-as-cell files u c u.role is

pub net_objects : (files : List Units) (n : ℕ) (u : Unit') → unit_at files n ≡ Some u → cell_as files u u.role ≡ None → objects_at files n ≡ map object_of_signal (signals_of (net_unit_of u))
net_objects files n u at is = objects_are files n u at ∙ objects-as-net files u u.role is

pub cell_driven : (files : List Units) (n : ℕ) (u : Unit') (c : TypedCell) → unit_at files n ≡ Some u → cell_as files u u.role ≡ Some c → driven_at files n ≡ driven_numbers c
cell_driven files n u c at is = driven-are files n u at ∙ driven-as-cell files u c u.role is

pub net_driven : (files : List Units) (n : ℕ) (u : Unit') → unit_at files n ≡ Some u → cell_as files u u.role ≡ None → driven_at files n ≡ []
net_driven files n u at is = driven-are files n u at ∙ driven-as-net files u u.role is

-- whatever it is as a cell, where it is there
pub driven_cell : (files : List Units) (n : ℕ) (c : TypedCell) → IsSome (unit_at files n) → ((u : Unit') → unit_at files n ≡ Some u → Some c ≡ cell_as files u u.role) → driven_at files n ≡ driven_numbers c
driven_cell files n c there is = step (unit_at files n) refl there
  where
    step : (o : Option Unit') → unit_at files n ≡ o → IsSome o → driven_at files n ≡ driven_numbers c
    step None at h = absurd (none-there h)
    step (Some u) at h = cell_driven files n u c at (sym (is u at))

pub driven_net : (files : List Units) (n : ℕ) → ((u : Unit') → unit_at files n ≡ Some u → None ≡ cell_as files u u.role) → driven_at files n ≡ []
driven_net files n is = step (unit_at files n) refl
  where
    step : (o : Option Unit') → unit_at files n ≡ o → driven_at files n ≡ []
    step None at = ap (λ o. option_map_or (λ (v : Unit'). driven_as files v v.role) o []) at
    step (Some u) at = net_driven files n u at (sym (is u at))

-- ---- a netlist unit with no fault

unless-fault : (o : Option UnitFault) (r : Result (List Child) Fault) → fault_in (unless_fault o r) ≡ None → o ≡ None
unless-fault None r is = refl
unless-fault (Some f) r is = absurd (cc)

pub net_good : (files : List Units) (u : Unit') (r : Role) → cell_as files u r ≡ None → fault_in (contents_as files u r) ≡ None → structures.fault_in (net_unit_of u) ≡ None
net_good files u role.Lib net is = absurd (cc)
net_good files u role.Net net is =
    let v = net_unit_of u in unless-fault (structures.fault_in v) (children_behind files (signals_of v) [] (statements_of v)) is

pub net_is_good : (files : List Units) (n : ℕ) (u : Unit') → unit_at files n ≡ Some u → cell_as files u u.role ≡ None → fault_in (contents_at files n) ≡ None → structures.fault_in (net_unit_of u) ≡ None
net_is_good files n u at net is =
    net_good files u u.role net (sym (ap (λ o. fault_in (option_map_or (λ (v : Unit'). contents_as files v v.role) o (Ok []))) at) ∙ is)

-- ---- a whole unit

pub map-take-is : (n : ℕ) (os : List Object') → map lent (take n os) ≡ take n (map lent os)
map-take-is zero os = refl
map-take-is (suc n) [] = refl
map-take-is (suc n) (o ∷ os) = ap (λ ps. lent o ∷ ps) (map-take-is n os)

map-drop-is : (n : ℕ) (os : List Object') → map lent (drop n os) ≡ drop n (map lent os)
map-drop-is zero os = refl
map-drop-is (suc n) [] = refl
map-drop-is (suc n) (o ∷ os) = map-drop-is n os

pub ports_many : (files : List Units) (n : ℕ) (u : Unit') (os : List Object') → unit_at files n ≡ Some u → map lent os ≡ objects_at files n → min (length u.entity.ports) (length os) ≡ length (ports_at files n)
ports_many files n u os at is =
    ap (λ m. min (length u.entity.ports) m) (sym (length-map os lent) ∙ ap length is)
    ∙ ap (λ ps. min (length ps) (length (objects_at files n))) (sym (ports_are files n u at))
    ∙ sym (length-take (port_count files n) (objects_at files n))

pub unit_made : (files : List Units) (n : ℕ) (u : Unit') (found : Unit) → unit_at files n ≡ Some u → found.name.now ≡ u.entity.identifier.name → found.ports ≡ min (length u.entity.ports) (length found.objects.items) → map lent found.objects.items ≡ objects_at files n → bits_of_runs found.port_bits.items ≡ bits_of_all (enumerate_from 0 (map lent (take found.ports found.objects.items))) → bits_of_runs found.signal_bits.items ≡ bits_of_all (enumerate_from found.ports (map lent (drop found.ports found.objects.items))) → found.driven.items ≡ driven_at files n → IsUnit files n found
unit_made files n u found at named count objects ports signals driven = record {
  name = named ∙ sym (ap (λ o. option_map_or (λ (v : Unit'). v.entity.identifier.name) o []) at);
  ports = count ∙ ports_many files n u found.objects.items at objects;
  objects = objects;
  port_bits = ports ∙ ap (λ os. bits_of_all (enumerate_from 0 os)) front;
  signal_bits = signals ∙ ap bits_of_all back;
  driven = driven;
}
  where
    os : List Object
    os = objects_at files n

    least : found.ports ≡ min (port_count files n) (length os)
    least = count ∙ ports_many files n u found.objects.items at objects ∙ length-take (port_count files n) os

    front : map lent (take found.ports found.objects.items) ≡ ports_at files n
    front = map-take-is found.ports found.objects.items ∙ ap (take found.ports) objects ∙ ap (λ m. take m os) least ∙ take_min (port_count files n) os

    zero-plus : (m : ℕ) → 0 + m ≡ m
    zero-plus m = omega arith

    back : enumerate_from found.ports (map lent (drop found.ports found.objects.items)) ≡ enumerate_from (port_count files n) (drop (port_count files n) os)
    back =
        ap (enumerate_from found.ports) (map-drop-is found.ports found.objects.items ∙ ap (drop found.ports) objects)
        ∙ ap (λ m. enumerate_from m (drop m os)) least
        ∙ ap (λ m. enumerate_from m (drop (min (port_count files n) (length os)) os)) (sym (zero-plus (min (port_count files n) (length os))))
        ∙ rest_min (port_count files n) 0 os
        ∙ ap (λ m. enumerate_from m (drop (port_count files n) os)) (zero-plus (port_count files n))
