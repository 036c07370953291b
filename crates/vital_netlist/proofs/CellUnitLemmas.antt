-- The unit of an entity as a cell of its library.
use Rattle.std.proofs.Common.{◌≡◌, ℕ, ◌-◌, List, [], length, sym, ◌∙◌, ap}
use Rattle.std.proofs.lemmas.Option.{get_or_from_slice_get, slice_get_within}
use Rattle.std.specs.Prelude.{Contains, Option, Some, None, slice_get}
use Rattle.std.specs.Option.{option_map_or}
use Rattle.vital_as_read.specs.Libraries.{IsCellOfLibrary}
use Rattle.vital_library.specs.Units.{archs_of, archs_of_entity, entities, roles}
use Rattle.vital_nodes.specs.declared.unit.Arch.{Arch}
use Rattle.vital_nodes.specs.declared.unit.Entity.{Entity}
use Rattle.vital_nodes.specs.declared.unit.Role.{Role}
use Rattle.vital_nodes.specs.declared.unit.Units.{Units}
use Rattle.vital_instances.specs.Units.{Unit, cell_of, last_arch, unit_at, unit_with}

element : {A : Type 0} (xs : List A) (n : ℕ) (x : A) → slice_get xs n ≡ Some x → Contains xs x
element xs n x at = (n, slice_get_within xs n x at, get_or_from_slice_get xs n x x at)

parts : (e : Option Entity) (r : Option Role) (a : Option Arch) (u : Unit) → unit_with e r a ≡ Some u → (e ≡ Some u.entity) × (a ≡ Some u.arch)
parts None r a u is = absurd (cc)
parts (Some e) None a u is = absurd (cc)
parts (Some e) (Some r) None u is = absurd (cc)
parts (Some e) (Some r) (Some a) u is =
    let made : Unit = record { entity = e; role = r; arch = a } in
    let same : made ≡ u = cc in
    (ap (λ (v : Unit). Some v.entity) same, ap (λ (v : Unit). Some v.arch) same)

pub of-library : (files : List Units) (n : ℕ) (u : Unit) → unit_at files n ≡ Some u → IsCellOfLibrary (cell_of files u)
of-library files n u at =
    let archs = archs_of_entity n files in
    let p = parts (slice_get (entities files) n) (slice_get (roles files) n) (last_arch archs) u at in
    let own : archs ≡ archs_of u.entity.identifier.name files = ap (λ o. option_map_or (λ (e : Entity). archs_of e.identifier.name files) o []) p.0 in
    let last : slice_get (archs_of u.entity.identifier.name files) (length archs - 1) ≡ Some u.arch = ap (λ own_archs. slice_get own_archs (length archs - 1)) (sym own) ∙ p.1 in
    record {
      entity = element (entities files) n u.entity p.0;
      arch = element (archs_of u.entity.identifier.name files) (length archs - 1) u.arch last;
    }
