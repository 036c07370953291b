-- What is kept of the units of instances.
use Rattle.std.proofs.Common.{◌≡◌, ℕ, List, [], map, refl}
use Rattle.std.specs.Prelude.{Option, Some, None}
use Rattle.std.specs.List.{slice_get}
use Rattle.std.specs.Option.{option_and_then, option_map_or}
use Rattle.vital_connections.specs.Objects.{lent}
use Rattle.vital_instances.specs.declared.instance.Instance.{Instance}
use Rattle.vital_nodes.specs.declared.unit.Units.{Units}
use Rattle.vital_netlist.specs.declared.unit.Unit.{Unit}
use Rattle.vital_netlist.specs.Netlists.{IsUnit, IsUnitOf}
use Rattle.vital_netlist.specs.DesignObjects.{objects_at}

-- what is kept of a unit, as what the unit has
pub unit_some : {A : Type 0} (files : List Units) (g : Unit → A) (f : ℕ → A) (d : A) → ((n : ℕ) (u : Unit) → IsUnit files n u → g u ≡ f n) → (o : Option Instance) (u : Unit) → IsUnitOf files o (Some u) → g u ≡ option_map_or (λ i. f i.entity) o d
unit_some files g f d h None u is = absurd (cc)
unit_some files g f d h (Some i) u is = h i.entity u is

pub unit_none : {A : Type 0} (files : List Units) (f : ℕ → A) (d : A) (o : Option Instance) → IsUnitOf files o None → d ≡ option_map_or (λ i. f i.entity) o d
unit_none files f d None is = refl
unit_none files f d (Some i) is = absurd is

pub objects_is : (files : List Units) (o : Option Instance) (u : Option Unit) → IsUnitOf files o u → map lent (option_map_or (λ u. u.objects.items) u []) ≡ option_map_or (λ i. objects_at files i.entity) o []
objects_is files o None is = unit_none files (objects_at files) [] o is
objects_is files o (Some u) is = unit_some files (λ (v : Unit). map lent v.objects.items) (objects_at files) [] (λ n v h. h.objects) o u is

pub object_at : (files : List Units) (o : Option Instance) (k : ℕ) → slice_get (option_map_or (λ i. objects_at files i.entity) o []) k ≡ option_and_then (λ i. slice_get (objects_at files i.entity) k) o
object_at files None k = refl
object_at files (Some i) k = refl
