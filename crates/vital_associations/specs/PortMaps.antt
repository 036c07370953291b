-- The associations of all items of a port map.
use Rattle.std.specs.Prelude.{◌≡◌, ⊤, List, [], ◌∷◌, ◌++◌, map, Result, Ok, Err}
use Rattle.vital_nodes.specs.declared.decl.Iface.{Iface}
use Rattle.vital_nodes.specs.declared.expr.Item.{Item}
use Rattle.vital_structure.specs.Signals.{UnitSignal}
use Rattle.vital_associations.specs.declared.association.Association.{Association as Association'}
use Rattle.vital_associations.specs.declared.instance.AssociationFault.{AssociationFault as AssociationFault'}
use Rattle.vital_associations.specs.declared.instance.AssociationsError.{AssociationsError}
use Rattle.vital_associations.specs.declared.instance.AssociationsError.TheVariants.{Fault, NoMemory}
use Rattle.vital_associations.specs.declared.misfit.Misfit.{Misfit}
use Rattle.vital_associations.specs.declared.misfit.Misfit.TheVariants as why
use Rattle.vital_associations.specs.Associations.{Association, PortMap, association_of, lent}
use Rattle.vital_associations.specs.Items.{leading}
use Rattle.vital_associations.specs.Points.{Point, actual_point, formal_point}
use Rattle.vital_associations.specs.Points as points

-- Why an association is a fault, and where that stands.
pub record AssociationFault : Type 0 where
  pub why : Misfit
  pub point : Point

abbrev pub lent_fault : AssociationFault' → AssociationFault
lent_fault f = record { why = f.why; point = points.lent f.point }

-- Faults of the formal stand at it, and those of the actual at that.
abbrev pub point_of : Misfit → Item → Point
point_of why.UnknownPort i = formal_point i
point_of why.Twice i = formal_point i
point_of why.UnknownSignal i = actual_point i
point_of why.Type i = actual_point i
point_of why.Width i = actual_point i
point_of why.Mode i = actual_point i

abbrev pub fault_at : Misfit → Item → AssociationFault
fault_at w i = record { why = w; point = point_of w i }

-- What comes of an item, where its association is followed by others.
abbrev pub followed : Result Association Misfit → Item → (Association → Result (List Association) AssociationFault) → Result (List Association) AssociationFault
followed (Ok a) i others = others a
followed (Err w) i others = Err (fault_at w i)

-- The associations of items that stand behind earlier ones, or the first fault among them.
abbrev pub associated_behind : PortMap → List Association → List Item → Result (List Association) AssociationFault
associated_behind m earlier [] = Ok earlier
associated_behind m earlier (i ∷ others) = followed (association_of m earlier i) i (λ a. associated_behind m (earlier ++ a ∷ []) others)

-- The associations of an instance of an entity with these ports in a unit with these ports and signals: one for each item.
abbrev pub associated : List Iface → List UnitSignal → List Item → Result (List Association) AssociationFault
associated formals signals is = associated_behind (record { formals = formals; signals = signals; leading = leading is }) [] is

-- ---- what is answered; where there is no memory nothing is told

abbrev pub IsFault : Misfit → Item → AssociationsError → Type 0
IsFault w i (Fault f) = lent_fault f ≡ fault_at w i
IsFault w i NoMemory = ⊤

abbrev pub IsNext : PortMap → List Association → Item → Result Association' AssociationsError → Type 0
IsNext m earlier i (Ok a) = association_of m earlier i ≡ Ok (lent a)
IsNext m earlier i (Err (Fault f)) = (association_of m earlier i ≡ Err f.why) × (lent_fault f ≡ fault_at f.why i)
IsNext m earlier i (Err NoMemory) = ⊤

abbrev pub IsAssociated : List Iface → List UnitSignal → List Item → Result (List Association') AssociationsError → Type 0
IsAssociated formals signals is (Ok found) = associated formals signals is ≡ Ok (map lent found)
IsAssociated formals signals is (Err (Fault f)) = associated formals signals is ≡ Err (lent_fault f)
IsAssociated formals signals is (Err NoMemory) = ⊤
