-- Why a library has no instances under a top (IEEE 1076-1993, clause 12).
use Rattle.std.specs.Prelude.{◌≡◌, ⊤, Result, Ok, Err}
use Rattle.vital_base.specs.declared.place.Place.{Place}
use Rattle.vital_nodes.specs.declared.identifier.Identifier.{Identifier}
use Rattle.vital_associations.specs.PortMaps.{AssociationFault, lent_fault}
use Rattle.vital_structure.specs.Faults.{UnitFault}
use Rattle.vital_structure.specs.Faults as of_units
use Rattle.vital_instances.specs.declared.cell_fault.CellFault.{CellFault}
use Rattle.vital_instances.specs.declared.fault.Fault.{Fault as Fault'}
use Rattle.vital_instances.specs.declared.fault.Fault.TheVariants as borrowed
use Rattle.vital_instances.specs.declared.fault.InstancesError.{InstancesError}
use Rattle.vital_instances.specs.declared.fault.InstancesError.TheVariants as error

-- No entity has the name of the top; the unit of an instance is no entity or has no architecture, stands in itself, has too many labels on
-- its path, or is one instance too many, each at the last identifier of its name; an instance has a generic map; what a netlist unit
-- declares is a fault; a statement is none of a netlist; an association is a fault; or a cell may not stand in a design.
pub data Fault : Type 0 where
  NoTop : Fault
  UnknownUnit : Identifier → Fault
  Loop : Identifier → Fault
  TooDeep : Identifier → Fault
  TooManyInstances : Identifier → Fault
  GenericMap : Identifier → Fault
  Declaration : UnitFault → Fault
  NotStructural : Place → Fault
  Association : AssociationFault → Fault
  Cell : CellFault → Fault

-- What is borrowed of it.
abbrev pub lent : Fault' → Fault
lent borrowed.NoTop = NoTop
lent (borrowed.UnknownUnit i) = UnknownUnit i.now
lent (borrowed.Loop i) = Loop i.now
lent (borrowed.TooDeep i) = TooDeep i.now
lent (borrowed.TooManyInstances i) = TooManyInstances i.now
lent (borrowed.GenericMap i) = GenericMap i.now
lent (borrowed.Declaration f) = Declaration (of_units.lent f)
lent (borrowed.NotStructural place) = NotStructural place
lent (borrowed.Association f) = Association (lent_fault f)
lent (borrowed.Cell f) = Cell f

-- What comes behind a good result.
abbrev pub followed : {A B : Type 0} → Result A Fault → (A → Result B Fault) → Result B Fault
followed (Ok x) next = next x
followed (Err f) next = Err f

-- ---- what is answered; where there is no memory nothing is told

-- This is answered where something else than a good result is wanted.
abbrev pub IsError : {A : Type 0} → Result A Fault → InstancesError → Type 0
IsError wanted (error.Fault f) = wanted ≡ Err (lent f)
IsError wanted error.NoMemory = ⊤

-- This is answered where a result is wanted, a good one as what it is seen as.
abbrev pub IsAnswer : {A B : Type 0} → (B → A) → Result A Fault → Result B InstancesError → Type 0
IsAnswer see wanted (Ok x) = wanted ≡ Ok (see x)
IsAnswer see wanted (Err e) = IsError wanted e
