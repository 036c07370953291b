-- How the first fault of a library under a top is refused: as what, where, and by which name.
use Rattle.std.specs.Prelude.{◌≡◌, ⊤, ℕ, List, Option, Some, None, Result, Ok, Err}
use Rattle.std.specs.Option.{option_copied, option_map}
use Rattle.vital_base.specs.declared.breach.Breach.{Breach}
use Rattle.vital_base.specs.declared.place.Place.{Place}
use Rattle.vital_nodes.specs.declared.identifier.Identifier.{Identifier}
use Rattle.vital_associations.specs.declared.misfit.Misfit.{Misfit}
use Rattle.vital_associations.specs.declared.misfit.Misfit.TheVariants as why
use Rattle.vital_associations.specs.Points.{Point}
use Rattle.vital_associations.specs.PortMaps.{AssociationFault}
use Rattle.vital_structure.specs.Faults.{UnitFault}
use Rattle.vital_structure.specs.Faults as of_units
use Rattle.vital_instances.specs.declared.cell_fault.CellFault.{CellFault}
use Rattle.vital_instances.specs.declared.cell_fault.CellFault.TheVariants as cell
use Rattle.vital_instances.specs.Faults.{Fault as InstanceFault}
use Rattle.vital_instances.specs.Faults as of_instances
use Rattle.vital_netlist.specs.declared.signals.SignalsError.{SignalsError}
use Rattle.vital_netlist.specs.declared.signals.SignalsError.TheVariants as signals
use Rattle.vital_netlist.specs.declared.net_fault.ElabError.{ElabError as ElabError'}
use Rattle.vital_netlist.specs.declared.net_fault.ElabError.TheVariants as error
use Rattle.vital_netlist.specs.declared.net_fault.Mark.{Mark as Mark'}
use Rattle.vital_netlist.specs.declared.net_fault.NetFault.{NetFault as NetFault'}
use Rattle.vital_netlist.specs.declared.net_fault.NetFault.TheVariants as borrowed
use Rattle.vital_netlist.specs.declared.net_fault.NetLimit.{NetLimit}
use Rattle.vital_netlist.specs.declared.net_fault.NetLimit.TheVariants as limit
use Rattle.vital_netlist.specs.Designs.{Design}
use Rattle.vital_netlist.specs.Elaboration.{Fault, Entering, TooManySignals, TwoDrivers}

-- A place, and the name of the identifier that stands there, if one does.
pub record Mark : Type 0 where
  pub place : Place
  pub name : Option (List ℕ)

abbrev pub lent : Mark' → Mark
lent m = record { place = m.place; name = option_copied m.name }

abbrev pub bare : Place → Mark
bare place = record { place = place; name = None }

abbrev pub mark_of : Identifier → Mark
mark_of i = record { place = i.place; name = Some i.name }

abbrev pub mark_at : Point → Mark
mark_at p = record { place = p.place; name = option_map (λ i. i.name) p.identifier }

-- What is wrong in a netlist.
pub data NetFault : Type 0 where
  NoTop : NetFault
  UnknownUnit : Mark → NetFault
  Loop : Mark → NetFault
  UnknownPort : Mark → NetFault
  UnknownSignal : Mark → NetFault
  WidthDiffers : Mark → NetFault
  TypeDiffers : Mark → NetFault
  TwiceAssociated : Mark → NetFault
  TwiceDeclared : Mark → NetFault
  NotStructural : Mark → NetFault
  OutputToInputPort : Mark → NetFault
  TwoDrivers' : Mark → NetFault
  GenericMap : Mark → NetFault
  NotLevel1 : Breach → NetFault

abbrev pub lent_fault : NetFault' → NetFault
lent_fault borrowed.NoTop = NoTop
lent_fault (borrowed.UnknownUnit m) = UnknownUnit (lent m)
lent_fault (borrowed.Loop m) = Loop (lent m)
lent_fault (borrowed.UnknownPort m) = UnknownPort (lent m)
lent_fault (borrowed.UnknownSignal m) = UnknownSignal (lent m)
lent_fault (borrowed.WidthDiffers m) = WidthDiffers (lent m)
lent_fault (borrowed.TypeDiffers m) = TypeDiffers (lent m)
lent_fault (borrowed.TwiceAssociated m) = TwiceAssociated (lent m)
lent_fault (borrowed.TwiceDeclared m) = TwiceDeclared (lent m)
lent_fault (borrowed.NotStructural m) = NotStructural (lent m)
lent_fault (borrowed.OutputToInputPort m) = OutputToInputPort (lent m)
lent_fault (borrowed.TwoDrivers m) = TwoDrivers' (lent m)
lent_fault (borrowed.GenericMap m) = GenericMap (lent m)
lent_fault (borrowed.NotLevel1 b) = NotLevel1 b

-- A fault, or a limit that is passed.
pub data Refusal : Type 0 where
  Net : NetFault → Refusal
  Limit : NetLimit → Refusal

-- What is told. Where there is no memory that is nothing.
abbrev pub lent_error : ElabError' → Option Refusal
lent_error (error.Net f) = Some (Net (lent_fault f))
lent_error (error.Limit l) = Some (Limit l)
lent_error error.NoMemory = None

-- ---- faults of instances

abbrev pub of_declaration : UnitFault → NetFault
of_declaration (of_units.WrongType i) = TypeDiffers (mark_of i)
of_declaration (of_units.TwiceDeclared i) = TwiceDeclared (mark_of i)
of_declaration (of_units.NotStructural place) = NotStructural (bare place)

abbrev pub of_misfit : Misfit → Mark → NetFault
of_misfit why.UnknownPort m = UnknownPort m
of_misfit why.Twice m = TwiceAssociated m
of_misfit why.UnknownSignal m = UnknownSignal m
of_misfit why.Type m = TypeDiffers m
of_misfit why.Width m = WidthDiffers m
of_misfit why.Mode m = OutputToInputPort m

abbrev pub of_association : AssociationFault → NetFault
of_association f = of_misfit f.why (mark_at f.point)

abbrev pub of_cell : CellFault → Refusal
of_cell (cell.Limit passed) = Limit (limit.Cell passed)
of_cell (cell.Broken breach) = Net (NotLevel1 breach)

abbrev pub refusal_of : InstanceFault → Refusal
refusal_of of_instances.NoTop = Net NoTop
refusal_of (of_instances.UnknownUnit i) = Net (UnknownUnit (mark_of i))
refusal_of (of_instances.Loop i) = Net (Loop (mark_of i))
refusal_of (of_instances.TooDeep i) = Limit (limit.Depth i.place)
refusal_of (of_instances.TooManyInstances i) = Limit (limit.Instances i.place)
refusal_of (of_instances.GenericMap i) = Net (GenericMap (mark_of i))
refusal_of (of_instances.Declaration f) = Net (of_declaration f)
refusal_of (of_instances.NotStructural place) = Net (NotStructural (bare place))
refusal_of (of_instances.Association f) = Net (of_association f)
refusal_of (of_instances.Cell f) = of_cell f

-- ---- faults of designs

abbrev pub refusal_of_signals : SignalsError → Option Refusal
refusal_of_signals (signals.TooMany place) = Some (Limit (limit.Nets place))
refusal_of_signals signals.NoMemory = None

-- How a fault is refused.
abbrev pub refused : Fault → Refusal
refused (Entering f) = refusal_of f
refused (TooManySignals place) = Limit (limit.Nets place)
refused (TwoDrivers place name) = Net (TwoDrivers' (record { place = place; name = Some name }))

-- ---- what is answered; where there is no memory nothing is told

-- This is answered where there is this fault.
abbrev pub IsFault : Fault → ElabError' → Type 0
IsFault f error.NoMemory = ⊤
IsFault f (error.Net e) = refused f ≡ Net (lent_fault e)
IsFault f (error.Limit l) = refused f ≡ Limit l

-- This is answered where something may be a fault.
abbrev pub IsFaultIn : Option Fault → ElabError' → Type 0
IsFaultIn None error.NoMemory = ⊤
IsFaultIn None other = ⊥
IsFaultIn (Some f) e = IsFault f e

-- This is answered where a design or a fault is wanted.
abbrev pub IsDesigned : Result Design Fault → Result Design ElabError' → Type 0
IsDesigned (Ok wanted) (Ok d) = wanted ≡ d
IsDesigned (Err f) (Ok d) = ⊥
IsDesigned (Ok wanted) (Err error.NoMemory) = ⊤
IsDesigned (Ok wanted) (Err other) = ⊥
IsDesigned (Err f) (Err e) = IsFault f e
