-- Instances with their units, as they are kept.
use Rattle.std.specs.Prelude.{◌≡◌, ℕ, ◌<◌, true, is_some, List, [], length, map, All, Option, Some, None}
use Rattle.std.specs.List.{slice_get}
use Rattle.std.specs.Option.{option_and_then, option_map_or}
use Rattle.vital_connections.specs.Connections.{own_bits}
use Rattle.vital_connections.specs.Objects.{lent}
use Rattle.vital_connections.specs.Runs.{bits_of_runs}
use Rattle.vital_connections.specs.Spans.{Kept, given}
use Rattle.vital_instances.specs.declared.instance.Instance.{Instance}
use Rattle.vital_instances.specs.declared.instance.Position.{Position}
use Rattle.vital_instances.specs.Children.{Child}
use Rattle.vital_instances.specs.Contents.{children_at}
use Rattle.vital_instances.specs.Designs.{AreBehindParents, AreChildren, HasInstance, HaveChildren, HaveGoodCells, HaveGoodContents, HaveUnits}
use Rattle.vital_library.specs.Units.{entities}
use Rattle.vital_nodes.specs.declared.unit.Units.{Units}
use Rattle.vital_netlist.specs.declared.unit.Unit.{Unit}
use Rattle.vital_netlist.specs.Bits.{bit}
use Rattle.vital_netlist.specs.Nets.{connection_in, connection_of, own_port_bits}
use Rattle.vital_netlist.specs.DesignObjects.{driven_at, name_at, objects_at, port_bits, port_count, ports_at, signal_bits}

-- ---- instances

-- The unit of each is there and has no fault, and all that are in each are among these.
pub record AreGood (files : List Units) (is : List Instance) : Type 0 where
  pub units : HaveUnits files is
  pub cells : HaveGoodCells files is
  pub contents : HaveGoodContents files is
  pub all : HaveChildren files is

-- ---- units

-- This is kept of the entity of a number.
pub record IsUnit (files : List Units) (n : ℕ) (u : Unit) : Type 0 where
  pub name : u.name.now ≡ name_at files n
  pub ports : u.ports ≡ length (ports_at files n)
  pub objects : map lent u.objects.items ≡ objects_at files n
  pub port_bits : bits_of_runs u.port_bits.items ≡ port_bits files n
  pub signal_bits : bits_of_runs u.signal_bits.items ≡ signal_bits files n
  pub driven : u.driven.items ≡ driven_at files n

-- What is kept of the entity of a number, if it is.
abbrev pub unit_in : List (Option Unit) → ℕ → Option Unit
unit_in units n = option_and_then (λ u. u) (slice_get units n)

-- The units of these instances are kept, each by its entity.
pub record HasUnits (files : List Units) (is : List Instance) (units : List (Option Unit)) : Type 0 where
  pub room : length units ≡ length (entities files)
  pub there : All (λ i. is_some (unit_in units i.entity) ≡ true) is
  pub found : (n : ℕ) (u : Unit) → unit_in units n ≡ Some u → HasInstance is n
  pub right : (n : ℕ) (u : Unit) → unit_in units n ≡ Some u → IsUnit files n u

-- What is kept of the unit of the instance of a number, if it is.
abbrev pub unit_of : List Instance → List (Option Unit) → ℕ → Option Unit
unit_of is units n = option_and_then (λ i. unit_in units i.entity) (slice_get is n)

-- This is kept of the unit of an instance, if there is one.
abbrev pub IsUnitOf : List Units → Option Instance → Option Unit → Type 0
IsUnitOf files None u = u ≡ None
IsUnitOf files (Some i) None = ⊥
IsUnitOf files (Some i) (Some u) = IsUnit files i.entity u

-- ---- connections

-- This is kept of an instance in the entity of a number.
pub record AreConnections (files : List Units) (n : ℕ) (c : Child) (kept : Kept) : Type 0 where
  pub spans : (port offset : ℕ) → given kept.spans port offset ≡ connection_in files n c port offset
  pub own : kept.own ≡ own_bits (connection_in files n c) (ports_at files c.entity)

-- These are kept of the instances in the entity of a number: of all of them if it has an instance.
pub record AreKept (files : List Units) (is : List Instance) (n : ℕ) (kept : List Kept) : Type 0 where
  pub there : HasInstance is n → length kept ≡ length (children_at files n)
  pub right : (child : ℕ) (c : Child) (k : Kept) → slice_get (children_at files n) child ≡ Some c → slice_get kept child ≡ Some k → AreConnections files n c k

-- What is kept of the instance of a number in the entity of a number.
abbrev pub kept_at : List (List Kept) → ℕ → ℕ → Option Kept
kept_at kept n child = option_and_then (λ ks. slice_get ks child) (slice_get kept n)

-- What is kept of the instance at a position, if it is.
abbrev pub kept_under : List Instance → List (List Kept) → Position → Option Kept
kept_under is kept p = option_and_then (λ parent. kept_at kept parent.entity p.child) (slice_get is p.parent)

-- The position of the instance of a number. The top has none.
abbrev pub position_of : List Instance → ℕ → Option Position
position_of is n = option_and_then (λ i. i.position) (slice_get is n)

-- What is kept of the instance of a number, if it is. Of the top nothing is.
abbrev pub kept_of : List Instance → List (List Kept) → ℕ → Option Kept
kept_of is kept n = option_and_then (kept_under is kept) (position_of is n)

-- These are kept of the instances in the entities before the one of a number.
pub record HasConnections (files : List Units) (is : List Instance) (before : ℕ) (kept : List (List Kept)) : Type 0 where
  pub room : length kept ≡ before
  pub each : (n : ℕ) (ks : List Kept) → slice_get kept n ≡ Some ks → AreKept files is n ks

-- This is kept of the instance of a number, if it stands in another one.
pub record IsKeptOf (files : List Units) (is : List Instance) (n : ℕ) (kept : Option Kept) : Type 0 where
  pub spans : (port offset : ℕ) → option_and_then (λ k. given k.spans port offset) kept ≡ connection_of files is (bit n (port, offset))
  pub own : option_map_or (λ k. k.own) kept (option_map_or (λ i. port_bits files i.entity) (slice_get is n) []) ≡ own_port_bits files is n

-- What an instance in an entity is associated with are ports of its own entity.
abbrev pub AreOfPorts : List Units → Type 0
AreOfPorts files = (n : ℕ) → All (λ c. All (λ a. a.port < port_count files c.entity) c.associations) (children_at files n)

-- ---- all

-- The units of all instances are kept, and what the bits of the ports of the instances in them are associated with.
pub record IsNetlist (files : List Units) (is : List Instance) (units : List (Option Unit)) (kept : List (List Kept)) : Type 0 where
  pub has_units : HasUnits files is units
  pub has_connections : HasConnections files is (length (entities files)) kept
  pub there : HaveUnits files is
  pub behind : AreBehindParents is
  pub children : AreChildren files is
  pub ports : AreOfPorts files
