-- The instances of a design, in preorder (IEEE 1076-1993, 12.1).
use Rattle.std.specs.Prelude.{ℕ, zero, suc, ◌+◌, Bool, ◌==◌, nat_lt, List, [], ◌∷◌, ◌++◌, length, Option, Some, None, Result, Ok, Err, if◌then◌else◌}
use Rattle.std.specs.List.{list_any, slice_get}
use Rattle.vital_library.specs.Numbers.{number_named}
use Rattle.vital_library.specs.Units.{entities}
use Rattle.vital_nodes.specs.declared.identifier.Identifier.{Identifier}
use Rattle.vital_nodes.specs.declared.unit.Entity.{Entity}
use Rattle.vital_nodes.specs.declared.unit.Role.{Role}
use Rattle.vital_nodes.specs.declared.unit.Role.TheVariants as role
use Rattle.vital_nodes.specs.declared.unit.Units.{Units}
use Rattle.vital_instances.specs.declared.cell_fault.CellFault.{CellFault}
use Rattle.vital_instances.specs.declared.entry.Entry.{Entry as Entry'}
use Rattle.vital_instances.specs.declared.fault.InstancesError.{InstancesError}
use Rattle.vital_instances.specs.declared.instance.Instance.{Instance}
use Rattle.vital_instances.specs.declared.instance.Position.{Position}
use Rattle.vital_instances.specs.Children.{Child, children}
use Rattle.vital_instances.specs.Faults.{Fault, NoTop, UnknownUnit, Loop, TooDeep, TooManyInstances, Cell, IsAnswer, followed}
use Rattle.vital_instances.specs.Judges.{IsJudge, Judge}
use Rattle.vital_instances.specs.Units.{Unit, cell_of, net_unit_of, unit_at}

-- All instances are at most so many, the top among them; and the labels on a path.
abbrev pub most_instances : ℕ
most_instances = 16384

abbrev pub most_labels : ℕ
most_labels = 32

-- An instance that is to be entered: the identifier at which its faults stand, the number of its entity, and its position, which is none for
-- the top.
pub record Entry : Type 0 where
  pub name : Identifier
  pub entity : ℕ
  pub position : Option Position

abbrev pub lent : Entry' → Entry
lent e = record { name = e.name.now; entity = e.entity; position = e.position }

abbrev pub instance_of : Entry → Instance
instance_of e = record { entity = e.entity; position = e.position }

-- The instance of a number among those in the instance of a number.
abbrev pub entry_of : ℕ → ℕ → Child → Entry
entry_of parent n c = record { name = c.name; entity = c.entity; position = Some (record { parent = parent; child = n }) }

-- ---- entering

-- Instances are entered each behind all that were found before.
abbrev pub Enter : Type 0
Enter = Entry → List Instance → Result (List Instance) Fault

-- The instances in the instance of a number are entered one after another, from a number among them on.
abbrev pub enter_from : Enter → ℕ → ℕ → List Child → List Instance → Result (List Instance) Fault
enter_from enter parent n [] found = Ok found
enter_from enter parent n (c ∷ others) found = followed (enter (entry_of parent n c) found) (enter_from enter parent (n + 1) others)

abbrev pub unless_broken : Option CellFault → Result (List Child) Fault
unless_broken None = Ok []
unless_broken (Some f) = Err (Cell f)

abbrev pub opened_as : Judge → List Units → Unit → Role → Result (List Child) Fault
opened_as judge files u role.Lib = unless_broken (judge (cell_of files u))
opened_as judge files u role.Net = children files (net_unit_of u)

-- What is in a unit, or its first fault: there is nothing in a cell, which is to be one of Level 1.
abbrev pub opened : Judge → List Units → Unit → Result (List Child) Fault
opened judge files u = opened_as judge files u u.role

-- A unit is one instance more, and then those in it are entered.
abbrev pub enter_unit : Judge → List Units → Enter → Entry → List Instance → Option Unit → Result (List Instance) Fault
enter_unit judge files enter e found None = Err (UnknownUnit e.name)
enter_unit judge files enter e found (Some u) =
    followed (opened judge files u) (λ cs. enter_from enter (length found) 0 cs (found ++ instance_of e ∷ []))

-- An entity is on the path.
abbrev pub is_above : List ℕ → ℕ → Bool
is_above above n = list_any (λ m. m == n) above

-- An instance and all in it are entered, where these entities stand on the path above it, and so many more may. The tests are, in order:
-- it stands in itself, its path has too many labels, there are too many instances, and then those of its unit.
abbrev pub enter : Judge → List Units → ℕ → List ℕ → Enter
enter judge files zero above e found = if is_above above e.entity then Err (Loop e.name) else Err (TooDeep e.name)
enter judge files (suc left) above e found =
    if is_above above e.entity then Err (Loop e.name)
    else if nat_lt (length found) most_instances then enter_unit judge files (enter judge files left (above ++ e.entity ∷ [])) e found (unit_at files e.entity)
    else Err (TooManyInstances e.name)

-- ---- the top

-- Its faults stand at the identifier of its entity.
abbrev pub top_entry : ℕ → Entity → Entry
top_entry n entity = record { name = entity.identifier; entity = n; position = None }

abbrev pub enter_top : Judge → List Units → ℕ → Option Entity → Result (List Instance) Fault
enter_top judge files n None = Err NoTop
enter_top judge files n (Some entity) = enter judge files (suc most_labels) [] (top_entry n entity) []

abbrev pub instances_under : Judge → List Units → Option ℕ → Result (List Instance) Fault
instances_under judge files None = Err NoTop
instances_under judge files (Some n) = enter_top judge files n (slice_get (entities files) n)

-- The instances of the design under a top, an entity of any file, or its first fault.
abbrev pub instances : Judge → List Units → List ℕ → Result (List Instance) Fault
instances judge files top = instances_under judge files (number_named top files)

-- These are the instances under a top, whose cells are judged by the clauses of VITAL; or this is the first fault.
abbrev pub IsInstances : List Units → List ℕ → Result (List Instance) InstancesError → Type 0
IsInstances files top result = (judge : Judge) × IsJudge judge × IsAnswer (λ is. is) (instances judge files top) result
