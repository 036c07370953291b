-- The instances in a netlist unit, each with its unit and its associations (IEEE 1076-1993, 9.6).
use Rattle.std.specs.Prelude.{ℕ, List, [], ◌∷◌, ◌++◌, map, Option, Some, None, unwrap_or, Result, Ok, Err}
use Rattle.std.specs.List.{slice_get}
use Rattle.std.specs.Option.{option_map_or}
use Rattle.vital_library.specs.Numbers.{number_named}
use Rattle.vital_library.specs.Units.{entities}
use Rattle.vital_nodes.specs.declared.decl.Iface.{Iface}
use Rattle.vital_nodes.specs.declared.expr.Item.{Item}
use Rattle.vital_nodes.specs.declared.expr.Reference.{Reference}
use Rattle.vital_nodes.specs.declared.expr.Suffix.{Suffix}
use Rattle.vital_nodes.specs.declared.identifier.Identifier.{Identifier}
use Rattle.vital_nodes.specs.declared.stmt.Instance.{Instance}
use Rattle.vital_nodes.specs.declared.unit.Units.{Units}
use Rattle.vital_nodes.specs.Names.{selected}
use Rattle.vital_associations.specs.Associations.{Association}
use Rattle.vital_associations.specs.Associations as associations
use Rattle.vital_associations.specs.PortMaps.{AssociationFault, associated}
use Rattle.vital_structure.specs.Faults.{UnitFault}
use Rattle.vital_structure.specs.Signals.{UnitSignal}
use Rattle.vital_structure.specs.Statements.{Statement}
use Rattle.vital_structure.specs.Statements as statement
use Rattle.vital_structure.specs.Structures.{NetUnit, fault_in, signals_of, statements_of}
use Rattle.vital_instances.specs.declared.child.Child.{Child as Child'}
use Rattle.vital_instances.specs.Faults.{Fault, UnknownUnit, GenericMap, Declaration, NotStructural, Association as WrongAssociation, followed}

-- ---- names of units

-- The last of an identifier and those directly behind dots. All else behind it is passed over.
abbrev pub last_behind : Identifier → List Suffix → Identifier
last_behind last [] = last
last_behind last (s ∷ others) = last_behind (unwrap_or (selected s) last) others

abbrev pub unit_identifier : Reference → Identifier
unit_identifier r = last_behind r.identifier r.suffixes

-- ---- one instance

-- An instance in a unit: its label, the last identifier of the name of its unit, the number of the entity of that name, and its
-- associations.
pub record Child : Type 0 where
  pub label : Identifier
  pub name : Identifier
  pub entity : ℕ
  pub associations : List Association

abbrev pub lent : Child' → Child
lent c = record { label = c.label.now; name = c.name.now; entity = c.entity; associations = map associations.lent c.associations }

-- The ports of the entity of a number.
abbrev pub ports_of : List Units → ℕ → List Iface
ports_of files n = option_map_or (λ e. e.ports) (slice_get (entities files) n) []

abbrev pub child_by : Instance → ℕ → Result (List Association) AssociationFault → Result Child Fault
child_by i n (Ok found) = Ok (record { label = i.label; name = unit_identifier i.unit; entity = n; associations = found })
child_by i n (Err f) = Err (WrongAssociation f)

-- An instance of the entity of a number with these ports, or the first fault of an association.
abbrev pub child_with : Instance → ℕ → List Iface → List UnitSignal → Result Child Fault
child_with i n ports signals = child_by i n (associated ports signals i.ports)

-- No generic map is written.
abbrev pub without_generics : List Item → Identifier → Result Child Fault → Result Child Fault
without_generics [] name child = child
without_generics (g ∷ others) name child = Err (GenericMap name)

abbrev pub child_of_entity : List Units → List UnitSignal → Instance → Option ℕ → Result Child Fault
child_of_entity files signals i None = Err (UnknownUnit (unit_identifier i.unit))
child_of_entity files signals i (Some n) =
    without_generics i.generics (unit_identifier i.unit) (child_with i n (ports_of files n) signals)

-- An instance in a unit with these ports and signals, or the first test that it fails: its unit is an entity, it has no generic map, and
-- its associations are good.
abbrev pub child_of : List Units → List UnitSignal → Instance → Result Child Fault
child_of files signals i = child_of_entity files signals i (number_named (unit_identifier i.unit).name files)

-- ---- all of a unit

-- What a statement gives, or its fault.
abbrev pub child_in : List Units → List UnitSignal → Statement → Result Child Fault
child_in files signals (statement.Instance i) = child_of files signals i
child_in files signals (statement.NotStructural place) = Err (NotStructural place)

-- The instances of statements behind those of earlier ones, or the first fault of a statement.
abbrev pub children_behind : List Units → List UnitSignal → List Child → List Statement → Result (List Child) Fault
children_behind files signals earlier [] = Ok earlier
children_behind files signals earlier (s ∷ others) =
    followed (child_in files signals s) (λ c. children_behind files signals (earlier ++ c ∷ []) others)

abbrev pub unless_fault : Option UnitFault → Result (List Child) Fault → Result (List Child) Fault
unless_fault None children = children
unless_fault (Some f) children = Err (Declaration f)

-- The instances in a netlist unit, or its first fault: by ports and declarations, and then by statements.
abbrev pub children : List Units → NetUnit → Result (List Child) Fault
children files u = unless_fault (fault_in u) (children_behind files (signals_of u) [] (statements_of u))
