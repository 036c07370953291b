-- What is declared, as an operand of expressions.
use Rattle.std.specs.Prelude.{ℕ, Bool, true, false, nat_le, List, [], ◌∷◌, Option, Some, None, if◌then◌else◌}
use Rattle.std.specs.Option.{option_and_then, option_map_or}
use Rattle.vital_names.specs.declared.predeclared.TypeName.{TypeName}
use Rattle.vital_names.specs.declared.predeclared.TypeName.TheVariants as type
use Rattle.vital_names.specs.Declarations.{Declared}
use Rattle.vital_names.specs.Declarations as declared
use Rattle.vital_names.specs.Meanings.{Meaning, meaning}
use Rattle.vital_names.specs.Meanings as meanings
use Rattle.vital_names.specs.Sites.{Cell, Site}
use Rattle.vital_nodes.specs.declared.decl.Alias.{Alias}
use Rattle.vital_nodes.specs.declared.decl.Mode.{Mode}
use Rattle.vital_nodes.specs.declared.decl.Object.{Object}
use Rattle.vital_nodes.specs.declared.decl.ObjectClass.{ObjectClass}
use Rattle.vital_nodes.specs.declared.decl.ObjectClass.TheVariants as class
use Rattle.vital_nodes.specs.declared.decl.Subtype.{Subtype}
use Rattle.vital_nodes.specs.declared.expr.Actual.TheOpen.{Choice-F, Item-F}
use Rattle.vital_nodes.specs.declared.expr.Actual.TheViews.{out-Choice, out-Item}
use Rattle.vital_nodes.specs.declared.expr.Item.{Item}
use Rattle.vital_nodes.specs.declared.expr.Reference.{Reference}
use Rattle.vital_nodes.specs.declared.expr.Suffix.{Suffix}
use Rattle.vital_nodes.specs.Layers.{ChoiceLayer, ItemLayer}
use Rattle.vital_nodes.specs.Bounds.{literal_integer, shown}
use Rattle.vital_nodes.specs.Names.{items_of}
use Rattle.vital_declarations.specs.declared.alias.AliasTarget.{AliasTarget as AliasTarget'}
use Rattle.vital_declarations.specs.declared.alias.AliasTarget.TheVariants as borrowed_target
use Rattle.vital_declarations.specs.declared.operand.OperandKind.{OperandKind as OperandKind'}
use Rattle.vital_declarations.specs.declared.operand.OperandKind.TheVariants as borrowed
use Rattle.vital_declarations.specs.declared.variable.VariableType.{VariableType as VariableType'}
use Rattle.vital_declarations.specs.declared.variable.VariableType.TheVariants as borrowed_type
use Rattle.vital_declarations.specs.Numbers.{Range, length_of, number, offset_of, range_of}
use Rattle.vital_declarations.specs.Types.{DeclaredType, Plain, Vector, Table, Other, type_of}
use Rattle.vital_declarations.specs.Types as types

-- ---- variables

-- The types that a variable may have: STD_ULOGIC and STD_LOGIC, which are types of levels; X01; STD_LOGIC_VECTOR with a range from
-- literal bounds; and the data that path delays and checks keep.
pub data VariableType : Type 0 where
  Level : VariableType
  X01 : VariableType
  VectorOf : Range → VariableType
  GlitchData : VariableType
  TimingData : VariableType
  PeriodData : VariableType

abbrev pub lent_type : VariableType' → VariableType
lent_type borrowed_type.Level = Level
lent_type borrowed_type.X01 = X01
lent_type (borrowed_type.Vector b) = VectorOf (range_of (shown b))
lent_type borrowed_type.GlitchData = GlitchData
lent_type borrowed_type.TimingData = TimingData
lent_type borrowed_type.PeriodData = PeriodData

abbrev pub plain_variable : TypeName → Option VariableType
plain_variable type.StdUlogic = Some Level
plain_variable type.StdLogic = Some Level
plain_variable type.X01 = Some X01
plain_variable type.GlitchData = Some GlitchData
plain_variable type.TimingData = Some TimingData
plain_variable type.PeriodData = Some PeriodData
plain_variable _ = None

-- A vector is at most so long.
abbrev pub most_elements : ℕ
most_elements = 256

abbrev pub variable_type_in : DeclaredType → Option VariableType
variable_type_in (Plain t) = plain_variable t
variable_type_in (Vector r) = if nat_le (length_of r) most_elements then Some (VectorOf r) else None
variable_type_in (Table t rows columns) = None
variable_type_in Other = None

-- The type that a variable has, if it is one that variables may have.
abbrev pub variable_type : Subtype → Option VariableType
variable_type s = variable_type_in (type_of s)

-- ---- aliases

-- What an alias names: a variable of levels or of X01, an element of a vector variable by its distance from the left bound, a
-- constant of levels of the cell or of a package, or none of these.
pub data AliasTarget : Type 0 where
  Variable : Object → AliasTarget
  Element : Object → ℕ → AliasTarget
  Constant : Object → AliasTarget
  PackageConstant : ℕ → Object → AliasTarget
  NoTarget : AliasTarget

abbrev pub lent_target : AliasTarget' → AliasTarget
lent_target (borrowed_target.Variable o) = Variable o.now
lent_target (borrowed_target.Element o offset) = Element o.now offset
lent_target (borrowed_target.Constant o) = Constant o.now
lent_target (borrowed_target.PackageConstant c) = PackageConstant c.number c.object.now
lent_target borrowed_target.Other = NoTarget

-- The types STD_ULOGIC and STD_LOGIC.
abbrev pub is_level : DeclaredType → Bool
is_level (Plain type.StdUlogic) = true
is_level (Plain type.StdLogic) = true
is_level _ = false

-- An object is of one of these.
abbrev pub is_of_levels : Object → Bool
is_of_levels o = is_level (type_of o.parts.subtype)

abbrev pub is_scalar : VariableType → Bool
is_scalar Level = true
is_scalar X01 = true
is_scalar _ = false

-- A variable whose type is of levels or X01.
abbrev pub variable_target : Object → AliasTarget
variable_target o = if option_map_or is_scalar (variable_type o.parts.subtype) false then Variable o else NoTarget

abbrev pub constant_target : AliasTarget → Object → AliasTarget
constant_target target o = if is_of_levels o then target else NoTarget

abbrev pub object_target : ObjectClass → Object → AliasTarget
object_target class.Constant o = constant_target (Constant o) o
object_target class.Signal o = NoTarget
object_target class.Variable o = variable_target o

abbrev pub declared_target : Declared → AliasTarget
declared_target (declared.Generic i) = NoTarget
declared_target (declared.Port i) = NoTarget
declared_target (declared.Object o) = object_target o.«class» o
declared_target (declared.Alias a) = NoTarget

-- What an identifier alone names.
abbrev pub whole_target : Meaning → AliasTarget
whole_target (meanings.Declared d) = declared_target d
whole_target (meanings.Constant n o) = constant_target (PackageConstant n o) o
whole_target (meanings.Predeclared p) = NoTarget

-- ---- elements of vectors

-- The literal of an index by position.
abbrev pub index_in_choice : ChoiceLayer → Option (List ℕ)
index_in_choice (Choice-F.Choice::Value e) = literal_integer e
index_in_choice (Choice-F.Range r) = None

abbrev pub index_in_item : ItemLayer → Option (List ℕ)
index_in_item (Item-F.Others place e) = None
index_in_item (Item-F.Item::Open place) = None
index_in_item (Item-F.Positional c) = index_in_choice (out-Choice c)
index_in_item (Item-F.Named a) = None

abbrev pub index_of_item : Item → Option (List ℕ)
index_of_item i = index_in_item (out-Item i)

-- The one literal index in parentheses.
abbrev pub index_in : List Item → Option (List ℕ)
index_in [] = None
index_in (i ∷ []) = index_of_item i
index_in (i ∷ j ∷ others) = None

-- The literal index that is all that stands behind an identifier.
abbrev pub literal_index : List Suffix → Option (List ℕ)
literal_index [] = None
literal_index (s ∷ []) = option_and_then index_in (items_of s)
literal_index (s ∷ t ∷ others) = None

abbrev pub offset_in_type : VariableType → ℕ → Option ℕ
offset_in_type (VectorOf r) n = offset_of r n
offset_in_type _ n = None

-- How far an index of a variable is from the left bound, if it is a vector and the index is in its range.
abbrev pub offset_in : Object → List ℕ → Option ℕ
offset_in o index = option_and_then (λ t. offset_in_type t (number index)) (variable_type o.parts.subtype)

abbrev pub element_of : Object → List ℕ → AliasTarget
element_of o index = option_map_or (λ n. Element o n) (offset_in o index) NoTarget

abbrev pub object_element : ObjectClass → Object → List ℕ → AliasTarget
object_element class.Constant o index = NoTarget
object_element class.Signal o index = NoTarget
object_element class.Variable o index = element_of o index

abbrev pub declared_element : Declared → List ℕ → AliasTarget
declared_element (declared.Generic i) index = NoTarget
declared_element (declared.Port i) index = NoTarget
declared_element (declared.Object o) index = object_element o.«class» o index
declared_element (declared.Alias a) index = NoTarget

-- What an identifier with a literal index names.
abbrev pub element_target : List ℕ → Meaning → AliasTarget
element_target index (meanings.Declared d) = declared_element d index
element_target index (meanings.Constant n o) = NoTarget
element_target index (meanings.Predeclared p) = NoTarget

-- What a name names as the target of an alias, where its identifier means this.
abbrev pub target_by : List Suffix → Meaning → AliasTarget
target_by [] m = whole_target m
target_by (s ∷ others) m = option_map_or (λ index. element_target index m) (literal_index (s ∷ others)) NoTarget

-- What a name names at a site.
abbrev pub target_at : Reference → Cell → Site → AliasTarget
target_at name cell site = option_map_or (target_by name.suffixes) (meaning name.identifier.name cell site) NoTarget

-- An alias names what its target means where the alias stands.
abbrev pub site_of_alias : Site → Alias → Site
site_of_alias site a = record site { viewpoint = a.identifier.place }

abbrev pub alias_target : Cell → Site → Alias → AliasTarget
alias_target cell site a = target_at a.target cell (site_of_alias site a)

-- ---- operands

-- What is declared, as an operand: a signal of levels; a port with its mode and type; a variable, a constant or a generic with its
-- type; what an alias names; or none of these.
pub data OperandKind : Type 0 where
  Signal : OperandKind
  Port : Mode → DeclaredType → OperandKind
  VariableOf : VariableType → OperandKind
  ConstantOf : DeclaredType → OperandKind
  Generic : DeclaredType → OperandKind
  AliasOf : AliasTarget → OperandKind
  NoOperand : OperandKind

abbrev pub lent : OperandKind' → OperandKind
lent borrowed.Signal = Signal
lent (borrowed.Port mode t) = Port mode (types.lent t)
lent (borrowed.Variable t) = VariableOf (lent_type t)
lent (borrowed.Constant t) = ConstantOf (types.lent t)
lent (borrowed.Generic t) = Generic (types.lent t)
lent (borrowed.Alias t) = AliasOf (lent_target t)
lent borrowed.Other = NoOperand

abbrev pub object_kind : ObjectClass → Object → OperandKind
object_kind class.Constant o = ConstantOf (type_of o.parts.subtype)
object_kind class.Signal o = if is_of_levels o then Signal else NoOperand
object_kind class.Variable o = option_map_or (λ t. VariableOf t) (variable_type o.parts.subtype) NoOperand

-- What is declared that a name means at a site of a cell.
abbrev pub operand_kind : Cell → Site → Declared → OperandKind
operand_kind cell site (declared.Generic i) = Generic (type_of i.parts.subtype)
operand_kind cell site (declared.Port i) = Port i.parts.mode (type_of i.parts.subtype)
operand_kind cell site (declared.Object o) = object_kind o.«class» o
operand_kind cell site (declared.Alias a) = AliasOf (alias_target cell site a)
