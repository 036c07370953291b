-- What an identifier alone is as an expression of a type.
use Rattle.std.specs.Prelude.{ℕ, Bool, true, false, ◌&&◌, ◌==◌, List, [], ◌∷◌, Option, Some, None, codes, if◌then◌else◌}
use Rattle.std.specs.List.{find}
use Rattle.std.specs.Option.{option_and_then, option_map, option_map_or}
use Rattle.std.specs.Str.{bytes_eq}
use Rattle.vital_declarations.specs.Constants.{columns_of}
use Rattle.vital_nodes.specs.Items.{listed_items}
use Rattle.vital_nodes.specs.Objects.{is_constant}
use Rattle.vital_declarations.specs.Numbers.{length_of, number, offset_of}
use Rattle.vital_declarations.specs.Operands.{AliasTarget, OperandKind, Signal, Port, VariableOf, ConstantOf, Generic, AliasOf, NoOperand, VectorOf, is_level, is_of_levels, is_scalar, VariableType}
use Rattle.vital_declarations.specs.Operands as target
use Rattle.vital_declarations.specs.declared.declared_type.TableType.{TableType}
use Rattle.vital_declarations.specs.declared.declared_type.TableType.TheVariants as table
use Rattle.vital_declarations.specs.Types.{DeclaredType, Plain, Vector, Table, Other, type_of}
use Rattle.vital_names.specs.declared.predeclared.Predeclared.{Predeclared}
use Rattle.vital_names.specs.declared.predeclared.Predeclared.TheVariants as word
use Rattle.vital_names.specs.declared.predeclared.TypeName.{TypeName}
use Rattle.vital_names.specs.declared.predeclared.TypeName.TheVariants as type
use Rattle.vital_names.specs.Declarations.{Declared}
use Rattle.vital_names.specs.Declarations as declared
use Rattle.vital_names.specs.Meanings.{Meaning}
use Rattle.vital_names.specs.Meanings as meanings
use Rattle.vital_nodes.specs.declared.decl.Mode.{Mode}
use Rattle.vital_nodes.specs.declared.decl.Mode.TheVariants as mode
use Rattle.vital_nodes.specs.declared.decl.Object.{Object}
use Rattle.vital_nodes.specs.declared.identifier.Identifier.{Identifier}
use Rattle.vital_timing.specs.declared.delay.Delay.{Delay}
use Rattle.vital_timing.specs.declared.delay.Delay.TheVariants as delay
use Rattle.vital_timing.specs.declared.delay.DelayType.{DelayType}
use Rattle.vital_timing.specs.declared.delay.DelayType.TheVariants.{One, Two, Six}
use Rattle.vital_operands.specs.declared.tree.BooleanExpr.{BooleanExpr}
use Rattle.vital_operands.specs.declared.tree.BooleanExpr.TheVariants as truth
use Rattle.vital_operands.specs.declared.tree.ConstantName.{ConstantName}
use Rattle.vital_operands.specs.declared.tree.ConstantName.TheVariants as constant
use Rattle.vital_operands.specs.declared.tree.Control.{Control}
use Rattle.vital_operands.specs.declared.tree.Control.TheVariants as control
use Rattle.vital_operands.specs.declared.tree.DelayExpr.{DelayExpr}
use Rattle.vital_operands.specs.declared.tree.DelayExpr.TheVariants as delays
use Rattle.vital_operands.specs.declared.tree.LevelExpr.{LevelExpr}
use Rattle.vital_operands.specs.declared.tree.LevelExpr.TheVariants as level
use Rattle.vital_operands.specs.declared.tree.TimeExpr.{TimeExpr}
use Rattle.vital_operands.specs.declared.tree.TimeExpr.TheVariants as time
use Rattle.vital_operands.specs.declared.tree.VectorExpr.{VectorExpr}
use Rattle.vital_operands.specs.declared.tree.VectorExpr.TheVariants as vector
use Rattle.vital_operands.specs.Positions.{Position, Standing, Operand, Constant, Word, Nothing, changes, has_generics, meaning_at, standing}

-- Something, if a condition holds.
abbrev pub where_holds : {A : Type 0} → Bool → A → Option A
where_holds b x = if b then Some x else None

-- The constant of the cell of an identifier.
abbrev pub cell_constant : Identifier → ConstantName
cell_constant i = constant.Cell i.name

-- ---- levels

abbrev pub is_read_mode : Mode → Bool
is_read_mode mode.In = true
is_read_mode mode.Out = false
is_read_mode mode.Inout = true
is_read_mode mode.Buffer = false
is_read_mode mode.Linkage = false

-- What an alias names, as a level.
abbrev pub level_of_target : Position → AliasTarget → Option LevelExpr
level_of_target p (target.Variable o) = where_holds (changes p) (level.Variable o.identifier.name)
level_of_target p (target.Element o n) = where_holds (changes p) (level.Element o.identifier.name n)
level_of_target p (target.Constant o) = Some (level.Constant (cell_constant o.identifier))
level_of_target p (target.PackageConstant n o) = Some (level.Constant (constant.Package n))
level_of_target p target.NoTarget = None

-- An internal signal, an in or inout port of levels, a variable of levels or of X01, a constant of levels, and an alias of one of these.
abbrev pub level_of_kind : Position → List ℕ → OperandKind → Option LevelExpr
level_of_kind p name Signal = where_holds (changes p) (level.Signal name)
level_of_kind p name (Port m t) = where_holds (changes p && (is_read_mode m && is_level t)) (level.Signal name)
level_of_kind p name (VariableOf t) = where_holds (changes p && is_scalar t) (level.Variable name)
level_of_kind p name (ConstantOf t) = where_holds (is_level t) (level.Constant (constant.Cell name))
level_of_kind p name (Generic t) = None
level_of_kind p name (AliasOf t) = level_of_target p t
level_of_kind p name NoOperand = None

abbrev pub level_of_standing : Position → List ℕ → Standing → Option LevelExpr
level_of_standing p name (Operand k) = level_of_kind p name k
level_of_standing p name (Constant n o) = where_holds (is_of_levels o) (level.Constant (constant.Package n))
level_of_standing p name (Word w) = None
level_of_standing p name Nothing = None

abbrev pub level_named : Position → Identifier → Option LevelExpr
level_named p i = level_of_standing p i.name (standing p i)

-- ---- elements of vector variables

abbrev pub offset_in_kind : OperandKind → List ℕ → Option ℕ
offset_in_kind (VariableOf (VectorOf r)) index = offset_of r (number index)
offset_in_kind other index = None

abbrev pub offset_in_standing : Standing → List ℕ → Option ℕ
offset_in_standing (Operand k) index = offset_in_kind k index
offset_in_standing other index = None

-- The element of a vector variable at a literal index that is in its range.
abbrev pub element_named : Position → Identifier → List ℕ → Option LevelExpr
element_named p i index =
    if changes p then option_map (λ n. level.Element i.name n) (offset_in_standing (standing p i) index) else None

-- ---- vectors

abbrev pub length_of_kind : OperandKind → Option ℕ
length_of_kind (VariableOf (VectorOf r)) = Some (length_of r)
length_of_kind other = None

abbrev pub length_of_standing : Standing → Option ℕ
length_of_standing (Operand k) = length_of_kind k
length_of_standing other = None

-- A vector variable.
abbrev pub vector_named : Position → Identifier → Option VectorExpr
vector_named p i = if changes p then option_map (λ n. vector.Variable i.name n) (length_of_standing (standing p i)) else None

-- ---- Booleans

-- The generics that control checks and messages (IEEE 1076.4).
abbrev pub control_named : List ℕ → Option Control
control_named name =
    if bytes_eq name (codes "timingcheckson") then Some control.TimingChecksOn
    else if bytes_eq name (codes "xon") then Some control.XOn
    else if bytes_eq name (codes "msgon") then Some control.MsgOn
    else None

abbrev pub control_of_type : Position → List ℕ → DeclaredType → Option BooleanExpr
control_of_type p name (Plain type.Boolean) = if has_generics p then option_map (λ c. truth.Control c) (control_named name) else None
control_of_type p name _ = None

abbrev pub boolean_of_kind : Position → List ℕ → OperandKind → Option BooleanExpr
boolean_of_kind p name (Generic t) = control_of_type p name t
boolean_of_kind p name other = None

abbrev pub boolean_of_word : Predeclared → Option BooleanExpr
boolean_of_word (word.Boolean b) = Some (truth.Literal b)
boolean_of_word other = None

abbrev pub boolean_of_standing : Position → List ℕ → Standing → Option BooleanExpr
boolean_of_standing p name (Operand k) = boolean_of_kind p name k
boolean_of_standing p name (Constant n o) = None
boolean_of_standing p name (Word w) = boolean_of_word w
boolean_of_standing p name Nothing = None

-- TRUE, FALSE, and the controls that are declared as generics. A constant of type BOOLEAN is none.
abbrev pub boolean_named : Position → Identifier → Option BooleanExpr
boolean_named p i = boolean_of_standing p i.name (standing p i)

-- ---- times and delays

abbrev pub same_type : DelayType → DelayType → Bool
same_type One One = true
same_type Two Two = true
same_type Six Six = true
same_type t u = false

abbrev pub is_delay : DelayType → DeclaredType → Bool
is_delay d (Plain (type.Delay t)) = same_type d t
is_delay d _ = false

abbrev pub is_time : DeclaredType → Bool
is_time (Plain type.Time) = true
is_time _ = false

abbrev pub time_of_kind : Position → List ℕ → OperandKind → Option TimeExpr
time_of_kind p name (Generic t) = where_holds (has_generics p && is_delay One t) (time.Generic name)
time_of_kind p name (ConstantOf t) = where_holds (is_time t) (time.Constant (constant.Cell name))
time_of_kind p name other = None

abbrev pub time_of_word : Predeclared → Option TimeExpr
time_of_word (word.ZeroDelay d) = where_holds (same_type One d) (time.Literal 0)
time_of_word other = None

abbrev pub time_of_standing : Position → List ℕ → Standing → Option TimeExpr
time_of_standing p name (Operand k) = time_of_kind p name k
time_of_standing p name (Constant n o) = where_holds (is_time (type_of o.parts.subtype)) (time.Constant (constant.Package n))
time_of_standing p name (Word w) = time_of_word w
time_of_standing p name Nothing = None

-- A generic of type VitalDelayType, a constant of type TIME, and VitalZeroDelay.
abbrev pub time_named : Position → Identifier → Option TimeExpr
time_named p i = time_of_standing p i.name (standing p i)

-- The delay of a type whose times are all this one.
abbrev pub even_delay : DelayType → ℕ → Delay
even_delay One t = delay.One t
even_delay Two t = delay.Two t t
even_delay Six t = delay.Six t t t t t t

abbrev pub delay_of_kind : Position → DelayType → List ℕ → OperandKind → Option DelayExpr
delay_of_kind p d name (Generic t) = where_holds (has_generics p && is_delay d t) (delays.Generic name)
delay_of_kind p d name (ConstantOf t) = where_holds (is_delay d t) (delays.Constant (constant.Cell name))
delay_of_kind p d name other = None

abbrev pub delay_of_word : DelayType → Predeclared → Option DelayExpr
delay_of_word d (word.ZeroDelay t) = where_holds (same_type d t) (delays.Literal (even_delay d 0))
delay_of_word d other = None

abbrev pub delay_of_standing : Position → DelayType → List ℕ → Standing → Option DelayExpr
delay_of_standing p d name (Operand k) = delay_of_kind p d name k
delay_of_standing p d name (Constant n o) = where_holds (is_delay d (type_of o.parts.subtype)) (delays.Constant (constant.Package n))
delay_of_standing p d name (Word w) = delay_of_word d w
delay_of_standing p d name Nothing = None

-- A generic or a constant of the type, and its zero delay.
abbrev pub delay_named : Position → DelayType → Identifier → Option DelayExpr
delay_named p d i = delay_of_standing p d i.name (standing p i)

-- ---- texts

abbrev pub is_text : DeclaredType → Bool
is_text (Plain type.Text) = true
is_text _ = false

abbrev pub text_of_kind : Position → List ℕ → OperandKind → Bool
text_of_kind p name (Generic t) = has_generics p && is_text t && bytes_eq name (codes "instancepath")
text_of_kind p name other = false

abbrev pub text_of_standing : Position → List ℕ → Standing → Bool
text_of_standing p name (Operand k) = text_of_kind p name k
text_of_standing p name other = false

-- The generic InstancePath, where it is declared.
abbrev pub is_text_named : Position → Identifier → Bool
is_text_named p i = text_of_standing p i.name (standing p i)

-- ---- tables

abbrev pub is_plain_table : TableType → TypeName → Bool
is_plain_table table.Truth type.TruthTable = true
is_plain_table table.State type.StateTable = true
is_plain_table t other = false

abbrev pub same_table : TableType → TableType → Bool
same_table table.Truth table.Truth = true
same_table table.State table.State = true
same_table t u = false

-- A type is one of tables of a kind, with ranges or without.
abbrev pub is_table_type : TableType → DeclaredType → Bool
is_table_type t (Plain n) = is_plain_table t n
is_table_type t (Table u rows columns) = same_table t u
is_table_type t _ = false

-- How many columns the value of a constant has.
abbrev pub columns_of_value : Object → ℕ
columns_of_value o = option_map_or columns_of (option_and_then listed_items o.parts.value) 0

-- An object is a constant of tables of a kind.
abbrev pub is_table : TableType → Object → Bool
is_table t o = is_constant o && is_table_type t (type_of o.parts.subtype)

abbrev pub table_in_object : TableType → ConstantName → Object → Option (ConstantName × ℕ)
table_in_object t name o = where_holds (is_table t o) (name, columns_of_value o)

abbrev pub table_declared : TableType → Declared → Option (ConstantName × ℕ)
table_declared t (declared.Generic i) = None
table_declared t (declared.Port i) = None
table_declared t (declared.Object o) = table_in_object t (cell_constant o.identifier) o
table_declared t (declared.Alias a) = None

abbrev pub table_meant : TableType → Meaning → Option (ConstantName × ℕ)
table_meant t (meanings.Declared d) = table_declared t d
table_meant t (meanings.Constant n o) = table_in_object t (constant.Package n) o
table_meant t (meanings.Predeclared w) = None

abbrev pub table_of_kind : TableType → Position → Identifier → Option (ConstantName × ℕ)
table_of_kind t p i = option_and_then (table_meant t) (meaning_at p i)

-- A constant of VitalTruthTableType, and one of VitalStateTableType, and how many columns it has.
abbrev pub table_named : Position → Identifier → Option (ConstantName × ℕ)
table_named p i = table_of_kind table.Truth p i

abbrev pub state_table_named : Position → Identifier → Option (ConstantName × ℕ)
state_table_named p i = table_of_kind table.State p i
