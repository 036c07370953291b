-- Values and defaults of declarations in which each name is in a scope.
use Rattle.std.specs.Prelude.{◌≡◌, ℕ, Bool, true, false, ⊤, All, is_some, Option, None, IfSome, if◌then◌else◌}
use Rattle.vital_declarations.specs.Types.{type_of}
use Rattle.vital_expr.specs.Readings.{Context}
use Rattle.vital_level0.specs.DefaultWords.{default_word}
use Rattle.vital_nodes.specs.declared.decl.Iface.{Iface}
use Rattle.vital_nodes.specs.declared.decl.Object.{Object}
use Rattle.vital_nodes.specs.declared.expr.Expr.{Expr}
use Rattle.vital_nodes.specs.declared.identifier.Identifier.{Identifier}
use Rattle.vital_nodes.specs.Nodes.{Node, Declaration, Interface, Concurrent, Sequential, Expression, Item, Name}
use Rattle.vital_nodes.specs.Walk.{nodes_of}
use Rattle.vital_operands.specs.declared.tree.DelayExpr.{DelayExpr}
use Rattle.vital_operands.specs.declared.tree.VectorExpr.{VectorExpr}
use Rattle.vital_operands.specs.Positions.{Position, Constant, standing}
use Rattle.vital_typed_declarations.specs.declared.asked_type.AskedType.{AskedType}
use Rattle.vital_typed_declarations.specs.declared.asked_type.AskedType.TheVariants as asked
use Rattle.vital_typed_declarations.specs.declared.value.TypedValue.{TypedValue}
use Rattle.vital_typed_declarations.specs.declared.value.TypedValue.TheVariants as value
use Rattle.vital_typed_declarations.specs.Values.{is_boolean_type}
use Rattle.vital_typed_cells.specs.Calls.{HasTables}
use Rattle.vital_typed_cells.specs.Positions.{IsScopeOf}
use Rattle.vital_typed_cells.specs.ExprScopes.{Scope}
use Rattle.vital_typed_cells.specs.Trees.{is_sound_boolean, is_sound_delay, is_sound_level, is_sound_time, is_sound_vector}

-- A scope of expressions, and a test of the constants of packages of type BOOLEAN, by their numbers.
pub record ValueScope : Type 0 where
  pub names : Scope
  pub has_boolean : ℕ → Bool

-- The constant of type BOOLEAN of a package that an identifier stands for.
abbrev pub HasBoolean : ValueScope → Position → Identifier → Type 0
HasBoolean s p i = (n : ℕ) (o : Object) → standing p i ≡ Constant n o → is_boolean_type (type_of o.parts.subtype) ≡ true → s.has_boolean n ≡ true

abbrev pub HasBooleanAt : ValueScope → Position → Node → Type 0
HasBooleanAt s p (Declaration d) = ⊤
HasBooleanAt s p (Interface i) = ⊤
HasBooleanAt s p (Concurrent k) = ⊤
HasBooleanAt s p (Sequential k) = ⊤
HasBooleanAt s p (Expression e) = ⊤
HasBooleanAt s p (Item i) = ⊤
HasBooleanAt s p (Name r) = HasBoolean s p r.identifier

-- What each name in a node stands for is in a scope.
pub record IsValueScopeOf (s : ValueScope) (p : Position) (v : Node) : Type 0 where
  pub names : IsScopeOf s.names p v
  pub booleans : All (HasBooleanAt s p) (nodes_of v)

-- What each name in a value stands for, if there is a value, and the tables of the calls in it.
abbrev pub HasNamesIn : ValueScope → Position → Option Expr → Type 0
HasNamesIn s p o = IfSome o (λ e. IsValueScopeOf s p (Expression e))

abbrev pub HasTablesIn : Scope → Context → Option Expr → Type 0
HasTablesIn s c o = IfSome o (λ e. HasTables s c (Expression e))

-- The default of a generic that is an expression: a word that Level 0 gives for its type is read by its text.
abbrev pub read_default : Iface → Option Expr
read_default i = if is_some (default_word i) then None else i.parts.default

-- ---- values of the type that is asked

abbrev pub is_sound_vector_for : Scope → AskedType → VectorExpr → Bool
is_sound_vector_for s (asked.Vector n) v = is_sound_vector s n v
is_sound_vector_for s other v = false

abbrev pub is_sound_delay_for : Scope → AskedType → DelayExpr → Bool
is_sound_delay_for s (asked.Delay d) t = is_sound_delay s d t
is_sound_delay_for s other t = false

abbrev pub is_sound_value : ValueScope → AskedType → TypedValue → Bool
is_sound_value s a (value.Level t) = is_sound_level s.names t
is_sound_value s a (value.Vector v) = is_sound_vector_for s.names a v
is_sound_value s a (value.Boolean b) = is_sound_boolean s.names b
is_sound_value s a (value.PackageBoolean n) = s.has_boolean n
is_sound_value s a (value.Time t) = is_sound_time s.names t
is_sound_value s a (value.Delay t) = is_sound_delay_for s.names a t
is_sound_value s a value.Text = true
is_sound_value s a value.Untyped = true
is_sound_value s a value.Missing = true
