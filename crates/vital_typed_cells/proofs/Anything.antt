-- A scope that has everything: in it what needs no scope is shown.
use Rattle.std.proofs.Common.{◌≡◌, true, List, ℕ, Option, Some, None, refl}
use Rattle.std.specs.Prelude.{IfSome}
use Rattle.std.specs.Option.{option_and_then}
use Rattle.vital_declarations.specs.Operands.{AliasTarget, OperandKind, Signal, Port, VariableOf, ConstantOf, Generic, AliasOf, NoOperand, VariableType, Level, X01, VectorOf, GlitchData, TimingData, PeriodData}
use Rattle.vital_declarations.specs.Operands as target
use Rattle.vital_declarations.specs.Types.{DeclaredType, type_of}
use Rattle.vital_nodes.specs.Nodes.{Node, Declaration, Interface, Concurrent, Sequential, Expression, Item, Name}
use Rattle.vital_operands.specs.declared.tree.ConstantName.{ConstantName}
use Rattle.vital_operands.specs.declared.tree.ConstantName.TheVariants as constant
use Rattle.vital_operands.specs.declared.tree.VectorExpr.{VectorExpr}
use Rattle.vital_operands.specs.Calls.{TableActuals, table_actuals, table_items}
use Rattle.vital_operands.specs.Positions.{Position, Standing, Operand, Constant, Word, Nothing, standing}
use Rattle.vital_expr.specs.Readings.{Context, vector_of}
use Rattle.vital_expr.specs.Vectors.{length_of}
use Rattle.vital_typed_cells.specs.Calls.{HasActuals, HasTable, HasTableAt, HasTables, table_given}
use Rattle.vital_typed_cells.specs.Positions.{HasConstant, HasNameAt, HasOperand, HasStanding, HasTarget, HasVariable, IsScopeOf}
use Rattle.vital_typed_cells.specs.ExprScopes.{Scope}

abbrev pub anything : Scope
anything = record {
  has_signal = λ name. true;
  has_variable = λ name. true;
  has_element = λ name n. true;
  has_vector = λ name n. true;
  has_generic = λ d name. true;
  has_level = λ name. true;
  has_time = λ name. true;
  has_delay = λ d name. true;
  has_table = λ name inputs results. true;
}

any-constant : (name : ConstantName) (t : DeclaredType) → HasConstant anything name t
any-constant name t = record { levels = λ h. refl; times = λ h. refl; delays = λ d h. refl }

any-variable : (name : List ℕ) (t : VariableType) → HasVariable anything name t
any-variable name Level = refl
any-variable name X01 = refl
any-variable name (VectorOf r) = record { whole = refl; elements = λ n h. refl }
any-variable name GlitchData = tt
any-variable name TimingData = tt
any-variable name PeriodData = tt

any-target : (p : Position) (t : AliasTarget) → HasTarget anything p t
any-target p (target.Variable o) = λ h. refl
any-target p (target.Element o n) = λ h. refl
any-target p (target.Constant o) = refl
any-target p (target.PackageConstant n o) = refl
any-target p target.NoTarget = tt

any-operand : (p : Position) (name : List ℕ) (k : OperandKind) → HasOperand anything p name k
any-operand p name Signal = λ h. refl
any-operand p name (Port m t) = λ h k l. refl
any-operand p name (VariableOf t) = λ h. any-variable name t
any-operand p name (ConstantOf t) = any-constant (constant.Cell name) t
any-operand p name (Generic t) = λ h d k. refl
any-operand p name (AliasOf t) = any-target p t
any-operand p name NoOperand = tt

any-standing : (p : Position) (name : List ℕ) (st : Standing) → HasStanding anything p name st
any-standing p name (Operand k) = any-operand p name k
any-standing p name (Constant n o) = any-constant (constant.Package n) (type_of o.parts.subtype)
any-standing p name (Word w) = tt
any-standing p name Nothing = tt

any-name-at : (p : Position) (v : Node) → HasNameAt anything p v
any-name-at p (Declaration d) = tt
any-name-at p (Interface i) = tt
any-name-at p (Concurrent k) = tt
any-name-at p (Sequential k) = tt
any-name-at p (Expression e) = tt
any-name-at p (Item i) = tt
any-name-at p (Name r) = any-standing p r.identifier.name (standing p r.identifier)

pub anything-seen : (p : Position) (v : Node) → IsScopeOf anything p v
anything-seen p v = λ k d inside. any-name-at p _

-- ---- scopes that have all tables

abbrev pub HasAllTables : Scope → Type 0
HasAllTables s = (name : ConstantName) (inputs results : ℕ) → s.has_table name inputs results ≡ true

any-table : (s : Scope) (t : Option (ConstantName × ℕ)) (v : Option VectorExpr) → HasAllTables s → HasTable s t v
any-table s None v has = tt
any-table s (Some t) None has = tt
any-table s (Some t) (Some v) has = λ results there are. has t.0 (length_of v) results

any-actuals : (s : Scope) (c : Context) (o : Option TableActuals) → HasAllTables s → IfSome o (HasActuals s c)
any-actuals s c None has = tt
any-actuals s c (Some a) has = any-table s (table_given c.position a) (vector_of c None a.inputs).tree has

any-table-at : (s : Scope) (c : Context) (v : Node) → HasAllTables s → HasTableAt s c v
any-table-at s c (Declaration d) has = tt
any-table-at s c (Interface i) has = tt
any-table-at s c (Concurrent k) has = tt
any-table-at s c (Sequential k) has = tt
any-table-at s c (Expression e) has = tt
any-table-at s c (Item i) has = tt
any-table-at s c (Name r) has = any-actuals s c (option_and_then table_actuals (table_items c.position r)) has

pub any-tables : (s : Scope) (c : Context) (v : Node) → HasAllTables s → HasTables s c v
any-tables s c v has = λ k d inside. any-table-at s c _ has
