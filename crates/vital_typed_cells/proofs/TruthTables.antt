-- The tables of calls of VitalTruthTable are in the scopes of a cell.
use Rattle.std.proofs.Common.{◌≡◌, ℕ, ◌+◌, Bool, true, false, List, [], Option, Some, None, refl, sym, subst, arith}
use Rattle.std.specs.Prelude.{cond, IfSome}
use Rattle.std.specs.List.{AllByRecursion, filter_map}
use Rattle.std.specs.Option.{option_and_then, option_map}
use Rattle.std.proofs.lemmas.List.{append-nil}
use Rattle.vital_declarations.specs.declared.declared_type.TableType.TheVariants as table
use Rattle.vital_declarations.specs.Types.{type_of}
use Rattle.vital_expr.specs.Readings.{Context}
use Rattle.vital_expr.specs.Vectors.{length_of}
use Rattle.vital_names.specs.Declarations.{Declared}
use Rattle.vital_names.specs.Declarations as declared
use Rattle.vital_names.specs.Meanings.{Meaning}
use Rattle.vital_names.specs.Meanings as meanings
use Rattle.vital_names.specs.Sites.{Cell}
use Rattle.vital_nodes.specs.declared.decl.Object.{Object}
use Rattle.vital_nodes.specs.declared.expr.Expr.{Expr}
use Rattle.vital_nodes.specs.declared.expr.Reference.{Reference}
use Rattle.vital_nodes.specs.Nodes.{Node, Expression, Name, expression_if_there}
use Rattle.vital_nodes.specs.Walk.{nodes_of, nodes_of_all}
use Rattle.vital_operands.specs.declared.tree.ConstantName.TheVariants as constant
use Rattle.vital_operands.specs.declared.tree.VectorExpr.{VectorExpr}
use Rattle.vital_operands.specs.Named.{columns_of_value, is_table, is_table_type, table_meant}
use Rattle.vital_operands.specs.Positions.{meaning_at}
use Rattle.vital_typed_cells.specs.Packages.{sound_values}
use Rattle.vital_table_uses.specs.declared.table_use.UsedTable.TheVariants as used
use Rattle.vital_table_uses.specs.TableUses.{truth_use_at, truth_use_with, used_meaning}
use Rattle.vital_nodes.specs.Objects.{is_constant}
use Rattle.vital_typed_cells.specs.Calls.{HasTable, HasTableAt}
use Rattle.vital_typed_cells.specs.SoundValues.{HasTablesIn}
use Rattle.vital_typed_cells.specs.Fitting.{is_table as fits_table}
use Rattle.vital_typed_cells.specs.Scopes.{Visible, scope_of}
use Rattle.vital_typed_cells.proofs.CallTables.{TablesMeant, expression-tables, tables-there}
use Rattle.vital_typed_cells.proofs.CellTables.{CellTable, TableValue}
use Rattle.vital_typed_cells.proofs.NamedConstants.{Known}
use Rattle.vital_typed_cells.proofs.Packages.{each-kept}
use Rattle.vital_typed_cells.proofs.Seen.{Means}
use Rattle.vital_typed_cells.proofs.TableFits.{cell-fits, package-fits}
use Rattle.vital_typed_cells.proofs.Tests.{second-true}
use Rattle.vital_typed_cells.proofs.Uses.{AllFit, Fits}

-- ---- what a name means

-- What names mean where something is so at them.
pub record Reads (cell : Cell) (v : Visible) (c : Context) (Free : Node → Type 0) : Type 0 where
  pub packages : v.packages ≡ sound_values cell.files
  pub named : (r : Reference) → Free (Name r) → IfSome (meaning_at c.position r.identifier) (Means (TableValue cell v.constants) (Known cell) r.identifier.name)

pub with-none : (inputs results n : ℕ) → n ≡ inputs + results → n ≡ inputs + 0 + results
with-none inputs results n is = omega (arith, is)

cell-table : (cell : Cell) (v : Visible) (o : Object) (b : Bool) (w : Option VectorExpr) → v.packages ≡ sound_values cell.files → (b ≡ true → CellTable cell v.constants o)
    → IfSome (truth_use_with (cond b (Some (used.Cell o.identifier.place)) None) (option_map length_of w)) (Fits cell) → HasTable (scope_of v) (cond b (Some (constant.Cell o.identifier.name, columns_of_value o)) None) w
cell-table cell v o false w same has fit = tt
cell-table cell v o true None same has fit = tt
cell-table cell v o true (Some u) same has fit = λ results there are.
    subst (λ ps. fits_table table.Truth (length_of u) 0 results v.constants ps (constant.Cell o.identifier.name) ≡ true) (sym same)
    (cell-fits cell v.constants o table.Truth (length_of u) 0 results (has refl) fit (with-none (length_of u) results (columns_of_value o) are))

package-table : (cell : Cell) (v : Visible) (n : ℕ) (o : Object) (b : Bool) (w : Option VectorExpr) → v.packages ≡ sound_values cell.files → Known cell n o → (b ≡ true → is_table_type table.Truth (type_of o.parts.subtype) ≡ true)
    → IfSome (truth_use_with (cond b (Some (used.Package n)) None) (option_map length_of w)) (Fits cell) → HasTable (scope_of v) (cond b (Some (constant.Package n, columns_of_value o)) None) w
package-table cell v n o false w same has typed fit = tt
package-table cell v n o true None same has typed fit = tt
package-table cell v n o true (Some u) same has typed fit = λ results there are.
    subst (λ ps. fits_table table.Truth (length_of u) 0 results v.constants ps (constant.Package n) ≡ true) (sym same)
    (package-fits cell v.constants n o table.Truth (length_of u) 0 results has (typed refl) fit (with-none (length_of u) results (columns_of_value o) are))

declared-table : (cell : Cell) (v : Visible) (d : Declared) (w : Option VectorExpr) → v.packages ≡ sound_values cell.files → TableValue cell v.constants d
    → IfSome (truth_use_with (used_meaning table.Truth (meanings.Declared d)) (option_map length_of w)) (Fits cell) → HasTable (scope_of v) (table_meant table.Truth (meanings.Declared d)) w
declared-table cell v (declared.Generic i) w same has fit = tt
declared-table cell v (declared.Port i) w same has fit = tt
declared-table cell v (declared.Object o) w same has fit = cell-table cell v o (is_table table.Truth o) w same (has table.Truth) fit
declared-table cell v (declared.Alias a) w same has fit = tt

meant-table : (cell : Cell) (v : Visible) (name : List ℕ) (m : Meaning) (w : Option VectorExpr) → v.packages ≡ sound_values cell.files → Means (TableValue cell v.constants) (Known cell) name m
    → IfSome (truth_use_with (used_meaning table.Truth m) (option_map length_of w)) (Fits cell) → HasTable (scope_of v) (table_meant table.Truth m) w
meant-table cell v name (meanings.Declared d) w same has fit = declared-table cell v d w same has.0 fit
meant-table cell v name (meanings.Constant n o) w same has fit =
    package-table cell v n o (is_table table.Truth o) w same has (second-true (is_constant o) (is_table_type table.Truth (type_of o.parts.subtype))) fit
meant-table cell v name (meanings.Predeclared p) w same has fit = tt

some-table : (cell : Cell) (v : Visible) (name : List ℕ) (m : Option Meaning) (w : Option VectorExpr) → v.packages ≡ sound_values cell.files → IfSome m (Means (TableValue cell v.constants) (Known cell) name)
    → IfSome (truth_use_with (option_and_then (used_meaning table.Truth) m) (option_map length_of w)) (Fits cell) → HasTable (scope_of v) (option_and_then (table_meant table.Truth) m) w
some-table cell v name None w same has fit = tt
some-table cell v name (Some m) w same has fit = meant-table cell v name m w same has fit

-- The tables that names mean are in the scope of what is seen.
meant-tables : (cell : Cell) (v : Visible) (c : Context) (Free : Node → Type 0) → Reads cell v c Free → TablesMeant (scope_of v) c Free (Fits cell)
meant-tables cell v c Free reads = λ r free w fit. some-table cell v r.identifier.name (meaning_at c.position r.identifier) w reads.packages (reads.named r free) fit

-- ---- all nodes of several

pub nodes-tables : (cell : Cell) (v : Visible) (c : Context) (Free : Node → Type 0) (us : List Node) → Reads cell v c Free → AllByRecursion Free (nodes_of_all us) → AllFit cell (filter_map (truth_use_at c) (nodes_of_all us))
    → AllByRecursion (HasTableAt (scope_of v) c) (nodes_of_all us)
nodes-tables cell v c Free us reads free fit = tables-there (scope_of v) c Free (Fits cell) us (meant-tables cell v c Free reads) free (each-kept (Fits cell) (truth_use_at c) (nodes_of_all us) fit)

-- A value that is read at the last of those that share it.
pub value-tables : (cell : Cell) (v : Visible) (c : Context) (Free : Node → Type 0) (last : Bool) (o : Option Expr) → last ≡ true → Reads cell v c Free → IfSome o (λ e. AllByRecursion Free (nodes_of (Expression e)))
    → AllFit cell (filter_map (truth_use_at c) (nodes_of_all (cond last (expression_if_there o) []))) → HasTablesIn (scope_of v) c o
value-tables cell v c Free last None is reads free fit = tt
value-tables cell v c Free true (Some e) is reads free fit =
    expression-tables (scope_of v) c Free (Fits cell) e (meant-tables cell v c Free reads) free
    (each-kept (Fits cell) (truth_use_at c) (nodes_of (Expression e)) (subst (λ us. AllFit cell (filter_map (truth_use_at c) us)) (append-nil (nodes_of (Expression e))) fit))
value-tables cell v c Free false (Some e) is reads free fit = absurd (cc)
