-- The tables of calls of VitalStateTable fit these.
use Rattle.std.proofs.Common.{◌≡◌, ℕ, ◌+◌, Bool, true, false, List, Option, Some, None, refl, sym, subst}
use Rattle.std.specs.Prelude.{cond, IfSome}
use Rattle.std.specs.Option.{option_and_then, option_map}
use Rattle.std.proofs.lemmas.Option.{same_Some}
use Rattle.vital_actuals.specs.declared.actual.Actual.{Actual}
use Rattle.vital_actuals.specs.declared.actual.Actual.TheVariants as actual
use Rattle.vital_actuals.specs.Actuals.{actual_if_given, actual_of}
use Rattle.vital_calls.specs.declared.actual_form.ActualForm.TheVariants as form
use Rattle.vital_declarations.specs.declared.declared_type.TableType.TheVariants as table
use Rattle.vital_declarations.specs.Types.{type_of}
use Rattle.vital_base.specs.declared.place.Place.{Place}
use Rattle.vital_expr.specs.Outcomes.{or_broken}
use Rattle.vital_expr.specs.Readings.{Context, breach}
use Rattle.vital_names.specs.Declarations.{Declared}
use Rattle.vital_names.specs.Declarations as declared
use Rattle.vital_names.specs.Meanings.{Meaning}
use Rattle.vital_names.specs.Meanings as meanings
use Rattle.vital_names.specs.Sites.{Cell}
use Rattle.vital_nodes.specs.declared.decl.Object.{Object}
use Rattle.vital_nodes.specs.declared.expr.Expr.{Expr}
use Rattle.vital_nodes.specs.declared.expr.Item.{Item as Item'}
use Rattle.vital_nodes.specs.declared.identifier.Identifier.{Identifier}
use Rattle.vital_nodes.specs.Nodes.{Node, Expression, Item}
use Rattle.vital_operands.specs.declared.tree.ConstantName.{ConstantName}
use Rattle.vital_operands.specs.declared.tree.ConstantName.TheVariants as constant
use Rattle.vital_operands.specs.Named.{columns_of_value, is_table, is_table_type, state_table_named, table_declared, table_meant}
use Rattle.vital_operands.specs.Positions.{meaning_at}
use Rattle.vital_sections.specs.Given as given
use Rattle.vital_typed_cells.specs.Packages.{sound_values}
use Rattle.vital_table_uses.specs.declared.table_use.UsedTable.{UsedTable}
use Rattle.vital_table_uses.specs.declared.table_use.UsedTable.TheVariants as used
use Rattle.vital_typed_statements.specs.StateTables.{columns_in}
use Rattle.vital_table_uses.specs.TableUses.{use_of, used_declared, used_meaning, used_table}
use Rattle.vital_nodes.specs.Items.{actual as actual_given}
use Rattle.vital_nodes.specs.Names.{identifier_of}
use Rattle.vital_nodes.specs.Objects.{is_constant}
use Rattle.vital_typed_cells.specs.Fitting.{is_table as fits_table}
use Rattle.vital_typed_cells.specs.Scopes.{Visible, state_tables_in}
use Rattle.vital_typed_cells.proofs.CellTables.{CellTable, TableValue}
use Rattle.vital_typed_cells.proofs.Closed.{Within}
use Rattle.vital_typed_cells.proofs.ItemNodes.{actual-within, identifier-within}
use Rattle.vital_typed_cells.proofs.NamedConstants.{Known}
use Rattle.vital_typed_cells.proofs.Seen.{Means}
use Rattle.vital_typed_cells.proofs.TableFits.{cell-fits, package-fits}
use Rattle.vital_typed_cells.proofs.Tests.{second-true}
use Rattle.vital_typed_cells.proofs.TruthTables.{Reads}
use Rattle.vital_typed_cells.proofs.Uses.{Fits}

-- What the actual of a table is, where the name in it has a table with its columns.
abbrev named_actual : Option (ConstantName × ℕ) → Option Actual
named_actual o = option_map (λ t. actual.Table t.0 t.1) o

-- A table of so many columns is given, and it is one of which so many are inputs and so many are states.
abbrev Given : Option Actual → ConstantName → ℕ → Type 0
Given a name n = (option_and_then given.table_in a ≡ Some name) × (option_and_then columns_in a ≡ Some n)

abbrev Used : Cell → ℕ → ℕ → Option UsedTable → Type 0
Used cell inputs states u = IfSome (option_map (use_of table.State inputs states) u) (Fits cell)

-- The table has its columns in a cell.
abbrev pub StateFits : Visible → ConstantName → ℕ → ℕ → ℕ → Type 0
StateFits v name inputs states results = state_tables_in v name inputs states results ≡ true

cell-state : (cell : Cell) (v : Visible) (o : Object) (name : ConstantName) (inputs states results : ℕ) (b : Bool) → v.packages ≡ sound_values cell.files → (b ≡ true → CellTable cell v.constants o)
    → Given (named_actual (cond b (Some (constant.Cell o.identifier.name, columns_of_value o)) None)) name (inputs + states + results) → Used cell inputs states (cond b (Some (used.Cell o.identifier.place)) None) → StateFits v name inputs states results
cell-state cell v o name inputs states results false same has is fit = let wrong = is.0 in absurd (cc)
cell-state cell v o name inputs states results true same has is fit =
    subst (λ k. StateFits v k inputs states results) (same_Some (constant.Cell o.identifier.name) name is.0)
    (subst (λ ps. fits_table table.State inputs states results v.constants ps (constant.Cell o.identifier.name) ≡ true) (sym same)
    (cell-fits cell v.constants o table.State inputs states results (has refl) fit (same_Some (columns_of_value o) (inputs + states + results) is.1)))

package-state : (cell : Cell) (v : Visible) (n : ℕ) (o : Object) (name : ConstantName) (inputs states results : ℕ) (b : Bool) → v.packages ≡ sound_values cell.files → Known cell n o → (b ≡ true → is_table_type table.State (type_of o.parts.subtype) ≡ true)
    → Given (named_actual (cond b (Some (constant.Package n, columns_of_value o)) None)) name (inputs + states + results) → Used cell inputs states (cond b (Some (used.Package n)) None) → StateFits v name inputs states results
package-state cell v n o name inputs states results false same has typed is fit = let wrong = is.0 in absurd (cc)
package-state cell v n o name inputs states results true same has typed is fit =
    subst (λ k. StateFits v k inputs states results) (same_Some (constant.Package n) name is.0)
    (subst (λ ps. fits_table table.State inputs states results v.constants ps (constant.Package n) ≡ true) (sym same)
    (package-fits cell v.constants n o table.State inputs states results has (typed refl) fit (same_Some (columns_of_value o) (inputs + states + results) is.1)))

declared-state : (cell : Cell) (v : Visible) (d : Declared) (name : ConstantName) (inputs states results : ℕ) → v.packages ≡ sound_values cell.files → TableValue cell v.constants d
    → Given (named_actual (table_declared table.State d)) name (inputs + states + results) → Used cell inputs states (used_declared table.State d) → StateFits v name inputs states results
declared-state cell v (declared.Generic i) name inputs states results same has is fit = let wrong = is.0 in absurd (cc)
declared-state cell v (declared.Port i) name inputs states results same has is fit = let wrong = is.0 in absurd (cc)
declared-state cell v (declared.Object o) name inputs states results same has is fit = cell-state cell v o name inputs states results (is_table table.State o) same (has table.State) is fit
declared-state cell v (declared.Alias a) name inputs states results same has is fit = let wrong = is.0 in absurd (cc)

meant-state : (cell : Cell) (v : Visible) (called : List ℕ) (m : Option Meaning) (name : ConstantName) (inputs states results : ℕ) → v.packages ≡ sound_values cell.files → IfSome m (Means (TableValue cell v.constants) (Known cell) called)
    → Given (named_actual (option_and_then (table_meant table.State) m)) name (inputs + states + results) → Used cell inputs states (option_and_then (used_meaning table.State) m) → StateFits v name inputs states results
meant-state cell v called None name inputs states results same has is fit = let wrong = is.0 in absurd (cc)
meant-state cell v called (Some (meanings.Declared d)) name inputs states results same has is fit = declared-state cell v d name inputs states results same has.0 is fit
meant-state cell v called (Some (meanings.Constant n o)) name inputs states results same has is fit =
    package-state cell v n o name inputs states results (is_table table.State o) same has (second-true (is_constant o) (is_table_type table.State (type_of o.parts.subtype))) is fit
meant-state cell v called (Some (meanings.Predeclared w)) name inputs states results same has is fit = let wrong = is.0 in absurd (cc)

abbrev IsMeant : Cell → Visible → Context → Identifier → Type 0
IsMeant cell v c i = IfSome (meaning_at c.position i) (Means (TableValue cell v.constants) (Known cell) i.name)

named-state : (cell : Cell) (v : Visible) (c : Context) (o : Option Identifier) (name : ConstantName) (inputs states results : ℕ) → v.packages ≡ sound_values cell.files → IfSome o (IsMeant cell v c)
    → Given (named_actual (option_and_then (λ i. option_and_then (table_meant table.State) (meaning_at c.position i)) o)) name (inputs + states + results)
    → Used cell inputs states (option_and_then (λ i. option_and_then (used_meaning table.State) (meaning_at c.position i)) o) → StateFits v name inputs states results
named-state cell v c None name inputs states results same has is fit = let wrong = is.0 in absurd (cc)
named-state cell v c (Some i) name inputs states results same has is fit = meant-state cell v i.name (meaning_at c.position i) name inputs states results same has is fit

pub or-tree : {A : Type 0} (ps : List Place) (o : Option A) → (or_broken ps o).tree ≡ o
or-tree ps None = refl
or-tree ps (Some x) = refl

given-state : (cell : Cell) (v : Visible) (c : Context) (Free : Node → Type 0) (i : Item') (o : Option Expr) (name : ConstantName) (inputs states results : ℕ) → Reads cell v c Free → IfSome o (λ e. Within Free (Expression e))
    → Given (actual_if_given c form.StateTable i o).tree name (inputs + states + results) → Used cell inputs states (option_and_then (used_table table.State c.position) o) → StateFits v name inputs states results
given-state cell v c Free i None name inputs states results reads within is fit = let wrong = is.0 in absurd (cc)
given-state cell v c Free i (Some e) name inputs states results reads within is fit =
    named-state cell v c (identifier_of e) name inputs states results reads.packages (identifier-within Free (IsMeant cell v c) e (λ r free. reads.named r free) within)
    (subst (λ q. Given (named_actual q) name (inputs + states + results)) (or-tree (breach c e) (option_and_then (state_table_named c.position) (identifier_of e))) is) fit

pub state-fits : (cell : Cell) (v : Visible) (c : Context) (Free : Node → Type 0) (o : Option Item') (name : ConstantName) (inputs states results : ℕ) → Reads cell v c Free → IfSome o (λ i. Within Free (Item i))
    → option_and_then given.table_in (option_and_then (λ i. (actual_of c form.StateTable i).tree) o) ≡ Some name → option_and_then columns_in (option_and_then (λ i. (actual_of c form.StateTable i).tree) o) ≡ Some (inputs + states + results)
    → IfSome (option_map (use_of table.State inputs states) (option_and_then (used_table table.State c.position) (option_and_then actual_given o))) (Fits cell) → StateFits v name inputs states results
state-fits cell v c Free None name inputs states results reads within named columns fit = absurd (cc)
state-fits cell v c Free (Some i) name inputs states results reads within named columns fit =
    given-state cell v c Free i (actual_given i) name inputs states results reads (actual-within Free i within) (named, columns) fit
