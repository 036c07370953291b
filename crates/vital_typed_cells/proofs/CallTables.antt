-- The tables of calls of VitalTruthTable are in a scope where the tables are that names mean.
use Rattle.std.proofs.Common.{List, [], ◌∷◌, Option, Some, None, sym, subst}
use Rattle.std.specs.Prelude.{IfSome}
use Rattle.std.specs.List.{AllByRecursion}
use Rattle.std.specs.Option.{option_and_then, option_map}
use Rattle.std.proofs.lemmas.List.{append-nil}
use Rattle.std.proofs.lemmas.List.Elements.{All-from_recursion}
use Rattle.vital_declarations.specs.declared.declared_type.TableType.TheVariants as table
use Rattle.vital_expr.specs.Readings.{Context, vector_of}
use Rattle.vital_expr.specs.Vectors.{length_of}
use Rattle.vital_names.specs.Meanings.{Meaning}
use Rattle.vital_nodes.specs.declared.expr.Expr.{Expr}
use Rattle.vital_nodes.specs.declared.expr.Item.{Item as Item'}
use Rattle.vital_nodes.specs.declared.expr.Reference.{Reference}
use Rattle.vital_nodes.specs.declared.identifier.Identifier.{Identifier}
use Rattle.vital_nodes.specs.Nodes.{Node, Declaration, Interface, Concurrent, Sequential, Expression, Item, Name}
use Rattle.vital_nodes.specs.Walk.{nodes_of, nodes_of_all}
use Rattle.vital_operands.specs.Calls.{TableActuals, table_actuals, table_items}
use Rattle.vital_operands.specs.declared.tree.VectorExpr.{VectorExpr}
use Rattle.vital_operands.specs.Named.{table_meant}
use Rattle.vital_operands.specs.Positions.{meaning_at}
use Rattle.vital_table_uses.specs.declared.table_use.TableUse.{TableUse}
use Rattle.vital_table_uses.specs.TableUses.{truth_use_at, truth_use_of, truth_use_with, used_meaning}
use Rattle.vital_nodes.specs.Names.{identifier_of}
use Rattle.vital_typed_cells.specs.Calls.{HasActuals, HasTable, HasTableAt, HasTables}
use Rattle.vital_typed_cells.specs.ExprScopes.{Scope}
use Rattle.vital_typed_cells.proofs.Closed.{Within, closed}
use Rattle.vital_typed_cells.proofs.Found.{weaker}
use Rattle.vital_typed_cells.proofs.ItemNodes.{TableWithin, call-within, identifier-within}
use Rattle.vital_typed_cells.proofs.Lists.{all-both}

-- ---- what a name means

-- The table that is meant is in a scope, for each vector of inputs with which the use of it fits.
abbrev pub HasMeant : Scope → (TableUse → Type 0) → Option Meaning → Type 0
HasMeant s Fits m = (w : Option VectorExpr) → IfSome (truth_use_with (option_and_then (used_meaning table.Truth) m) (option_map length_of w)) Fits → HasTable s (option_and_then (table_meant table.Truth) m) w

abbrev IsMeant : Scope → Context → (TableUse → Type 0) → Identifier → Type 0
IsMeant s c Fits i = HasMeant s Fits (meaning_at c.position i)

-- So is each that a name means where something is so at the name.
abbrev pub TablesMeant : Scope → Context → (Node → Type 0) → (TableUse → Type 0) → Type 0
TablesMeant s c Free Fits = (r : Reference) → Free (Name r) → IsMeant s c Fits r.identifier

-- ---- calls

named-table : (s : Scope) (c : Context) (Fits : TableUse → Type 0) (o : Option Identifier) (w : Option VectorExpr) → IfSome o (IsMeant s c Fits)
    → IfSome (truth_use_with (option_and_then (λ i. option_and_then (used_meaning table.Truth) (meaning_at c.position i)) o) (option_map length_of w)) Fits
    → HasTable s (option_and_then (λ i. option_and_then (table_meant table.Truth) (meaning_at c.position i)) o) w
named-table s c Fits None w has fit = tt
named-table s c Fits (Some i) w has fit = has w fit

call-table : (s : Scope) (c : Context) (Free : Node → Type 0) (Fits : TableUse → Type 0) (a : TableActuals) → TablesMeant s c Free Fits → TableWithin Free a → IfSome (truth_use_of c a) Fits → HasActuals s c a
call-table s c Free Fits a meant within fit =
    named-table s c Fits (identifier_of a.table) (vector_of c None a.inputs).tree (identifier-within Free (IsMeant s c Fits) a.table (λ r free. meant r free) within) fit

actuals-table : (s : Scope) (c : Context) (Free : Node → Type 0) (Fits : TableUse → Type 0) (o : Option TableActuals) → TablesMeant s c Free Fits → IfSome o (TableWithin Free) → IfSome (option_and_then (truth_use_of c) o) Fits
    → IfSome o (HasActuals s c)
actuals-table s c Free Fits None meant within fit = tt
actuals-table s c Free Fits (Some a) meant within fit = call-table s c Free Fits a meant within fit

items-table : (s : Scope) (c : Context) (Free : Node → Type 0) (Fits : TableUse → Type 0) (o : Option (List Item')) → TablesMeant s c Free Fits → IfSome (option_and_then table_actuals o) (TableWithin Free)
    → IfSome (option_and_then (λ is. option_and_then (truth_use_of c) (table_actuals is)) o) Fits → IfSome (option_and_then table_actuals o) (HasActuals s c)
items-table s c Free Fits None meant within fit = tt
items-table s c Free Fits (Some is) meant within fit = actuals-table s c Free Fits (table_actuals is) meant within fit

node-table : (s : Scope) (c : Context) (Free : Node → Type 0) (Fits : TableUse → Type 0) → TablesMeant s c Free Fits → (u : Node) → Within Free u → IfSome (truth_use_at c u) Fits → HasTableAt s c u
node-table s c Free Fits meant (Declaration d) within fit = tt
node-table s c Free Fits meant (Interface i) within fit = tt
node-table s c Free Fits meant (Concurrent k) within fit = tt
node-table s c Free Fits meant (Sequential k) within fit = tt
node-table s c Free Fits meant (Expression e) within fit = tt
node-table s c Free Fits meant (Item i) within fit = tt
node-table s c Free Fits meant (Name r) within fit = items-table s c Free Fits (table_items c.position r) meant (call-within Free c.position r within) fit

-- ---- all nodes of several

pub tables-there : (s : Scope) (c : Context) (Free : Node → Type 0) (Fits : TableUse → Type 0) (us : List Node) → TablesMeant s c Free Fits → AllByRecursion Free (nodes_of_all us) → AllByRecursion (λ u. IfSome (truth_use_at c u) Fits) (nodes_of_all us)
    → AllByRecursion (HasTableAt s c) (nodes_of_all us)
tables-there s c Free Fits us meant free fit =
    weaker (λ u. Within Free u × IfSome (truth_use_at c u) Fits) (HasTableAt s c) (λ u both. node-table s c Free Fits meant u both.0 both.1) (nodes_of_all us)
    (all-both (Within Free) (λ u. IfSome (truth_use_at c u) Fits) (nodes_of_all us) (closed Free us free) fit)

-- All nodes of one expression.
pub expression-tables : (s : Scope) (c : Context) (Free : Node → Type 0) (Fits : TableUse → Type 0) (e : Expr) → TablesMeant s c Free Fits → AllByRecursion Free (nodes_of (Expression e)) → AllByRecursion (λ u. IfSome (truth_use_at c u) Fits) (nodes_of (Expression e))
    → HasTables s c (Expression e)
expression-tables s c Free Fits e meant free fit =
    All-from_recursion (HasTableAt s c) (nodes_of (Expression e))
    (subst (AllByRecursion (HasTableAt s c)) (append-nil (nodes_of (Expression e)))
    (tables-there s c Free Fits (Expression e ∷ []) meant (subst (AllByRecursion Free) (sym (append-nil (nodes_of (Expression e)))) free)
    (subst (AllByRecursion (λ u. IfSome (truth_use_at c u) Fits)) (sym (append-nil (nodes_of (Expression e)))) fit)))
