-- How many nodes there are in a node, itself counted. It bounds how deep nodes are nested.
use Rattle.std.specs.Prelude.{ℕ, ◌+◌, List, [], ◌∷◌, map, Option, Some, None, if◌then◌else◌}
use Rattle.vital_nodes.specs.declared.decl.Decl.{Decl}
use Rattle.vital_nodes.specs.declared.decl.Decl.TheVariants as decl
use Rattle.vital_nodes.specs.declared.decl.Iface.{Iface}
use Rattle.vital_nodes.specs.declared.decl.Subtype.{Subtype}
use Rattle.vital_nodes.specs.declared.expr.Actual.TheOpen.{Actual-F, Association-F, Choice-F, Expr-F, Item-F, Product-F, Range-F, Reference-F, Relation-F, Suffix-F, Sum-F}
use Rattle.vital_nodes.specs.declared.expr.Actual.TheFolds.{fold-Expr, fold-Item, fold-Range, fold-Reference}
use Rattle.vital_nodes.specs.declared.expr.Expr.{Expr}
use Rattle.vital_nodes.specs.declared.expr.Item.{Item as Item'}
use Rattle.vital_nodes.specs.declared.expr.Range.{Range}
use Rattle.vital_nodes.specs.declared.expr.Reference.{Reference}
use Rattle.vital_nodes.specs.declared.stmt.Conc.{Conc}
use Rattle.vital_nodes.specs.declared.stmt.Conc.TheOpen.{Block-F, Conc-F}
use Rattle.vital_nodes.specs.declared.stmt.Conc.TheFolds.{fold-Conc}
use Rattle.vital_nodes.specs.declared.stmt.Instance.{Instance}
use Rattle.vital_nodes.specs.declared.stmt.SignalAssignment.{SignalAssignment}
use Rattle.vital_nodes.specs.declared.stmt.Stmt.{Stmt}
use Rattle.vital_nodes.specs.declared.stmt.Stmt.TheOpen.{Branch-F, If-F, Stmt-F}
use Rattle.vital_nodes.specs.declared.stmt.Stmt.TheFolds.{fold-Stmt}
use Rattle.vital_nodes.specs.Nodes.{Node, Declaration, Interface, Concurrent, Sequential, Expression, Item, Name}

-- The counts of a list together.
abbrev pub total : List ℕ → ℕ
total [] = 0
total (n ∷ ns) = n + total ns

abbrev pub count_if_there : {A : Type 0} → (A → ℕ) → Option A → ℕ
count_if_there count None = 0
count_if_there count (Some x) = count x

-- ---- expressions: one layer, with the counts of what it holds in their places

abbrev Step : ((A A' A'' A3 A4 A5 A6 A7 A8 A9 A10 : Type 0) → Type 0) → Type 0
Step f = f ℕ ℕ ℕ ℕ ℕ ℕ ℕ ℕ ℕ ℕ ℕ → ℕ

abbrev pub actual_step : Step Actual-F
actual_step (Actual-F.Actual::Value e) = e
actual_step (Actual-F.Actual::Open place) = 0

abbrev pub choice_step : Step Choice-F
choice_step (Choice-F.Choice::Value e) = e
choice_step (Choice-F.Range r) = r

abbrev pub expr_step : Step Expr-F
expr_step (Expr-F.Logical place operator operands) = 1 + total operands
expr_step (Expr-F.Relation r) = 1 + r
expr_step (Expr-F.Sum s) = 1 + s
expr_step (Expr-F.Product p) = 1 + p
expr_step (Expr-F.Not place operand) = 1 + operand
expr_step (Expr-F.Number place number) = 1
expr_step (Expr-F.Physical physical) = 1
expr_step (Expr-F.Character place character) = 1
expr_step (Expr-F.StringLiteral place text) = 1
expr_step (Expr-F.Reference name) = 1 + name
expr_step (Expr-F.Parenthesized place is) = 1 + total is

abbrev pub item_step : Step Item-F
item_step (Item-F.Others place e) = 1 + e
item_step (Item-F.Item::Open place) = 1
item_step (Item-F.Positional c) = 1 + c
item_step (Item-F.Named a) = 1 + a

abbrev pub suffix_step : Step Suffix-F
suffix_step (Suffix-F.Selected identifier) = 0
suffix_step (Suffix-F.All place) = 0
suffix_step (Suffix-F.Attribute identifier) = 0
suffix_step (Suffix-F.Qualified is) = total is
suffix_step (Suffix-F.Items is) = total is

abbrev pub association_step : Step Association-F
association_step a = a.actual

abbrev pub product_step : Step Product-F
product_step p = p.first + total (map (λ factor. factor.1) p.others)

abbrev pub range_step : Step Range-F
range_step r = r.left + r.right

abbrev pub name_step : Step Reference-F
name_step r = 1 + total r.suffixes

abbrev pub relation_step : Step Relation-F
relation_step r = r.left + r.right

abbrev pub sum_step : Step Sum-F
sum_step s = s.first + total (map (λ term. term.1) s.others)

abbrev pub count_of_expr : Expr → ℕ
count_of_expr = fold-Expr ℕ ℕ ℕ ℕ ℕ ℕ ℕ ℕ ℕ ℕ ℕ actual_step choice_step expr_step item_step suffix_step association_step product_step range_step name_step relation_step sum_step

abbrev pub count_of_item : Item' → ℕ
count_of_item = fold-Item ℕ ℕ ℕ ℕ ℕ ℕ ℕ ℕ ℕ ℕ ℕ actual_step choice_step expr_step item_step suffix_step association_step product_step range_step name_step relation_step sum_step

abbrev pub count_of_range : Range → ℕ
count_of_range = fold-Range ℕ ℕ ℕ ℕ ℕ ℕ ℕ ℕ ℕ ℕ ℕ actual_step choice_step expr_step item_step suffix_step association_step product_step range_step name_step relation_step sum_step

abbrev pub count_of_name : Reference → ℕ
count_of_name = fold-Reference ℕ ℕ ℕ ℕ ℕ ℕ ℕ ℕ ℕ ℕ ℕ actual_step choice_step expr_step item_step suffix_step association_step product_step range_step name_step relation_step sum_step

-- ---- declarations

abbrev pub count_of_subtype : Subtype → ℕ
count_of_subtype s = count_of_name s.name + count_if_there count_of_range s.range

abbrev pub count_of_iface : Iface → ℕ
count_of_iface i = if i.is_last then 1 + (count_of_subtype i.parts.subtype + count_if_there count_of_expr i.parts.default) else 1

abbrev pub count_of_decl : Decl → ℕ
count_of_decl (decl.Attribute identifier type) = 1 + count_of_name type
count_of_decl (decl.Specification s) = 1 + count_of_expr s.value
count_of_decl (decl.Object o) = if o.is_last then 1 + (count_of_subtype o.parts.subtype + count_if_there count_of_expr o.parts.value) else 1
count_of_decl (decl.Alias a) = 1 + (count_if_there count_of_subtype a.subtype + count_of_name a.target)
count_of_decl (decl.Component c) = 1 + (total (map count_of_iface c.generics) + total (map count_of_iface c.ports))

-- ---- statements

abbrev pub count_of_signal_assignment : SignalAssignment → ℕ
count_of_signal_assignment a = count_of_name a.target + count_of_expr a.value + count_if_there count_of_expr a.after

abbrev pub stmt_step : Stmt-F ℕ ℕ ℕ → ℕ
stmt_step (Stmt-F.VariableAssignment place a) = 1 + (count_of_name a.target + count_of_expr a.value)
stmt_step (Stmt-F.SignalAssignment place a) = 1 + count_of_signal_assignment a
stmt_step (Stmt-F.Call place name) = 1 + count_of_name name
stmt_step (Stmt-F.If place i) = 1 + i
stmt_step (Stmt-F.Null place) = 1

abbrev pub branch_step : Branch-F ℕ ℕ ℕ → ℕ
branch_step b = count_of_expr b.condition + total b.statements

abbrev pub if_step : If-F ℕ ℕ ℕ → ℕ
if_step i = total i.branches + count_if_there total i.otherwise

abbrev pub count_of_stmt : Stmt → ℕ
count_of_stmt = fold-Stmt ℕ ℕ ℕ stmt_step branch_step if_step

abbrev pub count_of_instance : Instance → ℕ
count_of_instance i = count_of_name i.unit + total (map count_of_item i.generics) + total (map count_of_item i.ports)

abbrev pub conc_step : Conc-F ℕ ℕ → ℕ
conc_step (Conc-F.Process place label p) = 1 + (total (map count_of_name p.sensitivity) + total (map count_of_decl p.declarations) + total (map count_of_stmt p.statements))
conc_step (Conc-F.ComponentInstance place i) = 1 + count_of_instance i
conc_step (Conc-F.Instance place i) = 1 + count_of_instance i
conc_step (Conc-F.Block place label b) = 1 + b
conc_step (Conc-F.Call place name) = 1 + count_of_name name
conc_step (Conc-F.SignalAssignment place a) = 1 + count_of_signal_assignment a

abbrev pub block_step : Block-F ℕ ℕ → ℕ
block_step b = total (map count_of_decl b.declarations) + total b.statements

abbrev pub count_of_conc : Conc → ℕ
count_of_conc = fold-Conc ℕ ℕ conc_step block_step

-- The count of a node of any kind.
abbrev pub count_of : Node → ℕ
count_of (Declaration d) = count_of_decl d
count_of (Interface i) = count_of_iface i
count_of (Concurrent c) = count_of_conc c
count_of (Sequential s) = count_of_stmt s
count_of (Expression e) = count_of_expr e
count_of (Item i) = count_of_item i
count_of (Name r) = count_of_name r
