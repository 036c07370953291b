-- The nodes of units, and what each of them holds.
use Rattle.std.specs.Prelude.{List, [], ◌∷◌, ◌++◌, map, Option, Some, None, if◌then◌else◌}
use Rattle.std.specs.List.{flat_map}
use Rattle.vital_nodes.specs.declared.decl.Alias.{Alias}
use Rattle.vital_nodes.specs.declared.decl.Decl.{Decl}
use Rattle.vital_nodes.specs.declared.decl.Decl.TheVariants as decl
use Rattle.vital_nodes.specs.declared.decl.Iface.{Iface}
use Rattle.vital_nodes.specs.declared.decl.Object.{Object}
use Rattle.vital_nodes.specs.declared.decl.Subtype.{Subtype}
use Rattle.vital_nodes.specs.declared.expr.Actual.TheOpen.{Actual-F, Choice-F, Expr-F, Item-F, Suffix-F}
use Rattle.vital_nodes.specs.declared.expr.Actual.TheViews.{out-Actual, out-Choice, out-Expr, out-Item, out-Suffix}
use Rattle.vital_nodes.specs.declared.expr.Expr.{Expr}
use Rattle.vital_nodes.specs.declared.expr.Item.{Item as Item'}
use Rattle.vital_nodes.specs.declared.expr.Range.{Range}
use Rattle.vital_nodes.specs.declared.expr.Reference.{Reference}
use Rattle.vital_nodes.specs.declared.expr.Suffix.{Suffix}
use Rattle.vital_nodes.specs.declared.stmt.Branch.{Branch}
use Rattle.vital_nodes.specs.declared.stmt.Conc.{Conc}
use Rattle.vital_nodes.specs.declared.stmt.Conc.TheOpen.{Conc-F}
use Rattle.vital_nodes.specs.declared.stmt.Conc.TheViews.{out-Conc}
use Rattle.vital_nodes.specs.declared.stmt.If.{If}
use Rattle.vital_nodes.specs.declared.stmt.Instance.{Instance}
use Rattle.vital_nodes.specs.declared.stmt.SignalAssignment.{SignalAssignment}
use Rattle.vital_nodes.specs.declared.stmt.Stmt.{Stmt}
use Rattle.vital_nodes.specs.declared.stmt.Stmt.TheOpen.{Stmt-F}
use Rattle.vital_nodes.specs.declared.stmt.Stmt.TheViews.{out-If, out-Stmt}
use Rattle.vital_nodes.specs.declared.unit.Unit.{Unit as Unit'}
use Rattle.vital_nodes.specs.declared.unit.Unit.TheVariants as unit
use Rattle.vital_nodes.specs.Layers.{ActualLayer, ChoiceLayer, ExprLayer, ItemLayer, SuffixLayer, StmtLayer, ConcLayer}

-- A node: a declaration, a generic or a port, a concurrent statement, a sequential statement, an expression, an item in
-- parentheses, or a name (a reference, which is an identifier with what follows it).
pub data Node : Type 0 where
  Declaration : Decl → Node
  Interface : Iface → Node
  Concurrent : Conc → Node
  Sequential : Stmt → Node
  Expression : Expr → Node
  Item : Item' → Node
  Name : Reference → Node

-- Lists of nodes of one kind.
abbrev pub declarations : List Decl → List Node
declarations ds = map (λ d. Declaration d) ds

abbrev pub interfaces : List Iface → List Node
interfaces is = map (λ i. Interface i) is

abbrev pub concurrents : List Conc → List Node
concurrents cs = map (λ c. Concurrent c) cs

abbrev pub sequentials : List Stmt → List Node
sequentials ss = map (λ s. Sequential s) ss

abbrev pub expressions : List Expr → List Node
expressions es = map (λ e. Expression e) es

abbrev pub items : List Item' → List Node
items is = map (λ i. Item i) is

abbrev pub names : List Reference → List Node
names rs = map (λ r. Name r) rs

-- An expression that may be there.
abbrev pub expression_if_there : Option Expr → List Node
expression_if_there None = []
expression_if_there (Some e) = Expression e ∷ []

-- The bounds of a range.
abbrev pub parts_of_range : Range → List Node
parts_of_range r = Expression r.left ∷ Expression r.right ∷ []

abbrev pub range_if_there : Option Range → List Node
range_if_there None = []
range_if_there (Some r) = parts_of_range r

-- The name of a subtype, and the bounds behind `range`.
abbrev pub parts_of_subtype : Subtype → List Node
parts_of_subtype s = Name s.name ∷ range_if_there s.range

abbrev pub subtype_if_there : Option Subtype → List Node
subtype_if_there None = []
subtype_if_there (Some s) = parts_of_subtype s

-- ---- expressions, items and names (IEEE 1076-1993, clauses 6 and 7)

-- The operands of an expression, the name that it is, or the items in its parentheses.
abbrev pub parts_in_expr : ExprLayer → List Node
parts_in_expr (Expr-F.Logical place operator operands) = expressions operands
parts_in_expr (Expr-F.Relation r) = Expression r.left ∷ Expression r.right ∷ []
parts_in_expr (Expr-F.Sum s) = Expression s.first ∷ map (λ term. Expression term.1) s.others
parts_in_expr (Expr-F.Product p) = Expression p.first ∷ map (λ factor. Expression factor.1) p.others
parts_in_expr (Expr-F.Not place operand) = Expression operand ∷ []
parts_in_expr (Expr-F.Number place number) = []
parts_in_expr (Expr-F.Physical physical) = []
parts_in_expr (Expr-F.Character place character) = []
parts_in_expr (Expr-F.StringLiteral place text) = []
parts_in_expr (Expr-F.Reference name) = Name name ∷ []
parts_in_expr (Expr-F.Parenthesized place is) = items is

abbrev pub parts_of_expr : Expr → List Node
parts_of_expr e = parts_in_expr (out-Expr e)

-- A value, or the bounds of a range.
abbrev pub parts_in_choice : ChoiceLayer → List Node
parts_in_choice (Choice-F.Choice::Value e) = Expression e ∷ []
parts_in_choice (Choice-F.Range r) = parts_of_range r

abbrev pub parts_in_actual : ActualLayer → List Node
parts_in_actual (Actual-F.Actual::Value e) = Expression e ∷ []
parts_in_actual (Actual-F.Actual::Open place) = []

-- The value of an item: a formal or a choice before `=>` is no node.
abbrev pub parts_in_item : ItemLayer → List Node
parts_in_item (Item-F.Others place e) = Expression e ∷ []
parts_in_item (Item-F.Item::Open place) = []
parts_in_item (Item-F.Positional c) = parts_in_choice (out-Choice c)
parts_in_item (Item-F.Named a) = parts_in_actual (out-Actual a.actual)

abbrev pub parts_of_item : Item' → List Node
parts_of_item i = parts_in_item (out-Item i)

-- The items of a suffix, which is no node itself.
abbrev pub parts_in_suffix : SuffixLayer → List Node
parts_in_suffix (Suffix-F.Selected identifier) = []
parts_in_suffix (Suffix-F.All place) = []
parts_in_suffix (Suffix-F.Attribute identifier) = []
parts_in_suffix (Suffix-F.Qualified is) = items is
parts_in_suffix (Suffix-F.Items is) = items is

abbrev pub parts_of_suffix : Suffix → List Node
parts_of_suffix s = parts_in_suffix (out-Suffix s)

-- The items in the parentheses of a name.
abbrev pub parts_of_name : Reference → List Node
parts_of_name r = flat_map parts_of_suffix r.suffixes

-- ---- declarations (IEEE 1076-1993, clause 4)

-- What identifiers that are declared together share stands behind the last of them, and is a part of that one alone.
abbrev pub parts_of_iface : Iface → List Node
parts_of_iface i = if i.is_last then parts_of_subtype i.parts.subtype ++ expression_if_there i.parts.default else []

abbrev pub parts_of_object : Object → List Node
parts_of_object o = if o.is_last then parts_of_subtype o.parts.subtype ++ expression_if_there o.parts.value else []

abbrev pub parts_of_alias : Alias → List Node
parts_of_alias a = subtype_if_there a.subtype ++ Name a.target ∷ []

abbrev pub parts_of_decl : Decl → List Node
parts_of_decl (decl.Attribute identifier type) = Name type ∷ []
parts_of_decl (decl.Specification s) = Expression s.value ∷ []
parts_of_decl (decl.Object o) = parts_of_object o
parts_of_decl (decl.Alias a) = parts_of_alias a
parts_of_decl (decl.Component c) = interfaces c.generics ++ interfaces c.ports

-- ---- statements (IEEE 1076-1993, clauses 8 and 9)

abbrev pub parts_of_signal_assignment : SignalAssignment → List Node
parts_of_signal_assignment a = Name a.target ∷ Expression a.value ∷ expression_if_there a.after

-- The condition of a branch, and its statements.
abbrev pub parts_of_branch : Branch → List Node
parts_of_branch b = Expression b.condition ∷ sequentials b.statements

abbrev pub statements_if_there : Option (List Stmt) → List Node
statements_if_there None = []
statements_if_there (Some ss) = sequentials ss

abbrev pub parts_of_if : If → List Node
parts_of_if i = flat_map parts_of_branch (out-If i).branches ++ statements_if_there (out-If i).otherwise

abbrev pub parts_in_stmt : StmtLayer → List Node
parts_in_stmt (Stmt-F.VariableAssignment place a) = Name a.target ∷ Expression a.value ∷ []
parts_in_stmt (Stmt-F.SignalAssignment place a) = parts_of_signal_assignment a
parts_in_stmt (Stmt-F.Call place name) = Name name ∷ []
parts_in_stmt (Stmt-F.If place i) = parts_of_if i
parts_in_stmt (Stmt-F.Null place) = []

abbrev pub parts_of_stmt : Stmt → List Node
parts_of_stmt s = parts_in_stmt (out-Stmt s)

-- The name of what an instance is of, and the items of its maps.
abbrev pub parts_of_instance : Instance → List Node
parts_of_instance i = Name i.unit ∷ items i.generics ++ items i.ports

abbrev pub parts_in_conc : ConcLayer → List Node
parts_in_conc (Conc-F.Process place label p) = names p.sensitivity ++ declarations p.declarations ++ sequentials p.statements
parts_in_conc (Conc-F.ComponentInstance place i) = parts_of_instance i
parts_in_conc (Conc-F.Instance place i) = parts_of_instance i
parts_in_conc (Conc-F.Block place label b) = declarations b.declarations ++ concurrents b.statements
parts_in_conc (Conc-F.Call place name) = Name name ∷ []
parts_in_conc (Conc-F.SignalAssignment place a) = parts_of_signal_assignment a

abbrev pub parts_of_conc : Conc → List Node
parts_of_conc c = parts_in_conc (out-Conc c)

-- ---- nodes and units

-- The nodes that a node holds, in the order of the text, without what these hold in turn.
unfoldable pub parts_of : Node → List Node
parts_of (Declaration d) = parts_of_decl d
parts_of (Interface i) = parts_of_iface i
parts_of (Concurrent c) = parts_of_conc c
parts_of (Sequential s) = parts_of_stmt s
parts_of (Expression e) = parts_of_expr e
parts_of (Item i) = parts_of_item i
parts_of (Name r) = parts_of_name r

-- The same of a unit (IEEE 1076-1993, clauses 1 and 2).
unfoldable pub parts_of_unit : Unit' → List Node
parts_of_unit (unit.Entity e) = interfaces e.generics ++ interfaces e.ports ++ declarations e.declarations ++ concurrents e.statements
parts_of_unit (unit.Arch a) = declarations a.declarations ++ concurrents a.statements
parts_of_unit (unit.Pack p) = declarations p.declarations
parts_of_unit (unit.Config c) = []
