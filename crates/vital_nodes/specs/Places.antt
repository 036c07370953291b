-- Where nodes stand: a declaration, a generic or a port at its identifier, and every other node at its first token.
use Rattle.vital_base.specs.declared.place.Place.{Place}
use Rattle.vital_nodes.specs.declared.decl.Decl.{Decl}
use Rattle.vital_nodes.specs.declared.decl.Decl.TheVariants as decl
use Rattle.vital_nodes.specs.declared.expr.Actual.TheOpen.{Choice-F, Expr-F, Item-F}
use Rattle.vital_nodes.specs.declared.expr.Actual.TheViews.{out-Choice, out-Expr, out-Item}
use Rattle.vital_nodes.specs.declared.expr.Choice.{Choice}
use Rattle.vital_nodes.specs.declared.expr.Expr.{Expr}
use Rattle.vital_nodes.specs.declared.expr.Item.{Item as Item'}
use Rattle.vital_nodes.specs.declared.expr.Reference.{Reference}
use Rattle.vital_nodes.specs.declared.identifier.Identifier.{Identifier}
use Rattle.vital_nodes.specs.declared.stmt.Conc.{Conc}
use Rattle.vital_nodes.specs.declared.stmt.Conc.TheOpen.{Conc-F}
use Rattle.vital_nodes.specs.declared.stmt.Conc.TheViews.{out-Conc}
use Rattle.vital_nodes.specs.declared.stmt.Stmt.{Stmt}
use Rattle.vital_nodes.specs.declared.stmt.Stmt.TheOpen.{Stmt-F}
use Rattle.vital_nodes.specs.declared.stmt.Stmt.TheViews.{out-Stmt}
use Rattle.vital_nodes.specs.declared.unit.Unit.{Unit as Unit'}
use Rattle.vital_nodes.specs.declared.unit.Unit.TheVariants as unit
use Rattle.vital_nodes.specs.Layers.{ChoiceLayer, ConcLayer, ExprLayer, ItemLayer, StmtLayer}
use Rattle.vital_nodes.specs.Nodes.{Node, Declaration, Interface, Concurrent, Sequential, Expression, Item, Name}

-- The identifier that a declaration declares, or that an attribute specification begins with.
abbrev pub identifier_of_decl : Decl → Identifier
identifier_of_decl (decl.Attribute identifier type) = identifier
identifier_of_decl (decl.Specification s) = s.identifier
identifier_of_decl (decl.Object o) = o.identifier
identifier_of_decl (decl.Alias a) = a.identifier
identifier_of_decl (decl.Component c) = c.identifier

-- The identifier that a unit declares.
abbrev pub identifier_of_unit : Unit' → Identifier
identifier_of_unit (unit.Entity e) = e.identifier
identifier_of_unit (unit.Arch a) = a.identifier
identifier_of_unit (unit.Pack p) = p.identifier
identifier_of_unit (unit.Config c) = c.identifier

-- Where a unit begins.
abbrev pub place_of_unit : Unit' → Place
place_of_unit (unit.Entity e) = e.place
place_of_unit (unit.Arch a) = a.place
place_of_unit (unit.Pack p) = p.place
place_of_unit (unit.Config c) = c.place

-- A name begins with its identifier.
abbrev pub place_of_name : Reference → Place
place_of_name r = r.identifier.place

abbrev pub place_in_expr : ExprLayer → Place
place_in_expr (Expr-F.Logical place operator operands) = place
place_in_expr (Expr-F.Relation r) = r.place
place_in_expr (Expr-F.Sum s) = s.place
place_in_expr (Expr-F.Product p) = p.place
place_in_expr (Expr-F.Not place operand) = place
place_in_expr (Expr-F.Number place number) = place
place_in_expr (Expr-F.Physical physical) = physical.place
place_in_expr (Expr-F.Character place character) = place
place_in_expr (Expr-F.StringLiteral place text) = place
place_in_expr (Expr-F.Reference name) = place_of_name name
place_in_expr (Expr-F.Parenthesized place is) = place

abbrev pub place_of_expr : Expr → Place
place_of_expr e = place_in_expr (out-Expr e)

-- A range begins with its left bound.
abbrev pub place_in_choice : ChoiceLayer → Place
place_in_choice (Choice-F.Choice::Value e) = place_of_expr e
place_in_choice (Choice-F.Range r) = place_of_expr r.left

abbrev pub place_of_choice : Choice → Place
place_of_choice c = place_in_choice (out-Choice c)

-- An association begins with its formal or its choice.
abbrev pub place_in_item : ItemLayer → Place
place_in_item (Item-F.Others place e) = place
place_in_item (Item-F.Item::Open place) = place
place_in_item (Item-F.Positional c) = place_of_choice c
place_in_item (Item-F.Named a) = place_of_choice a.formal

abbrev pub place_of_item : Item' → Place
place_of_item i = place_in_item (out-Item i)

abbrev pub place_in_stmt : StmtLayer → Place
place_in_stmt (Stmt-F.VariableAssignment place a) = place
place_in_stmt (Stmt-F.SignalAssignment place a) = place
place_in_stmt (Stmt-F.Call place name) = place
place_in_stmt (Stmt-F.If place i) = place
place_in_stmt (Stmt-F.Null place) = place

abbrev pub place_of_stmt : Stmt → Place
place_of_stmt s = place_in_stmt (out-Stmt s)

abbrev pub place_in_conc : ConcLayer → Place
place_in_conc (Conc-F.Process place label p) = place
place_in_conc (Conc-F.ComponentInstance place i) = place
place_in_conc (Conc-F.Instance place i) = place
place_in_conc (Conc-F.Block place label b) = place
place_in_conc (Conc-F.Call place name) = place
place_in_conc (Conc-F.SignalAssignment place a) = place

abbrev pub place_of_conc : Conc → Place
place_of_conc c = place_in_conc (out-Conc c)

-- Where a node stands.
unfoldable pub place_of : Node → Place
place_of (Declaration d) = (identifier_of_decl d).place
place_of (Interface i) = i.identifier.place
place_of (Concurrent c) = place_of_conc c
place_of (Sequential s) = place_of_stmt s
place_of (Expression e) = place_of_expr e
place_of (Item i) = place_of_item i
place_of (Name r) = place_of_name r
