-- The identifiers of which it is asked what they mean.
use Rattle.std.specs.Prelude.{List, Option, Some, None}
use Rattle.std.specs.List.{filter_map}
use Rattle.std.specs.Option.{option_map}
use Rattle.vital_nodes.specs.declared.expr.Actual.TheOpen.{Expr-F}
use Rattle.vital_nodes.specs.declared.expr.Actual.TheViews.{out-Expr}
use Rattle.vital_nodes.specs.declared.expr.Expr.{Expr}
use Rattle.vital_nodes.specs.declared.identifier.Identifier.{Identifier}
use Rattle.vital_nodes.specs.Layers.{ExprLayer}
use Rattle.vital_nodes.specs.Nodes.{Node, Declaration, Interface, Concurrent, Sequential, Expression, Item, Name}
use Rattle.vital_names.specs.Meanings.{Meaning, meaning}
use Rattle.vital_names.specs.Meanings as meanings
use Rattle.vital_names.specs.Sites.{Cell}
use Rattle.vital_uses.specs.declared.asked.Asked.{Asked as Asked'}
use Rattle.vital_uses.specs.Sited.{SitedNode}

-- An identifier, and what it means at its site, if it means anything.
pub record Asked : Type 0 where
  pub identifier : Identifier
  pub meaning : Option Meaning

-- What is borrowed of it.
abbrev pub lent_asked : Asked' → Asked
lent_asked a = record { identifier = a.identifier.now; meaning = option_map meanings.lent a.meaning }

-- The unit behind a number.
abbrev pub unit_in : ExprLayer → Option Identifier
unit_in (Expr-F.Logical place operator operands) = None
unit_in (Expr-F.Relation r) = None
unit_in (Expr-F.Sum s) = None
unit_in (Expr-F.Product p) = None
unit_in (Expr-F.Not place operand) = None
unit_in (Expr-F.Number place number) = None
unit_in (Expr-F.Physical physical) = Some physical.unit
unit_in (Expr-F.Character place character) = None
unit_in (Expr-F.StringLiteral place text) = None
unit_in (Expr-F.Reference name) = None
unit_in (Expr-F.Parenthesized place is) = None

abbrev pub unit_of : Expr → Option Identifier
unit_of e = unit_in (out-Expr e)

-- The identifier of a node of which it is asked what it means: the first of a name, and the unit behind a number.
abbrev pub identifier_of_node : Node → Option Identifier
identifier_of_node (Declaration d) = None
identifier_of_node (Interface i) = None
identifier_of_node (Concurrent c) = None
identifier_of_node (Sequential s) = None
identifier_of_node (Expression e) = unit_of e
identifier_of_node (Item i) = None
identifier_of_node (Name r) = Some r.identifier

-- What is asked at a node, and at nodes in order.
unfoldable pub asked_at : Cell → SitedNode → Option Asked
asked_at cell v = option_map (λ i. record { identifier = i; meaning = meaning i.name cell v.site }) (identifier_of_node v.node)

abbrev pub asked : Cell → List SitedNode → List Asked
asked cell vs = filter_map (asked_at cell) vs
