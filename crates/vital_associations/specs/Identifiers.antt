-- The identifiers in values and ranges (IEEE 1076-1993, clauses 6 and 7).
use Rattle.std.specs.Prelude.{ℕ, zero, suc, List, [], ◌∷◌, ◌++◌, Option, Some, None}
use Rattle.std.specs.List.{filter_map, flat_map}
use Rattle.std.specs.Option.{option_map_or}
use Rattle.vital_nodes.specs.declared.expr.Actual.TheOpen.{Expr-F, Suffix-F}
use Rattle.vital_nodes.specs.declared.expr.Actual.TheViews.{out-Choice, out-Expr, out-Suffix}
use Rattle.vital_nodes.specs.declared.expr.Choice.{Choice}
use Rattle.vital_nodes.specs.declared.expr.Expr.{Expr}
use Rattle.vital_nodes.specs.declared.expr.Item.{Item as Item'}
use Rattle.vital_nodes.specs.declared.expr.Suffix.{Suffix}
use Rattle.vital_nodes.specs.declared.identifier.Identifier.{Identifier}
use Rattle.vital_nodes.specs.Layers.{ExprLayer, SuffixLayer}
use Rattle.vital_nodes.specs.Nodes.{Node, Declaration, Interface, Concurrent, Sequential, Expression, Item, Name, parts_in_choice}
use Rattle.vital_nodes.specs.Walk.{nodes_of_all}
use Rattle.vital_nodes.specs.Items.{formal}

-- ---- the identifiers of a node itself

-- The identifier behind a dot or a tick.
abbrev pub identifier_in_suffix : SuffixLayer → Option Identifier
identifier_in_suffix (Suffix-F.Selected identifier) = Some identifier
identifier_in_suffix (Suffix-F.All place) = None
identifier_in_suffix (Suffix-F.Attribute identifier) = Some identifier
identifier_in_suffix (Suffix-F.Qualified is) = None
identifier_in_suffix (Suffix-F.Items is) = None

abbrev pub identifier_of_suffix : Suffix → Option Identifier
identifier_of_suffix s = identifier_in_suffix (out-Suffix s)

-- The unit behind a number.
abbrev pub unit_in : ExprLayer → List Identifier
unit_in (Expr-F.Logical place operator operands) = []
unit_in (Expr-F.Relation r) = []
unit_in (Expr-F.Sum s) = []
unit_in (Expr-F.Product p) = []
unit_in (Expr-F.Not place operand) = []
unit_in (Expr-F.Number place number) = []
unit_in (Expr-F.Physical physical) = physical.unit ∷ []
unit_in (Expr-F.Character place character) = []
unit_in (Expr-F.StringLiteral place text) = []
unit_in (Expr-F.Reference name) = []
unit_in (Expr-F.Parenthesized place is) = []

abbrev pub unit_of : Expr → List Identifier
unit_of e = unit_in (out-Expr e)

abbrev pub identifiers_of_node : Node → List Identifier
identifiers_of_node (Declaration d) = []
identifiers_of_node (Interface i) = []
identifiers_of_node (Concurrent c) = []
identifiers_of_node (Sequential s) = []
identifiers_of_node (Expression e) = unit_of e
identifiers_of_node (Item i) = []
identifiers_of_node (Name r) = r.identifier ∷ filter_map identifier_of_suffix r.suffixes

-- ---- the identifiers in nodes

-- A value or the bounds of a range.
abbrev pub parts_of_choice : Choice → List Node
parts_of_choice c = parts_in_choice (out-Choice c)

-- What stands before `=>` in an item, which is no part of a node.
abbrev pub parts_of_formal : Item' → List Node
parts_of_formal i = option_map_or parts_of_choice (formal i) []

abbrev pub formal_parts : Node → List Node
formal_parts (Declaration d) = []
formal_parts (Interface i) = []
formal_parts (Concurrent c) = []
formal_parts (Sequential s) = []
formal_parts (Expression e) = []
formal_parts (Item i) = parts_of_formal i
formal_parts (Name r) = []

-- The identifiers in nodes with all that they hold, and then those in what stands before `=>` there, down to so many levels.
unfoldable pub identifiers_to : ℕ → List Node → List Identifier
identifiers_to zero vs = []
identifiers_to (suc levels) vs = flat_map identifiers_of_node (nodes_of_all vs) ++ identifiers_to levels (flat_map formal_parts (nodes_of_all vs))

-- No more parentheses than these are open in a text, so that nothing stands deeper.
abbrev pub most_nested : ℕ
most_nested = 64

abbrev pub identifiers_in : List Node → List Identifier
identifiers_in vs = identifiers_to most_nested vs

abbrev pub identifiers_of_choice : Choice → List Identifier
identifiers_of_choice c = identifiers_in (parts_of_choice c)

abbrev pub identifiers_of_expr : Expr → List Identifier
identifiers_of_expr e = identifiers_in (Expression e ∷ [])
