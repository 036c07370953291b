-- Identifiers in parentheses.
use Rattle.std.specs.Prelude.{List, [], ◌∷◌, Option, Some, None}
use Rattle.vital_nodes.specs.declared.expr.Actual.TheOpen.{Expr-F}
use Rattle.vital_nodes.specs.declared.expr.Actual.TheViews.{out-Expr}
use Rattle.vital_nodes.specs.declared.expr.Expr.{Expr}
use Rattle.vital_nodes.specs.declared.expr.Item.{Item as Item'}
use Rattle.vital_nodes.specs.declared.identifier.Identifier.{Identifier}
use Rattle.vital_nodes.specs.Layers.{ExprLayer}
use Rattle.vital_nodes.specs.Nodes.{Node, Declaration, Interface, Concurrent, Sequential, Expression, Item, Name}
use Rattle.vital_nodes.specs.Walk.{folded}
use Rattle.vital_nodes.specs.Items.{positional_value}
use Rattle.vital_nodes.specs.Names.{identifier_of}

-- The only item, if it is an expression by position.
abbrev pub only_by_position : List Item' → Option Expr
only_by_position [] = None
only_by_position (i ∷ []) = positional_value i
only_by_position (i ∷ j ∷ others) = None

abbrev pub inside_in : ExprLayer → Option Expr
inside_in (Expr-F.Logical place operator operands) = None
inside_in (Expr-F.Relation r) = None
inside_in (Expr-F.Sum s) = None
inside_in (Expr-F.Product p) = None
inside_in (Expr-F.Not place operand) = None
inside_in (Expr-F.Number place number) = None
inside_in (Expr-F.Physical physical) = None
inside_in (Expr-F.Character place character) = None
inside_in (Expr-F.StringLiteral place text) = None
inside_in (Expr-F.Reference name) = None
inside_in (Expr-F.Parenthesized place is) = only_by_position is

-- What stands inside of parentheses.
abbrev pub inside : Expr → Option Expr
inside e = inside_in (out-Expr e)

-- The identifier of a node, made of those of its parts: parentheses have that of what stands inside of them.
abbrev pub first_of : List (Option Identifier) → Option Identifier
first_of [] = None
first_of (one ∷ others) = one

abbrev pub bare_or : Option Expr → Option Identifier → List (Option Identifier) → Option Identifier
bare_or None identifier parts = identifier
bare_or (Some inner) identifier parts = first_of parts

abbrev pub bare_step : Node → List (Option Identifier) → Option Identifier
bare_step (Declaration d) parts = None
bare_step (Interface i) parts = None
bare_step (Concurrent c) parts = None
bare_step (Sequential s) parts = None
bare_step (Expression e) parts = bare_or (inside e) (identifier_of e) parts
bare_step (Item i) parts = first_of parts
bare_step (Name r) parts = None

-- The identifier that an expression is, in any number of parentheses or in none.
abbrev pub bare_identifier : Expr → Option Identifier
bare_identifier e = folded bare_step (Expression e)
