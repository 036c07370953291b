-- What names are made of (IEEE 1076-1993, clause 6).
use Rattle.std.specs.Prelude.{List, [], ◌∷◌, Option, Some, None}
use Rattle.vital_nodes.specs.declared.expr.Actual.TheOpen.{Expr-F, Suffix-F}
use Rattle.vital_nodes.specs.declared.expr.Actual.TheViews.{out-Expr, out-Suffix}
use Rattle.vital_nodes.specs.declared.expr.Expr.{Expr}
use Rattle.vital_nodes.specs.declared.expr.Item.{Item}
use Rattle.vital_nodes.specs.declared.expr.Reference.{Reference}
use Rattle.vital_nodes.specs.declared.expr.Suffix.{Suffix}
use Rattle.vital_nodes.specs.declared.identifier.Identifier.{Identifier}
use Rattle.vital_nodes.specs.Layers.{ExprLayer, SuffixLayer}

-- A suffix as the identifier behind a dot; and whether it is items in parentheses.
abbrev pub selected_in : SuffixLayer → Option Identifier
selected_in (Suffix-F.Selected identifier) = Some identifier
selected_in (Suffix-F.All place) = None
selected_in (Suffix-F.Attribute identifier) = None
selected_in (Suffix-F.Qualified is) = None
selected_in (Suffix-F.Items is) = None

abbrev pub selected : Suffix → Option Identifier
selected s = selected_in (out-Suffix s)

abbrev pub items_in : SuffixLayer → Option (List Item)
items_in (Suffix-F.Selected identifier) = None
items_in (Suffix-F.All place) = None
items_in (Suffix-F.Attribute identifier) = None
items_in (Suffix-F.Qualified is) = None
items_in (Suffix-F.Items is) = Some is

-- The items of a suffix that is items in parentheses.
abbrev pub items_of : Suffix → Option (List Item)
items_of s = items_in (out-Suffix s)

-- The last identifier, where what is left may be one parenthesis alone.
abbrev pub if_at_end : Identifier → Option (List Item) → List Suffix → Option Identifier
if_at_end last (Some is) [] = Some last
if_at_end last (Some is) (s ∷ others) = None
if_at_end last None others = None

-- The last of an identifier and those behind dots, if at most one parenthesis stands behind them and nothing else.
abbrev pub last_from : Identifier → List Suffix → Option Identifier
last_from last [] = Some last
last_from last (s ∷ others) = elim (selected s) as (λ o. Option Identifier) [ None ↦ if_at_end last (items_of s) others | Some next ↦ last_from next others ]

abbrev pub last_identifier : Reference → Option Identifier
last_identifier r = last_from r.identifier r.suffixes

-- The identifier of a name that is an identifier alone.
abbrev pub if_plain : Identifier → List Suffix → Option Identifier
if_plain identifier [] = Some identifier
if_plain identifier (s ∷ others) = None

abbrev pub plain_identifier : Reference → Option Identifier
plain_identifier r = if_plain r.identifier r.suffixes

-- The same of an expression.
abbrev pub identifier_in : ExprLayer → Option Identifier
identifier_in (Expr-F.Logical place operator operands) = None
identifier_in (Expr-F.Relation r) = None
identifier_in (Expr-F.Sum s) = None
identifier_in (Expr-F.Product p) = None
identifier_in (Expr-F.Not place operand) = None
identifier_in (Expr-F.Number place number) = None
identifier_in (Expr-F.Physical physical) = None
identifier_in (Expr-F.Character place character) = None
identifier_in (Expr-F.StringLiteral place text) = None
identifier_in (Expr-F.Reference name) = plain_identifier name
identifier_in (Expr-F.Parenthesized place is) = None

abbrev pub identifier_of : Expr → Option Identifier
identifier_of e = identifier_in (out-Expr e)
