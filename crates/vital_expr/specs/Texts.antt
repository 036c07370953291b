-- Expressions that give texts. A text has no effect, so that it is nothing where it is of its form.
use Rattle.std.specs.Prelude.{Bool, true, false, ◌&&◌, is_none, List, [], ◌∷◌, ⊤, if◌then◌else◌}
use Rattle.std.specs.List.{list_all}
use Rattle.vital_base.specs.declared.place.Place.{Place}
use Rattle.vital_nodes.specs.declared.expr.Actual.TheOpen.{Expr-F}
use Rattle.vital_nodes.specs.declared.expr.Adding.{Adding}
use Rattle.vital_nodes.specs.declared.expr.Adding.TheVariants as adding
use Rattle.vital_nodes.specs.declared.expr.Expr.{Expr}
use Rattle.vital_nodes.specs.declared.expr.Item.{Item}
use Rattle.vital_nodes.specs.declared.expr.Sum.{Sum}
use Rattle.vital_nodes.specs.Layers.{ExprLayer}
use Rattle.vital_operands.specs.Items.{is_positional}
use Rattle.vital_expr.specs.Outcomes.{Outcome, broken, map_typed, typed}
use Rattle.vital_expr.specs.Reading.{Reading, first_of, texts_of}

-- A sum has no sign, and `&` alone between its terms.
abbrev pub is_concatenate : Adding → Bool
is_concatenate adding.Add = false
is_concatenate adding.Subtract = false
is_concatenate adding.Concatenate = true

abbrev pub are_joint : List (Adding × Expr) → Bool
are_joint terms = list_all (λ t. is_concatenate t.0) terms

abbrev pub is_joint : Sum → Bool
is_joint s = is_none s.sign && are_joint s.others

-- Terms that are joined: each is a text.
abbrev pub joined : List Reading → Outcome ⊤
joined rs = map_typed (λ ts. tt) (texts_of rs)

abbrev pub text_in_sum : List Place → Sum → List Reading → Outcome ⊤
text_in_sum own s rs = if is_joint s then joined rs else broken own

-- One value by position in parentheses is what is in it.
abbrev pub text_in_item : List Place → Item → Reading → Outcome ⊤
text_in_item own i r = if is_positional i then r.text else broken own

abbrev pub text_in_items : List Place → List Item → List Reading → Outcome ⊤
text_in_items own (i ∷ []) (r ∷ rs) = text_in_item own i r
text_in_items own is rs = broken own

abbrev pub text_in : List Place → List Reading → ExprLayer → Outcome ⊤
text_in own rs (Expr-F.Logical place operator operands) = broken own
text_in own rs (Expr-F.Relation r) = broken own
text_in own rs (Expr-F.Sum s) = text_in_sum own s rs
text_in own rs (Expr-F.Product p) = broken own
text_in own rs (Expr-F.Not place operand) = broken own
text_in own rs (Expr-F.Number place number) = broken own
text_in own rs (Expr-F.Physical physical) = broken own
text_in own rs (Expr-F.Character place character) = broken own
text_in own rs (Expr-F.StringLiteral place text) = typed tt
text_in own rs (Expr-F.Reference name) = (first_of rs).text
text_in own rs (Expr-F.Parenthesized place is) = text_in_items own is rs
