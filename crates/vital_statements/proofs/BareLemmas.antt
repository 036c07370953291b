-- Identifiers in parentheses: what stands inside of these is the one part of their one item.
use Rattle.std.proofs.Common.{◌≡◌, ◌<◌, List, [], ◌∷◌, length, map, refl, ◌∙◌, ap, arith, append-nil}
use Rattle.std.specs.Prelude.{Option, Some, None}
use Rattle.vital_nodes.specs.declared.expr.Actual.TheOpen.{Choice-F, Expr-F, Item-F}
use Rattle.vital_nodes.specs.declared.expr.Actual.TheViews.{out-Choice, out-Expr, out-Item}
use Rattle.vital_nodes.specs.declared.expr.Expr.{Expr}
use Rattle.vital_nodes.specs.declared.expr.Item.{Item as Item'}
use Rattle.vital_nodes.specs.declared.identifier.Identifier.{Identifier}
use Rattle.vital_nodes.specs.Layers.{ChoiceLayer, ExprLayer, ItemLayer}
use Rattle.vital_nodes.specs.Nodes.{Node, Expression, Item, items, parts_in_choice, parts_in_expr, parts_in_item, parts_of}
use Rattle.vital_nodes.specs.Walk.{folded, nodes_of, nodes_of_all}
use Rattle.vital_nodes.specs.Items.{positional_in, positional_value, value_in_choice}
use Rattle.vital_nodes.specs.Names.{identifier_of}
use Rattle.vital_statements.specs.Parentheses.{bare_identifier, bare_or, bare_step, first_of, inside, inside_in, only_by_position}

-- ---- the parts of parentheses
choice-is : (c : ChoiceLayer) (inner : Expr) → value_in_choice c ≡ Some inner → parts_in_choice c ≡ Expression inner ∷ []
choice-is (Choice-F.Choice::Value e) inner h = let same : e ≡ inner = cc in ap (λ x. Expression x ∷ []) same
choice-is (Choice-F.Range r) inner h = absurd (cc)

item-is : (i : ItemLayer) (inner : Expr) → positional_in i ≡ Some inner → parts_in_item i ≡ Expression inner ∷ []
item-is (Item-F.Others place e) inner h = absurd (cc)
item-is (Item-F.Item::Open place) inner h = absurd (cc)
item-is (Item-F.Positional c) inner h = choice-is (out-Choice c) inner h
item-is (Item-F.Named a) inner h = absurd (cc)

only-is : (is : List Item') (inner : Expr) → only_by_position is ≡ Some inner → (i : Item') × (is ≡ i ∷ []) × (positional_value i ≡ Some inner)
only-is [] inner h = absurd (cc)
only-is (i ∷ []) inner h = (i, refl, h)
only-is (i ∷ j ∷ others) inner h = absurd (cc)

expr-is : (e : ExprLayer) (inner : Expr) → inside_in e ≡ Some inner → (i : Item') × (parts_in_expr e ≡ Item i ∷ []) × (parts_in_item (out-Item i) ≡ Expression inner ∷ [])
expr-is (Expr-F.Logical place operator operands) inner h = absurd (cc)
expr-is (Expr-F.Relation r) inner h = absurd (cc)
expr-is (Expr-F.Sum s) inner h = absurd (cc)
expr-is (Expr-F.Product p) inner h = absurd (cc)
expr-is (Expr-F.Not place operand) inner h = absurd (cc)
expr-is (Expr-F.Number place number) inner h = absurd (cc)
expr-is (Expr-F.Physical physical) inner h = absurd (cc)
expr-is (Expr-F.Character place character) inner h = absurd (cc)
expr-is (Expr-F.StringLiteral place text) inner h = absurd (cc)
expr-is (Expr-F.Reference name) inner h = absurd (cc)
expr-is (Expr-F.Parenthesized place is) inner h =
    let p : (i : Item') × (is ≡ i ∷ []) × (positional_value i ≡ Some inner) = only-is is inner h in
    (p.0, ap items p.1, item-is (out-Item p.0) inner p.2)

parts-are : (e inner : Expr) → inside e ≡ Some inner → (i : Item') × (parts_of (Expression e) ≡ Item i ∷ []) × (parts_of (Item i) ≡ Expression inner ∷ [])
unfolding parts_of
parts-are e inner h = expr-is (out-Expr e) inner h

-- ---- the walk
abbrev pub WalkLaw : Type 0
WalkLaw = (v : Node) → nodes_of v ≡ v ∷ nodes_of_all (parts_of v)

one-part : WalkLaw → (v w : Node) → parts_of v ≡ w ∷ [] → nodes_of v ≡ v ∷ nodes_of w
one-part law v w are = law v ∙ ap (λ vs. v ∷ nodes_of_all vs) are ∙ ap (λ vs. v ∷ vs) (append-nil (nodes_of w))

pub fewer : WalkLaw → (e inner : Expr) → inside e ≡ Some inner → length (nodes_of (Expression inner)) < length (nodes_of (Expression e))
fewer law e inner h =
    let p : (i : Item') × (parts_of (Expression e) ≡ Item i ∷ []) × (parts_of (Item i) ≡ Expression inner ∷ []) = parts-are e inner h in
    let outer = ap length (one-part law (Expression e) (Item p.0) p.1) in
    let middle = ap length (one-part law (Item p.0) (Expression inner) p.2) in
    omega (arith, outer, middle)

-- ---- the values
abbrev pub ValueLaw : Type 0
ValueLaw = (step : Node → List (Option Identifier) → Option Identifier) (v : Node) → folded step v ≡ step v (map (folded step) (parts_of v))

pub bare-inside : ValueLaw → (e inner : Expr) → inside e ≡ Some inner → bare_identifier e ≡ bare_identifier inner
bare-inside law e inner h =
    let p : (i : Item') × (parts_of (Expression e) ≡ Item i ∷ []) × (parts_of (Item i) ≡ Expression inner ∷ []) = parts-are e inner h in
    law bare_step (Expression e)
    ∙ ap (λ vs. bare_or (inside e) (identifier_of e) (map (folded bare_step) vs)) p.1
    ∙ ap (λ o. bare_or o (identifier_of e) (folded bare_step (Item p.0) ∷ [])) h
    ∙ law bare_step (Item p.0)
    ∙ ap (λ vs. first_of (map (folded bare_step) vs)) p.2

pub bare-at : ValueLaw → (e : Expr) → inside e ≡ None → bare_identifier e ≡ identifier_of e
bare-at law e h =
    law bare_step (Expression e)
    ∙ ap (λ o. bare_or o (identifier_of e) (map (folded bare_step) (parts_of (Expression e)))) h
