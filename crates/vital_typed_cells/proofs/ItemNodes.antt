-- What holds of all nodes of an expression or a name holds of all nodes of the items in it, and at the identifier that it is.
use Rattle.std.proofs.Common.{Bool, true, false, List, [], ◌∷◌, ◌++◌, Option, Some, None, subst}
use Rattle.std.specs.Prelude.{cond, IfSome}
use Rattle.std.specs.List.{AllByRecursion, flat_map}
use Rattle.std.specs.Option.{option_and_then, option_map}
use Rattle.std.proofs.lemmas.List.{append-nil}
use Rattle.vital_calls.specs.Calls.{items_behind}
use Rattle.vital_nodes.specs.declared.expr.Actual.TheOpen.{Actual-F, Choice-F, Expr-F, Item-F, Suffix-F}
use Rattle.vital_nodes.specs.declared.expr.Actual.TheViews.{out-Actual, out-Choice, out-Expr, out-Item, out-Suffix}
use Rattle.vital_nodes.specs.declared.expr.Expr.{Expr}
use Rattle.vital_nodes.specs.declared.expr.Item.{Item as Item'}
use Rattle.vital_nodes.specs.declared.expr.Reference.{Reference}
use Rattle.vital_nodes.specs.declared.expr.Suffix.{Suffix}
use Rattle.vital_nodes.specs.declared.identifier.Identifier.{Identifier}
use Rattle.vital_nodes.specs.Layers.{ActualLayer, ChoiceLayer, ExprLayer, ItemLayer, SuffixLayer}
use Rattle.vital_nodes.specs.Nodes.{Node, Expression, Item, Name, items, parts_in_actual, parts_in_choice, parts_in_expr, parts_in_item, parts_in_suffix, parts_of, parts_of_suffix}
use Rattle.vital_operands.specs.Calls.{TableActuals, function_named, in_order, is_truth_table, only_items, table_actuals, table_first, table_items}
use Rattle.vital_operands.specs.Positions.{Position}
use Rattle.vital_nodes.specs.Items.{actual, actual_in, items_in_expr, listed_items, positional_in, positional_value, value_in_actual, value_in_choice}
use Rattle.vital_nodes.specs.Names.{identifier_in, identifier_of, if_plain, items_in}
use Rattle.vital_typed_cells.proofs.Nodes.{all-nodes, all-within}
use Rattle.vital_typed_cells.proofs.Outcomes.{if-and-then}
use Rattle.vital_typed_cells.proofs.Closed.{Within}

-- ---- parts

pub here-within : (P : Node → Type 0) (v : Node) → Within P v → P v
here-within P v all = (all-within P v all).0

pub parts-within : (P : Node → Type 0) (v : Node) → Within P v → AllByRecursion (Within P) (parts_of v)
parts-within P v all = all-nodes P (parts_of v) (all-within P v all).1

abbrev pub ItemsWithin : (Node → Type 0) → List Item' → Type 0
ItemsWithin P is = AllByRecursion (λ i. Within P (Item i)) is

each-item : (P : Node → Type 0) (is : List Item') → AllByRecursion (Within P) (items is) → ItemsWithin P is
each-item P [] all = tt
each-item P (i ∷ is) all = (all.0, each-item P is all.1)

-- ---- lists in parentheses

layer-items : (P : Node → Type 0) (l : ExprLayer) → AllByRecursion (Within P) (parts_in_expr l) → IfSome (items_in_expr l) (ItemsWithin P)
layer-items P (Expr-F.Logical place operator operands) all = tt
layer-items P (Expr-F.Relation r) all = tt
layer-items P (Expr-F.Sum s) all = tt
layer-items P (Expr-F.Product p) all = tt
layer-items P (Expr-F.Not place operand) all = tt
layer-items P (Expr-F.Number place number) all = tt
layer-items P (Expr-F.Physical physical) all = tt
layer-items P (Expr-F.Character place character) all = tt
layer-items P (Expr-F.StringLiteral place text) all = tt
layer-items P (Expr-F.Reference name) all = tt
layer-items P (Expr-F.Parenthesized place is) all = each-item P is all

pub listed-within : (P : Node → Type 0) (e : Expr) → Within P (Expression e) → IfSome (listed_items e) (ItemsWithin P)
unfolding parts_of
listed-within P e all = layer-items P (out-Expr e) (parts-within P (Expression e) all)

choice-within : (P : Node → Type 0) (l : ChoiceLayer) → AllByRecursion (Within P) (parts_in_choice l) → IfSome (value_in_choice l) (λ e. Within P (Expression e))
choice-within P (Choice-F.Choice::Value e) all = all.0
choice-within P (Choice-F.Range r) all = tt

given-within : (P : Node → Type 0) (l : ActualLayer) → AllByRecursion (Within P) (parts_in_actual l) → IfSome (value_in_actual l) (λ e. Within P (Expression e))
given-within P (Actual-F.Actual::Value e) all = all.0
given-within P (Actual-F.Actual::Open place) all = tt

layer-positional : (P : Node → Type 0) (l : ItemLayer) → AllByRecursion (Within P) (parts_in_item l) → IfSome (positional_in l) (λ e. Within P (Expression e))
layer-positional P (Item-F.Others place e) all = tt
layer-positional P (Item-F.Item::Open place) all = tt
layer-positional P (Item-F.Positional c) all = choice-within P (out-Choice c) all
layer-positional P (Item-F.Named a) all = tt

pub positional-within : (P : Node → Type 0) (i : Item') → Within P (Item i) → IfSome (positional_value i) (λ e. Within P (Expression e))
unfolding parts_of
positional-within P i all = layer-positional P (out-Item i) (parts-within P (Item i) all)

layer-actual : (P : Node → Type 0) (l : ItemLayer) → AllByRecursion (Within P) (parts_in_item l) → IfSome (actual_in l) (λ e. Within P (Expression e))
layer-actual P (Item-F.Others place e) all = all.0
layer-actual P (Item-F.Item::Open place) all = tt
layer-actual P (Item-F.Positional c) all = choice-within P (out-Choice c) all
layer-actual P (Item-F.Named a) all = given-within P (out-Actual a.actual) all

pub actual-within : (P : Node → Type 0) (i : Item') → Within P (Item i) → IfSome (actual i) (λ e. Within P (Expression e))
unfolding parts_of
actual-within P i all = layer-actual P (out-Item i) (parts-within P (Item i) all)

-- ---- identifiers

-- What holds at a name holds of its identifier.
abbrev pub OfNames : (Node → Type 0) → (Identifier → Type 0) → Type 0
OfNames P Q = (r : Reference) → P (Name r) → Q r.identifier

plain-within : (Q : Identifier → Type 0) (i : Identifier) (ss : List Suffix) → Q i → IfSome (if_plain i ss) Q
plain-within Q i [] holds = holds
plain-within Q i (t ∷ ss) holds = tt

layer-identifier : (P : Node → Type 0) (Q : Identifier → Type 0) (l : ExprLayer) → OfNames P Q → AllByRecursion (Within P) (parts_in_expr l) → IfSome (identifier_in l) Q
layer-identifier P Q (Expr-F.Logical place operator operands) named all = tt
layer-identifier P Q (Expr-F.Relation r) named all = tt
layer-identifier P Q (Expr-F.Sum s) named all = tt
layer-identifier P Q (Expr-F.Product p) named all = tt
layer-identifier P Q (Expr-F.Not place operand) named all = tt
layer-identifier P Q (Expr-F.Number place number) named all = tt
layer-identifier P Q (Expr-F.Physical physical) named all = tt
layer-identifier P Q (Expr-F.Character place character) named all = tt
layer-identifier P Q (Expr-F.StringLiteral place text) named all = tt
layer-identifier P Q (Expr-F.Reference name) named all = plain-within Q name.identifier name.suffixes (named name (here-within P (Name name) all.0))
layer-identifier P Q (Expr-F.Parenthesized place is) named all = tt

pub identifier-within : (P : Node → Type 0) (Q : Identifier → Type 0) (e : Expr) → OfNames P Q → Within P (Expression e) → IfSome (identifier_of e) Q
unfolding parts_of
identifier-within P Q e named all = layer-identifier P Q (out-Expr e) named (parts-within P (Expression e) all)

-- ---- calls of VitalTruthTable

suffix-items : (P : Node → Type 0) (l : SuffixLayer) → AllByRecursion (Within P) (parts_in_suffix l ++ []) → IfSome (items_in l) (ItemsWithin P)
suffix-items P (Suffix-F.Selected identifier) all = tt
suffix-items P (Suffix-F.All place) all = tt
suffix-items P (Suffix-F.Attribute identifier) all = tt
suffix-items P (Suffix-F.Qualified is) all = tt
suffix-items P (Suffix-F.Items is) all = each-item P is (subst (AllByRecursion (Within P)) (append-nil (items is)) all)

only-within : (P : Node → Type 0) (ss : List Suffix) → AllByRecursion (Within P) (flat_map parts_of_suffix ss) → IfSome (only_items ss) (ItemsWithin P)
only-within P [] all = tt
only-within P (t ∷ []) all = suffix-items P (out-Suffix t) all
only-within P (t ∷ u ∷ ss) all = tt

if-call : (P : Node → Type 0) (b : Bool) (o : Option (List Item')) → IfSome o (ItemsWithin P) → IfSome (cond b o None) (ItemsWithin P)
if-call P true o all = all
if-call P false o all = tt

call-items : (P : Node → Type 0) (p : Position) (r : Reference) → Within P (Name r) → IfSome (table_items p r) (ItemsWithin P)
unfolding parts_of
call-items P p r all = if-call P (is_truth_table (function_named p r.identifier)) (only_items r.suffixes) (only-within P r.suffixes (parts-within P (Name r) all))

-- The table that is given.
abbrev pub TableWithin : (Node → Type 0) → TableActuals → Type 0
TableWithin P a = Within P (Expression a.table)

both-within : (P : Node → Type 0) (o q : Option Expr) → IfSome o (λ e. Within P (Expression e))
    → IfSome (option_and_then (λ table. option_map (λ inputs. record { table = table; inputs = inputs }) q) o) (TableWithin P)
both-within P None q all = tt
both-within P (Some e) None all = tt
both-within P (Some e) (Some g) all = all

ordered-within : (P : Node → Type 0) (o : Option Bool) (i j : Item') → Within P (Item i) → Within P (Item j) → IfSome (option_and_then (in_order i j) o) (TableWithin P)
ordered-within P None i j first second = tt
ordered-within P (Some true) i j first second = both-within P (actual i) (actual j) (actual-within P i first)
ordered-within P (Some false) i j first second = both-within P (actual j) (actual i) (actual-within P j second)

actuals-within : (P : Node → Type 0) (is : List Item') → ItemsWithin P is → IfSome (table_actuals is) (TableWithin P)
actuals-within P [] all = tt
actuals-within P (i ∷ []) all = tt
actuals-within P (i ∷ j ∷ []) all = ordered-within P (table_first (i ∷ j ∷ [])) i j all.0 all.1.0
actuals-within P (i ∷ j ∷ k ∷ is) all = tt

pub call-within : (P : Node → Type 0) (p : Position) (r : Reference) → Within P (Name r) → IfSome (option_and_then table_actuals (table_items p r)) (TableWithin P)
call-within P p r all = if-and-then (ItemsWithin P) (TableWithin P) table_actuals (table_items p r) (call-items P p r all) (actuals-within P)

-- ---- calls that are statements

suffixes-within : (P : Node → Type 0) (ss : List Suffix) → AllByRecursion (Within P) (flat_map parts_of_suffix ss) → IfSome (items_behind ss) (ItemsWithin P)
suffixes-within P [] all = tt
suffixes-within P (t ∷ []) all = suffix-items P (out-Suffix t) all
suffixes-within P (t ∷ u ∷ ss) all = tt

pub items-behind : (P : Node → Type 0) (r : Reference) → Within P (Name r) → IfSome (items_behind r.suffixes) (ItemsWithin P)
unfolding parts_of
items-behind P r all = suffixes-within P r.suffixes (parts-within P (Name r) all)
