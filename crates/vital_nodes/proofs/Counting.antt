-- The count of a node is one more than the counts of its parts together.
use Rattle.std.proofs.Common.{◌≡◌, ℕ, ◌+◌, List, [], ◌∷◌, ◌++◌, map, refl, ap, sym, ◌∙◌, arith, Option, Some, None, Bool, true, false, if◌then◌else◌}
use Rattle.std.specs.List.{flat_map}
use Rattle.vital_nodes.specs.declared.decl.Decl.{Decl}
use Rattle.vital_nodes.specs.declared.decl.Decl.TheVariants as decl
use Rattle.vital_nodes.specs.declared.decl.Iface.{Iface}
use Rattle.vital_nodes.specs.declared.decl.Subtype.{Subtype}
use Rattle.vital_nodes.specs.declared.expr.Actual.{Actual}
use Rattle.vital_nodes.specs.declared.expr.Actual.TheFolds.{fold-Actual, fold-Association, fold-Choice, fold-Product, fold-Relation, fold-Suffix, fold-Sum, fold-roll-Actual, fold-roll-Choice, fold-roll-Expr, fold-roll-Item, fold-roll-Suffix, fold_out-Association, fold_out-Product, fold_out-Range, fold_out-Reference, fold_out-Relation, fold_out-Sum}
use Rattle.vital_nodes.specs.declared.expr.Actual.TheOpen.{Actual-F, Choice-F, Expr-F, Item-F, Suffix-F}
use Rattle.vital_nodes.specs.declared.expr.Actual.TheViews.{out-Actual, out-Choice, out-Expr, out-Item, out-Suffix, roll-Actual, roll-Choice, roll-Expr, roll-Item, roll-Suffix, roll-out-Actual, roll-out-Choice, roll-out-Expr, roll-out-Item, roll-out-Suffix}
use Rattle.vital_nodes.specs.declared.expr.Association.{Association}
use Rattle.vital_nodes.specs.declared.expr.Choice.{Choice}
use Rattle.vital_nodes.specs.declared.expr.Expr.{Expr}
use Rattle.vital_nodes.specs.declared.expr.Item.{Item as Item'}
use Rattle.vital_nodes.specs.declared.expr.Product.{Product}
use Rattle.vital_nodes.specs.declared.expr.Range.{Range}
use Rattle.vital_nodes.specs.declared.expr.Reference.{Reference}
use Rattle.vital_nodes.specs.declared.expr.Relation.{Relation}
use Rattle.vital_nodes.specs.declared.expr.Suffix.{Suffix}
use Rattle.vital_nodes.specs.declared.expr.Sum.{Sum}
use Rattle.vital_nodes.specs.declared.stmt.Block.{Block}
use Rattle.vital_nodes.specs.declared.stmt.Branch.{Branch}
use Rattle.vital_nodes.specs.declared.stmt.Conc.{Conc}
use Rattle.vital_nodes.specs.declared.stmt.Conc.TheFolds.{fold-Block, fold-roll-Conc, fold_out-Block}
use Rattle.vital_nodes.specs.declared.stmt.Conc.TheOpen.{Conc-F}
use Rattle.vital_nodes.specs.declared.stmt.Conc.TheViews.{out-Conc, roll-Conc, roll-out-Conc}
use Rattle.vital_nodes.specs.declared.stmt.If.{If}
use Rattle.vital_nodes.specs.declared.stmt.Instance.{Instance}
use Rattle.vital_nodes.specs.declared.stmt.SignalAssignment.{SignalAssignment}
use Rattle.vital_nodes.specs.declared.stmt.Stmt.{Stmt}
use Rattle.vital_nodes.specs.declared.stmt.Stmt.TheFolds.{fold-Branch, fold-If, fold-roll-Stmt, fold-roll-If, fold_out-Branch}
use Rattle.vital_nodes.specs.declared.stmt.Stmt.TheOpen.{Stmt-F}
use Rattle.vital_nodes.specs.declared.stmt.Stmt.TheViews.{out-If, out-Stmt, roll-If, roll-Stmt, roll-out-If, roll-out-Stmt}
use Rattle.vital_nodes.specs.Counts.{actual_step, association_step, block_step, branch_step, choice_step, conc_step, count_if_there, count_of, count_of_conc, count_of_decl, count_of_expr, count_of_iface, count_of_instance, count_of_item, count_of_name, count_of_range, count_of_signal_assignment, count_of_stmt, count_of_subtype, expr_step, if_step, item_step, name_step, product_step, range_step, relation_step, stmt_step, suffix_step, sum_step, total}
use Rattle.vital_nodes.specs.Layers.{ActualLayer, ChoiceLayer, ConcLayer, ExprLayer, ItemLayer, StmtLayer, SuffixLayer}
use Rattle.vital_nodes.specs.Nodes.{Node, Declaration, Interface, Concurrent, Sequential, Expression, Item, Name, concurrents, declarations, expression_if_there, interfaces, items, names, parts_in_actual, parts_in_choice, parts_in_conc, parts_in_expr, parts_in_item, parts_in_stmt, parts_in_suffix, parts_of, parts_of_branch, parts_of_decl, parts_of_if, parts_of_iface, parts_of_instance, parts_of_name, parts_of_range, parts_of_signal_assignment, parts_of_subtype, parts_of_suffix, range_if_there, sequentials, statements_if_there, subtype_if_there}

-- ---- lists of nodes

abbrev pub weight : List Node → ℕ
weight vs = total (map count_of vs)

pub weight-append : (us vs : List Node) → weight (us ++ vs) ≡ weight us + weight vs
weight-append [] vs = omega arith
weight-append (u ∷ us) vs = omega (arith, weight-append us vs)

weight-map : {A : Type 0} (f : A → Node) (xs : List A) → total (map (λ x. count_of (f x)) xs) ≡ weight (map f xs)
weight-map f [] = refl
weight-map f (x ∷ xs) = ap (λ n. count_of (f x) + n) (weight-map f xs)

weight-seconds : {A B : Type 0} (f : B → Node) (xs : List (A × B)) → total (map (λ (y : A × ℕ). y.1) (map (λ (x : A × B). (x.0, count_of (f x.1))) xs)) ≡ weight (map (λ (x : A × B). f x.1) xs)
weight-seconds f [] = refl
weight-seconds f (x ∷ xs) = ap (λ n. count_of (f x.1) + n) (weight-seconds f xs)

weight-flat : {A : Type 0} (count : A → ℕ) (f : A → List Node) → ((x : A) → count x ≡ weight (f x)) → (xs : List A) → total (map count xs) ≡ weight (flat_map f xs)
weight-flat count f is [] = refl
weight-flat count f is (x ∷ xs) = omega (arith, is x, weight-flat count f is xs, weight-append (f x) (flat_map f xs))

expression-there : (o : Option Expr) → count_if_there count_of_expr o ≡ weight (expression_if_there o)
expression-there None = refl
expression-there (Some e) = omega arith

-- ---- expressions, items and names

abbrev count-relation : Relation → ℕ
count-relation = fold-Relation ℕ ℕ ℕ ℕ ℕ ℕ ℕ ℕ ℕ ℕ ℕ actual_step choice_step expr_step item_step suffix_step association_step product_step range_step name_step relation_step sum_step

abbrev count-sum : Sum → ℕ
count-sum = fold-Sum ℕ ℕ ℕ ℕ ℕ ℕ ℕ ℕ ℕ ℕ ℕ actual_step choice_step expr_step item_step suffix_step association_step product_step range_step name_step relation_step sum_step

abbrev count-product : Product → ℕ
count-product = fold-Product ℕ ℕ ℕ ℕ ℕ ℕ ℕ ℕ ℕ ℕ ℕ actual_step choice_step expr_step item_step suffix_step association_step product_step range_step name_step relation_step sum_step

abbrev count-choice : Choice → ℕ
count-choice = fold-Choice ℕ ℕ ℕ ℕ ℕ ℕ ℕ ℕ ℕ ℕ ℕ actual_step choice_step expr_step item_step suffix_step association_step product_step range_step name_step relation_step sum_step

abbrev count-actual : Actual → ℕ
count-actual = fold-Actual ℕ ℕ ℕ ℕ ℕ ℕ ℕ ℕ ℕ ℕ ℕ actual_step choice_step expr_step item_step suffix_step association_step product_step range_step name_step relation_step sum_step

abbrev count-association : Association → ℕ
count-association = fold-Association ℕ ℕ ℕ ℕ ℕ ℕ ℕ ℕ ℕ ℕ ℕ actual_step choice_step expr_step item_step suffix_step association_step product_step range_step name_step relation_step sum_step

abbrev count-suffix : Suffix → ℕ
count-suffix = fold-Suffix ℕ ℕ ℕ ℕ ℕ ℕ ℕ ℕ ℕ ℕ ℕ actual_step choice_step expr_step item_step suffix_step association_step product_step range_step name_step relation_step sum_step

relation-count : (r : Relation) → count-relation r ≡ count_of_expr r.left + count_of_expr r.right
relation-count r = fold_out-Relation ℕ ℕ ℕ ℕ ℕ ℕ ℕ ℕ ℕ ℕ ℕ actual_step choice_step expr_step item_step suffix_step association_step product_step range_step name_step relation_step sum_step r

sum-count : (s : Sum) → count-sum s ≡ count_of_expr s.first + weight (map (λ term. Expression term.1) s.others)
sum-count s = fold_out-Sum ℕ ℕ ℕ ℕ ℕ ℕ ℕ ℕ ℕ ℕ ℕ actual_step choice_step expr_step item_step suffix_step association_step product_step range_step name_step relation_step sum_step s ∙ ap (λ n. count_of_expr s.first + n) (weight-seconds (λ e. Expression e) s.others)

product-count : (p : Product) → count-product p ≡ count_of_expr p.first + weight (map (λ factor. Expression factor.1) p.others)
product-count p = fold_out-Product ℕ ℕ ℕ ℕ ℕ ℕ ℕ ℕ ℕ ℕ ℕ actual_step choice_step expr_step item_step suffix_step association_step product_step range_step name_step relation_step sum_step p ∙ ap (λ n. count_of_expr p.first + n) (weight-seconds (λ e. Expression e) p.others)

range-count : (r : Range) → count_of_range r ≡ weight (parts_of_range r)
range-count r = fold_out-Range ℕ ℕ ℕ ℕ ℕ ℕ ℕ ℕ ℕ ℕ ℕ actual_step choice_step expr_step item_step suffix_step association_step product_step range_step name_step relation_step sum_step r ∙ omega arith

expr-count-roll : (l : ExprLayer) → count_of_expr (roll-Expr l) ≡ 1 + weight (parts_in_expr l)
expr-count-roll (Expr-F.Logical p o es) = fold-roll-Expr ℕ ℕ ℕ ℕ ℕ ℕ ℕ ℕ ℕ ℕ ℕ actual_step choice_step expr_step item_step suffix_step association_step product_step range_step name_step relation_step sum_step (Expr-F.Logical p o es) ∙ ap (λ n. 1 + n) (weight-map (λ e. Expression e) es)
expr-count-roll (Expr-F.Relation r) = fold-roll-Expr ℕ ℕ ℕ ℕ ℕ ℕ ℕ ℕ ℕ ℕ ℕ actual_step choice_step expr_step item_step suffix_step association_step product_step range_step name_step relation_step sum_step (Expr-F.Relation r) ∙ omega (arith, relation-count r)
expr-count-roll (Expr-F.Sum s) = fold-roll-Expr ℕ ℕ ℕ ℕ ℕ ℕ ℕ ℕ ℕ ℕ ℕ actual_step choice_step expr_step item_step suffix_step association_step product_step range_step name_step relation_step sum_step (Expr-F.Sum s) ∙ ap (λ n. 1 + n) (sum-count s)
expr-count-roll (Expr-F.Product p) = fold-roll-Expr ℕ ℕ ℕ ℕ ℕ ℕ ℕ ℕ ℕ ℕ ℕ actual_step choice_step expr_step item_step suffix_step association_step product_step range_step name_step relation_step sum_step (Expr-F.Product p) ∙ ap (λ n. 1 + n) (product-count p)
expr-count-roll (Expr-F.Not p e) = fold-roll-Expr ℕ ℕ ℕ ℕ ℕ ℕ ℕ ℕ ℕ ℕ ℕ actual_step choice_step expr_step item_step suffix_step association_step product_step range_step name_step relation_step sum_step (Expr-F.Not p e) ∙ omega arith
expr-count-roll (Expr-F.Number p n) = fold-roll-Expr ℕ ℕ ℕ ℕ ℕ ℕ ℕ ℕ ℕ ℕ ℕ actual_step choice_step expr_step item_step suffix_step association_step product_step range_step name_step relation_step sum_step (Expr-F.Number p n)
expr-count-roll (Expr-F.Physical p) = fold-roll-Expr ℕ ℕ ℕ ℕ ℕ ℕ ℕ ℕ ℕ ℕ ℕ actual_step choice_step expr_step item_step suffix_step association_step product_step range_step name_step relation_step sum_step (Expr-F.Physical p)
expr-count-roll (Expr-F.Character p c) = fold-roll-Expr ℕ ℕ ℕ ℕ ℕ ℕ ℕ ℕ ℕ ℕ ℕ actual_step choice_step expr_step item_step suffix_step association_step product_step range_step name_step relation_step sum_step (Expr-F.Character p c)
expr-count-roll (Expr-F.StringLiteral p t) = fold-roll-Expr ℕ ℕ ℕ ℕ ℕ ℕ ℕ ℕ ℕ ℕ ℕ actual_step choice_step expr_step item_step suffix_step association_step product_step range_step name_step relation_step sum_step (Expr-F.StringLiteral p t)
expr-count-roll (Expr-F.Reference r) = fold-roll-Expr ℕ ℕ ℕ ℕ ℕ ℕ ℕ ℕ ℕ ℕ ℕ actual_step choice_step expr_step item_step suffix_step association_step product_step range_step name_step relation_step sum_step (Expr-F.Reference r) ∙ omega arith
expr-count-roll (Expr-F.Parenthesized p is) = fold-roll-Expr ℕ ℕ ℕ ℕ ℕ ℕ ℕ ℕ ℕ ℕ ℕ actual_step choice_step expr_step item_step suffix_step association_step product_step range_step name_step relation_step sum_step (Expr-F.Parenthesized p is) ∙ ap (λ n. 1 + n) (weight-map (λ i. Item i) is)

choice-count-roll : (l : ChoiceLayer) → count-choice (roll-Choice l) ≡ weight (parts_in_choice l)
choice-count-roll (Choice-F.Choice::Value e) = fold-roll-Choice ℕ ℕ ℕ ℕ ℕ ℕ ℕ ℕ ℕ ℕ ℕ actual_step choice_step expr_step item_step suffix_step association_step product_step range_step name_step relation_step sum_step (Choice-F.Choice::Value e) ∙ omega arith
choice-count-roll (Choice-F.Range r) = fold-roll-Choice ℕ ℕ ℕ ℕ ℕ ℕ ℕ ℕ ℕ ℕ ℕ actual_step choice_step expr_step item_step suffix_step association_step product_step range_step name_step relation_step sum_step (Choice-F.Range r) ∙ range-count r

actual-count-roll : (l : ActualLayer) → count-actual (roll-Actual l) ≡ weight (parts_in_actual l)
actual-count-roll (Actual-F.Actual::Value e) = fold-roll-Actual ℕ ℕ ℕ ℕ ℕ ℕ ℕ ℕ ℕ ℕ ℕ actual_step choice_step expr_step item_step suffix_step association_step product_step range_step name_step relation_step sum_step (Actual-F.Actual::Value e) ∙ omega arith
actual-count-roll (Actual-F.Actual::Open p) = fold-roll-Actual ℕ ℕ ℕ ℕ ℕ ℕ ℕ ℕ ℕ ℕ ℕ actual_step choice_step expr_step item_step suffix_step association_step product_step range_step name_step relation_step sum_step (Actual-F.Actual::Open p)

choice-count : (c : Choice) → count-choice c ≡ weight (parts_in_choice (out-Choice c))
choice-count c = ap count-choice (sym (roll-out-Choice c)) ∙ choice-count-roll (out-Choice c)

actual-count : (a : Actual) → count-actual a ≡ weight (parts_in_actual (out-Actual a))
actual-count a = ap count-actual (sym (roll-out-Actual a)) ∙ actual-count-roll (out-Actual a)

association-count : (a : Association) → count-association a ≡ count-actual a.actual
association-count a = fold_out-Association ℕ ℕ ℕ ℕ ℕ ℕ ℕ ℕ ℕ ℕ ℕ actual_step choice_step expr_step item_step suffix_step association_step product_step range_step name_step relation_step sum_step a

item-count-roll : (l : ItemLayer) → count_of_item (roll-Item l) ≡ 1 + weight (parts_in_item l)
item-count-roll (Item-F.Others p e) = fold-roll-Item ℕ ℕ ℕ ℕ ℕ ℕ ℕ ℕ ℕ ℕ ℕ actual_step choice_step expr_step item_step suffix_step association_step product_step range_step name_step relation_step sum_step (Item-F.Others p e) ∙ omega arith
item-count-roll (Item-F.Item::Open p) = fold-roll-Item ℕ ℕ ℕ ℕ ℕ ℕ ℕ ℕ ℕ ℕ ℕ actual_step choice_step expr_step item_step suffix_step association_step product_step range_step name_step relation_step sum_step (Item-F.Item::Open p)
item-count-roll (Item-F.Positional c) = fold-roll-Item ℕ ℕ ℕ ℕ ℕ ℕ ℕ ℕ ℕ ℕ ℕ actual_step choice_step expr_step item_step suffix_step association_step product_step range_step name_step relation_step sum_step (Item-F.Positional c) ∙ ap (λ n. 1 + n) (choice-count c)
item-count-roll (Item-F.Named a) = fold-roll-Item ℕ ℕ ℕ ℕ ℕ ℕ ℕ ℕ ℕ ℕ ℕ actual_step choice_step expr_step item_step suffix_step association_step product_step range_step name_step relation_step sum_step (Item-F.Named a) ∙ ap (λ n. 1 + n) (association-count a ∙ actual-count a.actual)

suffix-count-roll : (l : SuffixLayer) → count-suffix (roll-Suffix l) ≡ weight (parts_in_suffix l)
suffix-count-roll (Suffix-F.Selected i) = fold-roll-Suffix ℕ ℕ ℕ ℕ ℕ ℕ ℕ ℕ ℕ ℕ ℕ actual_step choice_step expr_step item_step suffix_step association_step product_step range_step name_step relation_step sum_step (Suffix-F.Selected i)
suffix-count-roll (Suffix-F.All p) = fold-roll-Suffix ℕ ℕ ℕ ℕ ℕ ℕ ℕ ℕ ℕ ℕ ℕ actual_step choice_step expr_step item_step suffix_step association_step product_step range_step name_step relation_step sum_step (Suffix-F.All p)
suffix-count-roll (Suffix-F.Attribute i) = fold-roll-Suffix ℕ ℕ ℕ ℕ ℕ ℕ ℕ ℕ ℕ ℕ ℕ actual_step choice_step expr_step item_step suffix_step association_step product_step range_step name_step relation_step sum_step (Suffix-F.Attribute i)
suffix-count-roll (Suffix-F.Qualified is) = fold-roll-Suffix ℕ ℕ ℕ ℕ ℕ ℕ ℕ ℕ ℕ ℕ ℕ actual_step choice_step expr_step item_step suffix_step association_step product_step range_step name_step relation_step sum_step (Suffix-F.Qualified is) ∙ weight-map (λ i. Item i) is
suffix-count-roll (Suffix-F.Items is) = fold-roll-Suffix ℕ ℕ ℕ ℕ ℕ ℕ ℕ ℕ ℕ ℕ ℕ actual_step choice_step expr_step item_step suffix_step association_step product_step range_step name_step relation_step sum_step (Suffix-F.Items is) ∙ weight-map (λ i. Item i) is

suffix-count : (s : Suffix) → count-suffix s ≡ weight (parts_of_suffix s)
suffix-count s = ap count-suffix (sym (roll-out-Suffix s)) ∙ suffix-count-roll (out-Suffix s)

name-count : (r : Reference) → count_of_name r ≡ 1 + weight (parts_of_name r)
name-count r = fold_out-Reference ℕ ℕ ℕ ℕ ℕ ℕ ℕ ℕ ℕ ℕ ℕ actual_step choice_step expr_step item_step suffix_step association_step product_step range_step name_step relation_step sum_step r ∙ ap (λ n. 1 + n) (weight-flat count-suffix parts_of_suffix suffix-count r.suffixes)

expr-count : (e : Expr) → count_of_expr e ≡ 1 + weight (parts_in_expr (out-Expr e))
expr-count e = ap count_of_expr (sym (roll-out-Expr e)) ∙ expr-count-roll (out-Expr e)

item-count : (i : Item') → count_of_item i ≡ 1 + weight (parts_in_item (out-Item i))
item-count i = ap count_of_item (sym (roll-out-Item i)) ∙ item-count-roll (out-Item i)

-- ---- declarations

range-there : (o : Option Range) → count_if_there count_of_range o ≡ weight (range_if_there o)
range-there None = refl
range-there (Some r) = range-count r

subtype-count : (s : Subtype) → count_of_subtype s ≡ weight (parts_of_subtype s)
subtype-count s = ap (λ n. count_of_name s.name + n) (range-there s.range)

subtype-there : (o : Option Subtype) → count_if_there count_of_subtype o ≡ weight (subtype_if_there o)
subtype-there None = refl
subtype-there (Some s) = subtype-count s

shared-count : (s : Subtype) (o : Option Expr) → count_of_subtype s + count_if_there count_of_expr o ≡ weight (parts_of_subtype s ++ expression_if_there o)
shared-count s o = omega (arith, subtype-count s, expression-there o, weight-append (parts_of_subtype s) (expression_if_there o))

last-count : (last : Bool) (n : ℕ) (vs : List Node) → n ≡ weight vs → (if last then 1 + n else 1) ≡ 1 + weight (if last then vs else [])
last-count false n vs is = refl
last-count true n vs is = ap (λ m. 1 + m) is

iface-count : (i : Iface) → count_of_iface i ≡ 1 + weight (parts_of_iface i)
iface-count i = last-count i.is_last _ _ (shared-count i.parts.subtype i.parts.default)

decl-count : (d : Decl) → count_of_decl d ≡ 1 + weight (parts_of_decl d)
decl-count (decl.Attribute i type) = omega arith
decl-count (decl.Specification s) = omega arith
decl-count (decl.Object o) = last-count o.is_last _ _ (shared-count o.parts.subtype o.parts.value)
decl-count (decl.Alias a) = omega (arith, subtype-there a.subtype, weight-append (subtype_if_there a.subtype) (Name a.target ∷ []))
decl-count (decl.Component c) = omega (arith, weight-map (λ i. Interface i) c.generics, weight-map (λ i. Interface i) c.ports, weight-append (interfaces c.generics) (interfaces c.ports))

-- ---- statements

signal-assignment-count : (a : SignalAssignment) → count_of_signal_assignment a ≡ weight (parts_of_signal_assignment a)
signal-assignment-count a = omega (arith, expression-there a.after)

abbrev count-branch : Branch → ℕ
count-branch = fold-Branch ℕ ℕ ℕ stmt_step branch_step if_step

abbrev count-if : If → ℕ
count-if = fold-If ℕ ℕ ℕ stmt_step branch_step if_step

branch-count : (b : Branch) → count-branch b ≡ weight (parts_of_branch b)
branch-count b = fold_out-Branch ℕ ℕ ℕ stmt_step branch_step if_step b ∙ ap (λ n. count_of_expr b.condition + n) (weight-map (λ s. Sequential s) b.statements)

if-count-roll : (bs : List Branch) (o : Option (List Stmt)) → count-if (roll-If (record { branches = bs; otherwise = o })) ≡ weight (flat_map parts_of_branch bs ++ statements_if_there o)
if-count-roll bs None =
    fold-roll-If ℕ ℕ ℕ stmt_step branch_step if_step (record { branches = bs; otherwise = None })
    ∙ omega (arith, weight-flat count-branch parts_of_branch branch-count bs, weight-append (flat_map parts_of_branch bs) [])
if-count-roll bs (Some ss) =
    fold-roll-If ℕ ℕ ℕ stmt_step branch_step if_step (record { branches = bs; otherwise = Some ss })
    ∙ omega (arith, weight-flat count-branch parts_of_branch branch-count bs, weight-map (λ s. Sequential s) ss, weight-append (flat_map parts_of_branch bs) (sequentials ss))

if-count : (i : If) → count-if i ≡ weight (parts_of_if i)
if-count i = ap count-if (sym (roll-out-If i)) ∙ if-count-roll (out-If i).branches (out-If i).otherwise

stmt-count-roll : (l : StmtLayer) → count_of_stmt (roll-Stmt l) ≡ 1 + weight (parts_in_stmt l)
stmt-count-roll (Stmt-F.VariableAssignment p a) = fold-roll-Stmt ℕ ℕ ℕ stmt_step branch_step if_step (Stmt-F.VariableAssignment p a) ∙ omega arith
stmt-count-roll (Stmt-F.SignalAssignment p a) = fold-roll-Stmt ℕ ℕ ℕ stmt_step branch_step if_step (Stmt-F.SignalAssignment p a) ∙ ap (λ n. 1 + n) (signal-assignment-count a)
stmt-count-roll (Stmt-F.Call p r) = fold-roll-Stmt ℕ ℕ ℕ stmt_step branch_step if_step (Stmt-F.Call p r) ∙ omega arith
stmt-count-roll (Stmt-F.If p i) = fold-roll-Stmt ℕ ℕ ℕ stmt_step branch_step if_step (Stmt-F.If p i) ∙ ap (λ n. 1 + n) (if-count i)
stmt-count-roll (Stmt-F.Null p) = fold-roll-Stmt ℕ ℕ ℕ stmt_step branch_step if_step (Stmt-F.Null p)

stmt-count : (s : Stmt) → count_of_stmt s ≡ 1 + weight (parts_in_stmt (out-Stmt s))
stmt-count s = ap count_of_stmt (sym (roll-out-Stmt s)) ∙ stmt-count-roll (out-Stmt s)

instance-count : (i : Instance) → count_of_instance i ≡ weight (parts_of_instance i)
instance-count i = omega (arith, weight-map (λ j. Item j) i.generics, weight-map (λ j. Item j) i.ports, weight-append (items i.generics) (items i.ports))

process-count : (rs : List Reference) (ds : List Decl) (ss : List Stmt) → total (map count_of_name rs) + total (map count_of_decl ds) + total (map count_of_stmt ss) ≡ weight (names rs ++ declarations ds ++ sequentials ss)
process-count rs ds ss = omega (arith, weight-map (λ r. Name r) rs, weight-map (λ d. Declaration d) ds, weight-map (λ s. Sequential s) ss, weight-append (names rs ++ declarations ds) (sequentials ss), weight-append (names rs) (declarations ds))

abbrev count-block : Block → ℕ
count-block = fold-Block ℕ ℕ conc_step block_step

block-count : (b : Block) → count-block b ≡ weight (declarations b.declarations ++ concurrents b.statements)
block-count b =
    fold_out-Block ℕ ℕ conc_step block_step b
    ∙ omega (arith, weight-map (λ d. Declaration d) b.declarations, weight-map (λ c. Concurrent c) b.statements, weight-append (declarations b.declarations) (concurrents b.statements))

conc-count-roll : (l : ConcLayer) → count_of_conc (roll-Conc l) ≡ 1 + weight (parts_in_conc l)
conc-count-roll (Conc-F.Process p label q) = fold-roll-Conc ℕ ℕ conc_step block_step (Conc-F.Process p label q) ∙ ap (λ n. 1 + n) (process-count q.sensitivity q.declarations q.statements)
conc-count-roll (Conc-F.ComponentInstance p i) = fold-roll-Conc ℕ ℕ conc_step block_step (Conc-F.ComponentInstance p i) ∙ ap (λ n. 1 + n) (instance-count i)
conc-count-roll (Conc-F.Instance p i) = fold-roll-Conc ℕ ℕ conc_step block_step (Conc-F.Instance p i) ∙ ap (λ n. 1 + n) (instance-count i)
conc-count-roll (Conc-F.Block p label b) = fold-roll-Conc ℕ ℕ conc_step block_step (Conc-F.Block p label b) ∙ ap (λ n. 1 + n) (block-count b)
conc-count-roll (Conc-F.Call p r) = fold-roll-Conc ℕ ℕ conc_step block_step (Conc-F.Call p r) ∙ omega arith
conc-count-roll (Conc-F.SignalAssignment p a) = fold-roll-Conc ℕ ℕ conc_step block_step (Conc-F.SignalAssignment p a) ∙ ap (λ n. 1 + n) (signal-assignment-count a)

conc-count : (c : Conc) → count_of_conc c ≡ 1 + weight (parts_in_conc (out-Conc c))
conc-count c = ap count_of_conc (sym (roll-out-Conc c)) ∙ conc-count-roll (out-Conc c)

-- ---- nodes

pub node-count : (v : Node) → count_of v ≡ 1 + weight (parts_of v)
unfolding parts_of
node-count (Declaration d) = decl-count d
node-count (Interface i) = iface-count i
node-count (Concurrent c) = conc-count c
node-count (Sequential s) = stmt-count s
node-count (Expression e) = expr-count e
node-count (Item i) = item-count i
node-count (Name r) = name-count r
