-- The statements among the nodes of a statement: itself, and those in the statements that it holds. No declaration, expression, item or name
-- holds a statement.
use Rattle.std.proofs.Common.{◌≡◌, ℕ, zero, suc, ◌≤◌, ◌<◌, ◌+◌, get_or, take, List, [], ◌∷◌, ◌++◌, length, map, refl, ap, sym, ◌∙◌, arith, append-nil, append_assoc, Option, Some, None, Bool, true, false, if◌then◌else◌}
use Rattle.std.specs.List.{cons_option, filter_map, flat_map, list_all}
use Rattle.std.specs.Option.{option_map_or}
use Rattle.std.proofs.lemmas.Grind.{flat_map-append}
use Rattle.std.proofs.lemmas.List.{length-append, map-append}
use Rattle.std.proofs.lemmas.List.Elements.{filter_map-append}
use Rattle.vital_nodes.specs.declared.decl.Decl.{Decl}
use Rattle.vital_nodes.specs.declared.decl.Decl.TheVariants as decl
use Rattle.vital_nodes.specs.declared.decl.Subtype.{Subtype}
use Rattle.vital_nodes.specs.declared.expr.Actual.TheOpen.{Actual-F, Choice-F, Expr-F, Item-F, Suffix-F}
use Rattle.vital_nodes.specs.declared.expr.Actual.TheViews.{out-Actual, out-Choice, out-Expr, out-Item, out-Suffix}
use Rattle.vital_nodes.specs.declared.expr.Expr.{Expr}
use Rattle.vital_nodes.specs.declared.expr.Range.{Range}
use Rattle.vital_nodes.specs.declared.stmt.Branch.{Branch}
use Rattle.vital_nodes.specs.declared.stmt.Conc.{Conc}
use Rattle.vital_nodes.specs.declared.stmt.Conc.TheOpen.{Conc-F}
use Rattle.vital_nodes.specs.declared.stmt.Conc.TheViews.{out-Conc}
use Rattle.vital_nodes.specs.declared.stmt.Instance.{Instance}
use Rattle.vital_nodes.specs.declared.stmt.SignalAssignment.{SignalAssignment}
use Rattle.vital_nodes.specs.declared.stmt.Stmt.{Stmt}
use Rattle.vital_nodes.specs.declared.stmt.Stmt.TheOpen.{Stmt-F}
use Rattle.vital_nodes.specs.declared.stmt.Stmt.TheViews.{out-If, out-Stmt}
use Rattle.vital_nodes.specs.Layers.{ActualLayer, ChoiceLayer, ConcLayer, ExprLayer, ItemLayer, StmtLayer, SuffixLayer}
use Rattle.vital_nodes.specs.Nodes.{Node, Declaration, Interface, Concurrent, Sequential, Expression, Item, Name, concurrents, declarations, expression_if_there, interfaces, items, names, parts_in_actual, parts_in_choice, parts_in_conc, parts_in_expr, parts_in_item, parts_in_stmt, parts_in_suffix, parts_of, parts_of_branch, parts_of_decl, parts_of_iface, parts_of_instance, parts_of_signal_assignment, parts_of_subtype, parts_of_suffix, range_if_there, sequentials, statements_if_there, subtype_if_there}
use Rattle.vital_nodes.specs.Walk.{nodes_of, nodes_of_all}
use Rattle.vital_nodes.specs.Statements.{all_concurrent, all_sequential, concurrent, in_branch, in_conc_layer, in_concurrent, in_sequential, in_stmt_layer, sequential}
use Rattle.vital_nodes.proofs.Lists.{take-one}
use Rattle.vital_nodes.proofs.Values.{WalkLaw}

-- ---- kinds of nodes

abbrev is_of_expression : Node → Bool
is_of_expression (Declaration d) = false
is_of_expression (Interface i) = false
is_of_expression (Concurrent c) = false
is_of_expression (Sequential s) = false
is_of_expression (Expression e) = true
is_of_expression (Item i) = true
is_of_expression (Name r) = true

abbrev is_not_concurrent : Node → Bool
is_not_concurrent (Declaration d) = true
is_not_concurrent (Interface i) = true
is_not_concurrent (Concurrent c) = false
is_not_concurrent (Sequential s) = true
is_not_concurrent (Expression e) = true
is_not_concurrent (Item i) = true
is_not_concurrent (Name r) = true

-- ---- tests of lists

first-holds : (P : Node → Bool) (v : Node) (vs : List Node) → list_all P (v ∷ vs) ≡ true → P v ≡ true
first-holds P v vs h = grind (arith, h)

others-hold : (P : Node → Bool) (v : Node) (vs : List Node) → list_all P (v ∷ vs) ≡ true → list_all P vs ≡ true
others-hold P v vs h = grind (arith, h)

all-append : (P : Node → Bool) (us vs : List Node) → list_all P us ≡ true → list_all P vs ≡ true → list_all P (us ++ vs) ≡ true
all-append P [] vs a b = b
all-append P (u ∷ us) vs a b = grind (arith, first-holds P u us a, all-append P us vs (others-hold P u us a) b)

all-map : {A : Type 0} (P : Node → Bool) (f : A → Node) → ((x : A) → P (f x) ≡ true) → (xs : List A) → list_all P (map f xs) ≡ true
all-map P f holds [] = refl
all-map P f holds (x ∷ xs) = grind (arith, holds x, all-map P f holds xs)

all-flat : {A : Type 0} (P : Node → Bool) (f : A → List Node) → ((x : A) → list_all P (f x) ≡ true) → (xs : List A) → list_all P (flat_map f xs) ≡ true
all-flat P f holds [] = refl
all-flat P f holds (x ∷ xs) = all-append P (f x) (flat_map f xs) (holds x) (all-flat P f holds xs)

weaker : (vs : List Node) → list_all is_of_expression vs ≡ true → list_all is_not_concurrent vs ≡ true
weaker [] h = refl
weaker (Declaration d ∷ vs) h = absurd (grind (arith, h))
weaker (Interface i ∷ vs) h = absurd (grind (arith, h))
weaker (Concurrent c ∷ vs) h = absurd (grind (arith, h))
weaker (Sequential s ∷ vs) h = absurd (grind (arith, h))
weaker (Expression e ∷ vs) h = weaker vs h
weaker (Item i ∷ vs) h = weaker vs h
weaker (Name r ∷ vs) h = weaker vs h

-- ---- the parts of nodes of expressions are nodes of expressions

abbrev AreOfExpressions : List Node → Type 0
AreOfExpressions vs = list_all is_of_expression vs ≡ true

items-are : (is : List _) → AreOfExpressions (items is)
items-are is = all-map is_of_expression (λ i. Item i) (λ i. refl) is

in-expr : (l : ExprLayer) → AreOfExpressions (parts_in_expr l)
in-expr (Expr-F.Logical p o es) = all-map is_of_expression (λ e. Expression e) (λ e. refl) es
in-expr (Expr-F.Relation r) = refl
in-expr (Expr-F.Sum s) = all-map is_of_expression (λ term. Expression term.1) (λ term. refl) s.others
in-expr (Expr-F.Product p) = all-map is_of_expression (λ factor. Expression factor.1) (λ factor. refl) p.others
in-expr (Expr-F.Not p e) = refl
in-expr (Expr-F.Number p n) = refl
in-expr (Expr-F.Physical p) = refl
in-expr (Expr-F.Character p c) = refl
in-expr (Expr-F.StringLiteral p t) = refl
in-expr (Expr-F.Reference r) = refl
in-expr (Expr-F.Parenthesized p is) = items-are is

in-choice : (l : ChoiceLayer) → AreOfExpressions (parts_in_choice l)
in-choice (Choice-F.Choice::Value e) = refl
in-choice (Choice-F.Range r) = refl

in-actual : (l : ActualLayer) → AreOfExpressions (parts_in_actual l)
in-actual (Actual-F.Actual::Value e) = refl
in-actual (Actual-F.Actual::Open p) = refl

in-item : (l : ItemLayer) → AreOfExpressions (parts_in_item l)
in-item (Item-F.Others p e) = refl
in-item (Item-F.Item::Open p) = refl
in-item (Item-F.Positional c) = in-choice (out-Choice c)
in-item (Item-F.Named a) = in-actual (out-Actual a.actual)

in-suffix : (l : SuffixLayer) → AreOfExpressions (parts_in_suffix l)
in-suffix (Suffix-F.Selected i) = refl
in-suffix (Suffix-F.All p) = refl
in-suffix (Suffix-F.Attribute i) = refl
in-suffix (Suffix-F.Qualified is) = items-are is
in-suffix (Suffix-F.Items is) = items-are is

of-expression : (v : Node) → is_of_expression v ≡ true → AreOfExpressions (parts_of v)
unfolding parts_of
of-expression (Declaration d) h = absurd (grind (arith, h))
of-expression (Interface i) h = absurd (grind (arith, h))
of-expression (Concurrent c) h = absurd (grind (arith, h))
of-expression (Sequential s) h = absurd (grind (arith, h))
of-expression (Expression e) h = in-expr (out-Expr e)
of-expression (Item i) h = in-item (out-Item i)
of-expression (Name r) h = all-flat is_of_expression parts_of_suffix (λ s. in-suffix (out-Suffix s)) r.suffixes

-- ---- no node but a concurrent statement holds a concurrent statement

abbrev AreNotConcurrent : List Node → Type 0
AreNotConcurrent vs = list_all is_not_concurrent vs ≡ true

there : (o : Option Expr) → AreOfExpressions (expression_if_there o)
there None = refl
there (Some e) = refl

range-there : (o : Option Range) → AreOfExpressions (range_if_there o)
range-there None = refl
range-there (Some r) = refl

subtype-there : (o : Option Subtype) → AreOfExpressions (subtype_if_there o)
subtype-there None = refl
subtype-there (Some s) = range-there s.range

shared : (is_last : Bool) (s : Subtype) (o : Option Expr) → AreOfExpressions (if is_last then parts_of_subtype s ++ expression_if_there o else [])
shared true s o = all-append is_of_expression (parts_of_subtype s) (expression_if_there o) (range-there s.range) (there o)
shared false s o = refl

interfaces-are : (is : List _) → AreNotConcurrent (interfaces is)
interfaces-are is = all-map is_not_concurrent (λ i. Interface i) (λ i. refl) is

in-decl : (d : Decl) → AreNotConcurrent (parts_of_decl d)
in-decl (decl.Attribute i t) = refl
in-decl (decl.Specification s) = refl
in-decl (decl.Object o) = weaker (parts_of_decl (decl.Object o)) (shared o.is_last o.parts.subtype o.parts.value)
in-decl (decl.Alias a) = weaker (parts_of_decl (decl.Alias a)) (all-append is_of_expression (subtype_if_there a.subtype) (Name a.target ∷ []) (subtype-there a.subtype) refl)
in-decl (decl.Component c) = all-append is_not_concurrent (interfaces c.generics) (interfaces c.ports) (interfaces-are c.generics) (interfaces-are c.ports)

sequentials-are : (ss : List Stmt) → AreNotConcurrent (sequentials ss)
sequentials-are ss = all-map is_not_concurrent (λ s. Sequential s) (λ s. refl) ss

otherwise-are : (o : Option (List Stmt)) → AreNotConcurrent (statements_if_there o)
otherwise-are None = refl
otherwise-are (Some ss) = sequentials-are ss

in-stmt : (l : StmtLayer) → AreNotConcurrent (parts_in_stmt l)
in-stmt (Stmt-F.VariableAssignment p a) = refl
in-stmt (Stmt-F.SignalAssignment p a) = weaker (parts_of_signal_assignment a) (there a.after)
in-stmt (Stmt-F.Call p r) = refl
in-stmt (Stmt-F.If p i) =
    all-append is_not_concurrent (flat_map parts_of_branch (out-If i).branches) (statements_if_there (out-If i).otherwise)
    (all-flat is_not_concurrent parts_of_branch (λ b. sequentials-are b.statements) (out-If i).branches)
    (otherwise-are (out-If i).otherwise)
in-stmt (Stmt-F.Null p) = refl

not-concurrent : (v : Node) → is_not_concurrent v ≡ true → AreNotConcurrent (parts_of v)
unfolding parts_of
not-concurrent (Declaration d) h = in-decl d
not-concurrent (Interface i) h = weaker (parts_of_iface i) (shared i.is_last i.parts.subtype i.parts.default)
not-concurrent (Concurrent c) h = absurd (grind (arith, h))
not-concurrent (Sequential s) h = in-stmt (out-Stmt s)
not-concurrent (Expression e) h = weaker (parts_of (Expression e)) (of-expression (Expression e) refl)
not-concurrent (Item i) h = weaker (parts_of (Item i)) (of-expression (Item i) refl)
not-concurrent (Name r) h = weaker (parts_of (Name r)) (of-expression (Name r) refl)

-- ---- nodes among which nothing is found

is-nothing : {A : Type 0} (find : Node → Option A) (v : Node) (vs : List Node) → find v ≡ None → filter_map find (v ∷ vs) ≡ filter_map find vs
is-nothing find v vs none = ap (λ o. cons_option o (filter_map find vs)) none

nothing-to : {A : Type 0} (find : Node → Option A) (P : Node → Bool) → WalkLaw → ((v : Node) → P v ≡ true → list_all P (parts_of v) ≡ true) → ((v : Node) → P v ≡ true → find v ≡ None) → (n : ℕ) (vs : List Node) → list_all P vs ≡ true → length (nodes_of_all vs) ≤ n → filter_map find (nodes_of_all vs) ≡ []
nothing-to find P law closed none n [] all h = refl
nothing-to find P law closed none zero (v ∷ vs) all h =
    absurd (omega (arith, h, length-append (nodes_of v) (nodes_of_all vs), ap length (law v)))
nothing-to find P law closed none (suc n) (v ∷ vs) all h =
    filter_map-append find (nodes_of v) (nodes_of_all vs)
    ∙ ap (λ found. filter_map find (nodes_of v) ++ found) (nothing-to find P law closed none n vs (others-hold P v vs all) (omega (arith, h, length-append (nodes_of v) (nodes_of_all vs), ap length (law v))))
    ∙ append-nil (filter_map find (nodes_of v))
    ∙ ap (filter_map find) (law v)
    ∙ is-nothing find v (nodes_of_all (parts_of v)) (none v (first-holds P v vs all))
    ∙ nothing-to find P law closed none n (parts_of v) (closed v (first-holds P v vs all)) (omega (arith, h, length-append (nodes_of v) (nodes_of_all vs), ap length (law v)))

no-sequential : (v : Node) → is_of_expression v ≡ true → sequential v ≡ None
no-sequential (Declaration d) h = refl
no-sequential (Interface i) h = refl
no-sequential (Concurrent c) h = refl
no-sequential (Sequential s) h = absurd (grind (arith, h))
no-sequential (Expression e) h = refl
no-sequential (Item i) h = refl
no-sequential (Name r) h = refl

no-concurrent : (v : Node) → is_not_concurrent v ≡ true → concurrent v ≡ None
no-concurrent (Declaration d) h = refl
no-concurrent (Interface i) h = refl
no-concurrent (Concurrent c) h = absurd (grind (arith, h))
no-concurrent (Sequential s) h = refl
no-concurrent (Expression e) h = refl
no-concurrent (Item i) h = refl
no-concurrent (Name r) h = refl

none_sequential : WalkLaw → (vs : List Node) → AreOfExpressions vs → filter_map sequential (nodes_of_all vs) ≡ []
none_sequential law vs all = nothing-to sequential is_of_expression law of-expression no-sequential (length (nodes_of_all vs)) vs all (omega arith)

none_concurrent : WalkLaw → (vs : List Node) → AreNotConcurrent vs → filter_map concurrent (nodes_of_all vs) ≡ []
none_concurrent law vs all = nothing-to concurrent is_not_concurrent law not-concurrent no-concurrent (length (nodes_of_all vs)) vs all (omega arith)

found-two : {A : Type 0} (find : Node → Option A) (us vs : List Node) → filter_map find (nodes_of_all (us ++ vs)) ≡ filter_map find (nodes_of_all us) ++ filter_map find (nodes_of_all vs)
found-two find us vs = ap (filter_map find) (flat_map-append nodes_of us vs) ∙ filter_map-append find (nodes_of_all us) (nodes_of_all vs)

-- ---- concurrent statements

instance-is : (i : Instance) → AreNotConcurrent (parts_of_instance i)
instance-is i = weaker (parts_of_instance i) (all-append is_of_expression (items i.generics) (items i.ports) (items-are i.generics) (items-are i.ports))

assignment-is : (a : SignalAssignment) → AreNotConcurrent (parts_of_signal_assignment a)
assignment-is a = weaker (parts_of_signal_assignment a) (there a.after)

declarations-are : (ds : List Decl) → AreNotConcurrent (declarations ds)
declarations-are ds = all-map is_not_concurrent (λ d. Declaration d) (λ d. refl) ds

names-are : (rs : List _) → AreNotConcurrent (names rs)
names-are rs = all-map is_not_concurrent (λ r. Name r) (λ r. refl) rs

below : WalkLaw → (l : ConcLayer) → filter_map concurrent (nodes_of_all (parts_in_conc l)) ≡ in_conc_layer l
below law (Conc-F.Process p l q) =
    none_concurrent law (names q.sensitivity ++ declarations q.declarations ++ sequentials q.statements)
    (all-append is_not_concurrent (names q.sensitivity ++ declarations q.declarations) (sequentials q.statements)
    (all-append is_not_concurrent (names q.sensitivity) (declarations q.declarations) (names-are q.sensitivity) (declarations-are q.declarations))
    (sequentials-are q.statements))
below law (Conc-F.ComponentInstance p i) = none_concurrent law (parts_of_instance i) (instance-is i)
below law (Conc-F.Instance p i) = none_concurrent law (parts_of_instance i) (instance-is i)
below law (Conc-F.Block p l b) =
    found-two concurrent (declarations b.declarations) (concurrents b.statements)
    ∙ ap (λ found. found ++ all_concurrent b.statements) (none_concurrent law (declarations b.declarations) (declarations-are b.declarations))
below law (Conc-F.Call p r) = none_concurrent law (Name r ∷ []) refl
below law (Conc-F.SignalAssignment p a) = none_concurrent law (parts_of_signal_assignment a) (assignment-is a)

-- a concurrent statement, and then those in it
one_concurrent : WalkLaw → (c : Conc) → all_concurrent (c ∷ []) ≡ c ∷ in_concurrent c
unfolding parts_of
one_concurrent law c =
    ap (filter_map concurrent) (append-nil (nodes_of (Concurrent c)) ∙ law (Concurrent c))
    ∙ ap (λ found. c ∷ found) (below law (out-Conc c))

pub concurrent-one : (cs : List Conc) (i : ℕ) (c : Conc) → i < length cs → c ≡ get_or cs i c → all_concurrent (take (i + 1) cs) ≡ all_concurrent (take i cs) ++ all_concurrent (c ∷ [])
concurrent-one cs i c within is =
    ap all_concurrent (take-one cs i c within is)
    ∙ ap (λ vs. filter_map concurrent (nodes_of_all vs)) (map-append (λ d. Concurrent d) (take i cs) (c ∷ []))
    ∙ found-two concurrent (concurrents (take i cs)) (concurrents (c ∷ []))

-- it is put, and then those in it
pub concurrent-put : WalkLaw → (old pushed new : List Conc) (c : Conc) → pushed ≡ old ++ c ∷ [] → new ≡ pushed ++ in_concurrent c → new ≡ old ++ all_concurrent (c ∷ [])
concurrent-put law old pushed new c push put =
    put ∙ ap (λ all. all ++ in_concurrent c) push ∙ append_assoc old (c ∷ []) (in_concurrent c) ∙ ap (λ all. old ++ all) (sym (one_concurrent law c))

-- ---- statements of processes

branch-below : WalkLaw → (b : Branch) → filter_map sequential (nodes_of_all (parts_of_branch b)) ≡ in_branch b
branch-below law b =
    found-two sequential (Expression b.condition ∷ []) (sequentials b.statements)
    ∙ ap (λ found. found ++ in_branch b) (none_sequential law (Expression b.condition ∷ []) refl)

branches-below : WalkLaw → (bs : List Branch) → filter_map sequential (nodes_of_all (flat_map parts_of_branch bs)) ≡ flat_map in_branch bs
branches-below law [] = refl
branches-below law (b ∷ bs) =
    found-two sequential (parts_of_branch b) (flat_map parts_of_branch bs)
    ∙ ap (λ found. found ++ filter_map sequential (nodes_of_all (flat_map parts_of_branch bs))) (branch-below law b)
    ∙ ap (λ found. in_branch b ++ found) (branches-below law bs)

otherwise-below : (o : Option (List Stmt)) → filter_map sequential (nodes_of_all (statements_if_there o)) ≡ option_map_or all_sequential o []
otherwise-below None = refl
otherwise-below (Some ss) = refl

stmt-below : WalkLaw → (l : StmtLayer) → filter_map sequential (nodes_of_all (parts_in_stmt l)) ≡ in_stmt_layer l
stmt-below law (Stmt-F.VariableAssignment p a) = none_sequential law (Name a.target ∷ Expression a.value ∷ []) refl
stmt-below law (Stmt-F.SignalAssignment p a) = none_sequential law (parts_of_signal_assignment a) (there a.after)
stmt-below law (Stmt-F.Call p r) = none_sequential law (Name r ∷ []) refl
stmt-below law (Stmt-F.If p i) =
    found-two sequential (flat_map parts_of_branch (out-If i).branches) (statements_if_there (out-If i).otherwise)
    ∙ ap (λ found. found ++ filter_map sequential (nodes_of_all (statements_if_there (out-If i).otherwise))) (branches-below law (out-If i).branches)
    ∙ ap (λ found. flat_map in_branch (out-If i).branches ++ found) (otherwise-below (out-If i).otherwise)
stmt-below law (Stmt-F.Null p) = refl

-- a statement, and then those in it
one_sequential : WalkLaw → (s : Stmt) → all_sequential (s ∷ []) ≡ s ∷ in_sequential s
unfolding parts_of
one_sequential law s =
    ap (filter_map sequential) (append-nil (nodes_of (Sequential s)) ∙ law (Sequential s))
    ∙ ap (λ found. s ∷ found) (stmt-below law (out-Stmt s))

pub sequential-one : (ss : List Stmt) (i : ℕ) (s : Stmt) → i < length ss → s ≡ get_or ss i s → all_sequential (take (i + 1) ss) ≡ all_sequential (take i ss) ++ all_sequential (s ∷ [])
sequential-one ss i s within is =
    ap all_sequential (take-one ss i s within is)
    ∙ ap (λ vs. filter_map sequential (nodes_of_all vs)) (map-append (λ r. Sequential r) (take i ss) (s ∷ []))
    ∙ found-two sequential (sequentials (take i ss)) (sequentials (s ∷ []))

-- it is put, and then those in it
pub sequential-put : WalkLaw → (old pushed new : List Stmt) (s : Stmt) → pushed ≡ old ++ s ∷ [] → new ≡ pushed ++ in_sequential s → new ≡ old ++ all_sequential (s ∷ [])
sequential-put law old pushed new s push put =
    put ∙ ap (λ all. all ++ in_sequential s) push ∙ append_assoc old (s ∷ []) (in_sequential s) ∙ ap (λ all. old ++ all) (sym (one_sequential law s))
