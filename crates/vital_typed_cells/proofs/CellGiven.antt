-- The identifiers that the calls of a process are given stand among the names in its statements, in their order.
use Rattle.std.proofs.Common.{◌≡◌, ℕ, zero, suc, ◌≤◌, Bool, true, false, List, [], ◌∷◌, ◌++◌, Option, Some, None, drop, length, refl, sym, ap, ◌∙◌, subst, subst₂, append-nil, arith}
use Rattle.std.proofs.lemmas.Grind.{flat_map-append}
use Rattle.std.proofs.lemmas.List.{length-append}
use Rattle.std.proofs.lemmas.List.Elements.{filter_map-append}
use Rattle.std.specs.Prelude.{⊤, unwrap_or, if◌then◌else◌}
use Rattle.std.specs.List.{AllByRecursion, cons_option, filter_map, flat_map}
use Rattle.std.specs.Option.{option_and_then}
use Rattle.vital_as_read.specs.AsRead.{first_identifier}
use Rattle.vital_as_read.proofs.NamesAlong.{names_in, names_of_first}
use Rattle.vital_base.specs.declared.place.Place.{Place}
use Rattle.vital_names.specs.declared.predeclared.Procedure.{Procedure}
use Rattle.vital_names.specs.Sites.{Cell}
use Rattle.vital_nodes.specs.declared.expr.Actual.TheOpen.{Actual-F, Choice-F, Expr-F, Item-F, Suffix-F}
use Rattle.vital_nodes.specs.declared.expr.Actual.TheViews.{out-Actual, out-Choice, out-Expr, out-Item, out-Suffix}
use Rattle.vital_nodes.specs.declared.expr.Expr.{Expr}
use Rattle.vital_nodes.specs.declared.expr.Item.{Item as Item'}
use Rattle.vital_nodes.specs.declared.expr.Reference.{Reference}
use Rattle.vital_nodes.specs.declared.expr.Suffix.{Suffix}
use Rattle.vital_nodes.specs.declared.identifier.Identifier.{Identifier}
use Rattle.vital_nodes.specs.declared.stmt.Process.{Process}
use Rattle.vital_nodes.specs.declared.stmt.Stmt.{Stmt}
use Rattle.vital_nodes.specs.declared.stmt.Stmt.TheOpen.{Stmt-F}
use Rattle.vital_nodes.specs.declared.stmt.Stmt.TheViews.{out-Stmt}
use Rattle.vital_nodes.specs.Layers.{ActualLayer, ChoiceLayer, ExprLayer, ItemLayer, StmtLayer, SuffixLayer}
use Rattle.vital_nodes.specs.Nodes.{Node, Declaration, Interface, Concurrent, Sequential, Expression, Item, Name, items, parts_in_actual, parts_in_choice, parts_in_expr, parts_in_item, parts_in_stmt, parts_in_suffix, parts_of, parts_of_suffix, sequentials}
use Rattle.vital_nodes.specs.Walk.{nodes_of, nodes_of_all}
use Rattle.vital_variables.specs.declared.formal_use.FormalUse.{FormalUse}
use Rattle.vital_variables.specs.Given.{called, given, given_by, given_in, given_to, identifier_given, is_given}
use Rattle.vital_nodes.specs.Calls.{call_items, items_if_only}
use Rattle.vital_nodes.specs.Items.{actual_in, value_in_actual, value_in_choice}
use Rattle.vital_nodes.specs.Names.{identifier_in, identifier_of, if_plain, items_in}
use Rattle.vital_nodes.specs.Statements.{in_sequential, in_stmt_layer, sequential}
use Rattle.vital_nodes.proofs.Inner.{sequential-put}
use Rattle.vital_nodes.proofs.Values.{WalkLaw}

-- ---- lists of which some elements are left out

pub data Left {A : Type 0} : List A → List A → Type 0 where
  ends : Left [] []
  out : {x : A} {xs ys : List A} → Left xs ys → Left xs (x ∷ ys)
  kept : {x : A} {xs ys : List A} → Left xs ys → Left (x ∷ xs) (x ∷ ys)

none-left : {A : Type 0} (ys : List A) → Left [] ys
none-left [] = ends
none-left (y ∷ ys) = out (none-left ys)

left-joined : {A : Type 0} {xs ys us vs : List A} → Left xs ys → Left us vs → Left (xs ++ us) (ys ++ vs)
left-joined ends b = b
left-joined (out a) b = out (left-joined a b)
left-joined (kept a) b = kept (left-joined a b)

left-twice : {A : Type 0} {xs ys zs : List A} → Left xs ys → Left ys zs → Left xs zs
left-twice a ends = a
left-twice a (out b) = out (left-twice a b)
left-twice (out a) (kept b) = out (left-twice a b)
left-twice (kept a) (kept b) = kept (left-twice a b)

left-of : {A : Type 0} {xs ys zs : List A} → ys ≡ zs → Left xs zs → Left xs ys
left-of {A} {xs} is a = subst (λ (l : List A). Left xs l) (sym is) a

pub all-left : {A : Type 0} (P : A → Type 0) {xs ys : List A} → Left xs ys → AllByRecursion P ys → AllByRecursion P xs
all-left P ends all = tt
all-left P (out a) all = all-left P a all.1
all-left P (kept a) all = (all.0, all-left P a all.1)

-- Each is in a relation with all behind it.
abbrev pub Ordered : {A : Type 0} → (A → A → Type 0) → List A → Type 0
Ordered R [] = ⊤
Ordered R (x ∷ xs) = AllByRecursion (R x) xs × Ordered R xs

pub ordered-left : {A : Type 0} (R : A → A → Type 0) {xs ys : List A} → Left xs ys → Ordered R ys → Ordered R xs
ordered-left R ends order = tt
ordered-left R (out a) order = ordered-left R a order.1
ordered-left R (kept {x = x} a) order = (all-left (R x) a order.0, ordered-left R a order.1)

-- ---- the names in items

maybe-left : {A : Type 0} (o : Option A) (ys : List A) → Left (cons_option o []) (cons_option o ys)
maybe-left None ys = none-left ys
maybe-left (Some x) ys = kept (none-left ys)

maybe-joined : {A : Type 0} (o : Option A) (xs : List A) → cons_option o xs ≡ cons_option o [] ++ xs
maybe-joined None xs = refl
maybe-joined (Some x) xs = refl

module _ (law : WalkLaw) where
  names-joined : (us vs : List Node) → names_in (us ++ vs) ≡ names_in us ++ names_in vs
  names-joined us vs = ap (filter_map first_identifier) (flat_map-append nodes_of us vs) ∙ filter_map-append first_identifier (nodes_of_all us) (nodes_of_all vs)

  plain-left : (i : Identifier) (ss : List Suffix) (ys : List Identifier) → Left (cons_option (if_plain i ss) []) (i ∷ ys)
  plain-left i [] ys = kept (none-left ys)
  plain-left i (s ∷ ss) ys = none-left (i ∷ ys)

  reference-left : (r : Reference) → Left (cons_option (if_plain r.identifier r.suffixes) []) (names_in (Name r ∷ []))
  reference-left r = left-of (names_of_first law (Name r) []) (plain-left r.identifier r.suffixes (names_in (parts_of (Name r)) ++ []))

  layer-left : (l : ExprLayer) → Left (cons_option (identifier_in l) []) (names_in (parts_in_expr l))
  layer-left (Expr-F.Logical place operator operands) = none-left _
  layer-left (Expr-F.Relation r) = none-left _
  layer-left (Expr-F.Sum s) = none-left _
  layer-left (Expr-F.Product p) = none-left _
  layer-left (Expr-F.Not place operand) = none-left _
  layer-left (Expr-F.Number place number) = none-left _
  layer-left (Expr-F.Physical physical) = none-left _
  layer-left (Expr-F.Character place character) = none-left _
  layer-left (Expr-F.StringLiteral place text) = none-left _
  layer-left (Expr-F.Reference name) = reference-left name
  layer-left (Expr-F.Parenthesized place is) = none-left _

  expr-left : (e : Expr) → Left (cons_option (identifier_of e) []) (names_in (Expression e ∷ []))
  unfolding parts_of
  expr-left e = left-of (names_of_first law (Expression e) [] ∙ append-nil (names_in (parts_of (Expression e)))) (layer-left (out-Expr e))

  choice-left : (l : ChoiceLayer) → Left (cons_option (option_and_then identifier_of (value_in_choice l)) []) (names_in (parts_in_choice l))
  choice-left (Choice-F.Choice::Value e) = expr-left e
  choice-left (Choice-F.Range r) = none-left _

  actual-left : (l : ActualLayer) → Left (cons_option (option_and_then identifier_of (value_in_actual l)) []) (names_in (parts_in_actual l))
  actual-left (Actual-F.Actual::Value e) = expr-left e
  actual-left (Actual-F.Actual::Open place) = none-left _

  item-left : (l : ItemLayer) → Left (cons_option (option_and_then identifier_of (actual_in l)) []) (names_in (parts_in_item l))
  item-left (Item-F.Others place e) = expr-left e
  item-left (Item-F.Item::Open place) = none-left _
  item-left (Item-F.Positional c) = choice-left (out-Choice c)
  item-left (Item-F.Named a) = actual-left (out-Actual a.actual)

  items-left : (is : List Item') → Left (filter_map identifier_given is) (names_in (items is))
  unfolding parts_of
  items-left [] = ends
  items-left (i ∷ is) =
      subst₂ (λ (xs ys : List Identifier). Left xs ys) (sym (maybe-joined (identifier_given i) (filter_map identifier_given is))) (sym (names_of_first law (Item i) (items is)))
      (left-joined (item-left (out-Item i)) (items-left is))

  -- ---- the names in calls

  in-suffix : (l : SuffixLayer) → Left (filter_map identifier_given (unwrap_or (items_in l) [])) (names_in (parts_in_suffix l))
  in-suffix (Suffix-F.Selected identifier) = none-left _
  in-suffix (Suffix-F.All place) = none-left _
  in-suffix (Suffix-F.Attribute identifier) = none-left _
  in-suffix (Suffix-F.Qualified is) = none-left _
  in-suffix (Suffix-F.Items is) = items-left is

  in-suffixes : (ss : List Suffix) → Left (filter_map identifier_given (items_if_only ss)) (names_in (flat_map parts_of_suffix ss))
  in-suffixes [] = none-left _
  in-suffixes (s ∷ []) = left-of (ap names_in (append-nil (parts_of_suffix s))) (in-suffix (out-Suffix s))
  in-suffixes (s ∷ t ∷ ss) = none-left _

  in-name : (r : Reference) → Left (filter_map identifier_given (call_items r)) (names_in (Name r ∷ []))
  unfolding parts_of
  in-name r = left-of (names_of_first law (Name r) [] ∙ ap (λ ns. r.identifier ∷ ns) (append-nil (names_in (parts_of (Name r))))) (out (in-suffixes r.suffixes))

  if-given : (b : Bool) (o : Option Identifier) (xs ys : List Identifier) → Left xs ys → Left (cons_option (if b then o else None) xs) (cons_option o ys)
  if-given true None xs ys a = a
  if-given true (Some i) xs ys a = kept a
  if-given false None xs ys a = a
  if-given false (Some i) xs ys a = out a

  given-left : (f : FormalUse) (pr : Procedure) (is : List Item') → Left (filter_map (given_by f pr) is) (filter_map identifier_given is)
  given-left f pr [] = ends
  given-left f pr (i ∷ is) = if-given (is_given f pr i) (identifier_given i) (filter_map (given_by f pr) is) (filter_map identifier_given is) (given-left f pr is)

  given-to : (f : FormalUse) (o : Option Procedure) (r : Reference) → Left (given_to f o (call_items r)) (names_in (Name r ∷ []))
  given-to f None r = none-left _
  given-to f (Some pr) r = left-twice (given-left f pr (call_items r)) (in-name r)

  -- ---- the names in statements

  -- no statement is in a call
  none-in-call : (s : Stmt) (place : Place) (r : Reference) → out-Stmt s ≡ Stmt-F.Call place r → filter_map sequential (nodes_of_all (Name r ∷ [])) ≡ []
  unfolding parts_of
  none-in-call s place r is =
      let all : s ∷ in_sequential s ≡ s ∷ filter_map sequential (nodes_of_all (parts_in_stmt (out-Stmt s)) ++ []) =
      sequential-put law [] (s ∷ []) (s ∷ in_sequential s) s refl refl ∙ ap (λ ns. filter_map sequential (ns ++ [])) (law (Sequential s)) in
      let inner : in_sequential s ≡ filter_map sequential (nodes_of_all (parts_in_stmt (out-Stmt s)) ++ []) = ap (drop 1) all in
      sym (ap (filter_map sequential) (append-nil (nodes_of_all (Name r ∷ []))))
      ∙ sym (ap (λ l. filter_map sequential (nodes_of_all (parts_in_stmt l) ++ [])) is)
      ∙ sym inner
      ∙ ap in_stmt_layer is

  module _ (f : FormalUse) (cell : Cell) (p : Process) where
    abbrev gives : List Node → List Identifier
    gives vs = flat_map (given f cell p) (filter_map sequential vs)

    abbrev Good : List Node → Type 0
    Good vs = Left (gives vs) (filter_map first_identifier vs)

    gives-joined : (us vs : List Node) → gives (us ++ vs) ≡ gives us ++ gives vs
    gives-joined us vs =
        ap (flat_map (given f cell p)) (filter_map-append sequential us vs) ∙ flat_map-append (given f cell p) (filter_map sequential us) (filter_map sequential vs)

    good-joined : (us vs : List Node) → Good us → Good vs → Good (us ++ vs)
    good-joined us vs a b =
        subst₂ (λ (xs ys : List Identifier). Left xs ys) (sym (gives-joined us vs)) (sym (filter_map-append first_identifier us vs)) (left-joined a b)

    -- a statement that is given nothing, and a call
    nothing-given : (s : Stmt) (l : StmtLayer) → given f cell p s ≡ [] → Good (nodes_of_all (parts_in_stmt l)) → Good (Sequential s ∷ nodes_of_all (parts_in_stmt l))
    nothing-given s l none good =
        let vs = nodes_of_all (parts_in_stmt l) in
        subst (λ (xs : List Identifier). Left (xs ++ gives vs) (filter_map first_identifier vs)) (sym none) good

    call-given : (s : Stmt) (r : Reference) → filter_map sequential (nodes_of_all (Name r ∷ [])) ≡ [] → given f cell p s ≡ given_to f (called cell p r) (call_items r) → Good (Sequential s ∷ nodes_of_all (Name r ∷ []))
    call-given s r nothing is =
        let none : gives (nodes_of_all (Name r ∷ [])) ≡ [] = ap (flat_map (given f cell p)) nothing in
        let all : given f cell p s ++ gives (nodes_of_all (Name r ∷ [])) ≡ given_to f (called cell p r) (call_items r) =
        ap (λ xs. given f cell p s ++ xs) none ∙ append-nil (given f cell p s) ∙ is in
        subst (λ (xs : List Identifier). Left xs (names_in (Name r ∷ []))) (sym all) (given-to f (called cell p r) r)

    stmt-step : (s : Stmt) (l : StmtLayer) → out-Stmt s ≡ l → Good (nodes_of_all (parts_in_stmt l)) → Good (Sequential s ∷ nodes_of_all (parts_in_stmt l))
    stmt-step s (Stmt-F.VariableAssignment place a) is good = nothing-given s (Stmt-F.VariableAssignment place a) (ap (given_in f cell p) is) good
    stmt-step s (Stmt-F.SignalAssignment place a) is good = nothing-given s (Stmt-F.SignalAssignment place a) (ap (given_in f cell p) is) good
    stmt-step s (Stmt-F.Call place name) is good = call-given s name (none-in-call s place name is) (ap (given_in f cell p) is)
    stmt-step s (Stmt-F.If place i) is good = nothing-given s (Stmt-F.If place i) (ap (given_in f cell p) is) good
    stmt-step s (Stmt-F.Null place) is good = nothing-given s (Stmt-F.Null place) (ap (given_in f cell p) is) good

    node-step : (v : Node) → Good (nodes_of_all (parts_of v)) → Good (v ∷ nodes_of_all (parts_of v))
    unfolding parts_of
    node-step (Declaration d) good = good
    node-step (Interface i) good = good
    node-step (Concurrent c) good = good
    node-step (Sequential s) good = stmt-step s (out-Stmt s) refl good
    node-step (Expression e) good = good
    node-step (Item i) good = good
    node-step (Name r) good = out good

    all-good : (n : ℕ) (vs : List Node) → length (nodes_of_all vs) ≤ n → Good (nodes_of_all vs)
    all-good n [] few = ends
    all-good zero (v ∷ vs) few = absurd (omega (arith, few, length-append (nodes_of v) (nodes_of_all vs), ap length (law v)))
    all-good (suc n) (v ∷ vs) few = good-joined (nodes_of v) (nodes_of_all vs)
        (subst Good (sym (law v)) (node-step v (all-good n (parts_of v) (omega (arith, few, length-append (nodes_of v) (nodes_of_all vs), ap length (law v))))))
        (all-good n vs (omega (arith, few, length-append (nodes_of v) (nodes_of_all vs), ap length (law v))))

    pub given-among-names : (ss : List Stmt) → Left (gives (nodes_of_all (sequentials ss))) (names_in (sequentials ss))
    given-among-names ss = all-good (length (nodes_of_all (sequentials ss))) (sequentials ss) (omega arith)
