-- Of each expression, each name and each item that gives a value it is told what comes of it, where no name breaks another clause.
use Rattle.std.proofs.Common.{◌≡◌, ◌≢◌, ℕ, Bool, true, false, List, [], ◌∷◌, ◌++◌, length, map, Option, Some, None, refl, ap, sym, subst, ◌∙◌}
use Rattle.std.specs.Prelude.{⊤, ◌&&◌, ◌||◌, ◌==◌, not, if◌then◌else◌, IsSome, is_some}
use Rattle.std.specs.List.{AllByRecursion, flat_map, list_any}
use Rattle.std.proofs.lemmas.List.{append-nil}
use Rattle.vital_base.specs.declared.place.Place.{Place}
use Rattle.vital_calls.specs.Formals.{input_count}
use Rattle.vital_names.specs.declared.predeclared.Function.{Function}
use Rattle.vital_names.specs.declared.predeclared.Function.TheVariants as function
use Rattle.vital_nodes.specs.declared.expr.Actual.TheOpen.{Actual-F, Choice-F, Expr-F, Item-F, Suffix-F}
use Rattle.vital_nodes.specs.declared.expr.Actual.TheViews.{out-Actual, out-Choice, out-Expr, out-Item, out-Suffix}
use Rattle.vital_nodes.specs.declared.expr.Expr.{Expr}
use Rattle.vital_nodes.specs.declared.expr.Item.{Item as Item'}
use Rattle.vital_nodes.specs.declared.expr.Reference.{Reference}
use Rattle.vital_nodes.specs.declared.expr.Suffix.{Suffix}
use Rattle.vital_nodes.specs.declared.identifier.Identifier.{Identifier}
use Rattle.vital_nodes.specs.Layers.{ActualLayer, ChoiceLayer, ExprLayer, ItemLayer, SuffixLayer}
use Rattle.vital_nodes.specs.Nodes.{Node, Declaration, Interface, Concurrent, Sequential, Expression, Item, Name, items, parts_of, parts_in_actual, parts_in_choice, parts_in_expr, parts_in_item, parts_in_suffix, parts_of_suffix}
use Rattle.vital_nodes.specs.Walk.{nodes_of}
use Rattle.vital_nodes.proofs.Walking.{folded-law}
use Rattle.vital_operands.specs.declared.tree.BooleanExpr.{BooleanExpr}
use Rattle.vital_operands.specs.declared.tree.DelayExpr.{DelayExpr}
use Rattle.vital_operands.specs.declared.tree.LevelExpr.{LevelExpr}
use Rattle.vital_operands.specs.declared.tree.LevelExpr.TheVariants as level
use Rattle.vital_operands.specs.declared.tree.TimeExpr.{TimeExpr}
use Rattle.vital_operands.specs.declared.tree.TruthTableCall.{TruthTableCall}
use Rattle.vital_operands.specs.declared.tree.VectorExpr.{VectorExpr}
use Rattle.vital_operands.specs.declared.tree.VectorExpr.TheVariants as vector
use Rattle.vital_operands.specs.Calls.{are_given, function_named, is_table, table_first, table_formals}
use Rattle.vital_operands.specs.Faults.{has_fault, is_faulty, is_faulty_in, own_breach}
use Rattle.vital_operands.specs.Items.{are_positional, are_values, is_positional}
use Rattle.vital_operands.specs.Named.{boolean_named, delay_named, is_text_named, level_named, time_named, vector_named}
use Rattle.vital_operands.specs.Positions.{Position}
use Rattle.vital_calls.specs.Matching.{form_of, has_wrong_formals}
use Rattle.vital_nodes.specs.Items.{actual, actual_in, value_in_actual, value_in_choice}
use Rattle.vital_nodes.specs.Names.{items_in}
use Rattle.vital_expr.specs.Delays.{time_written}
use Rattle.vital_expr.specs.Names.{called, element_of, level_of_function, level_of_items, name_in, one_result, ordered_call, plain_reading, some_results, table_actual, table_call, text_if, truth_table_call, vector_of_function, vector_of_items, whole_vector}
use Rattle.vital_expr.specs.Outcomes.{broken, map_typed, typed}
use Rattle.vital_expr.specs.Reading.{Reading, broken_reading, first_of, if_given, levels_of}
use Rattle.vital_expr.specs.Readings.{Context, breach, expr_reading, reading_step, worth}
use Rattle.vital_expr.specs.Vectors.{if_fits, if_vector_fits}
use Rattle.vital_typed_cells.specs.Told.{IsTold}
use Rattle.vital_typed_cells.proofs.ExprTests.{first-true, second-true}
use Rattle.vital_typed_cells.proofs.ExprTold.{told-both, told-broken, told-mapped, told-or, told-test, told-then}
use Rattle.vital_typed_cells.proofs.ToldLayers.{PartsTold, boolean-told, delay-told, level-told, text-told, time-told, vector-told}
use Rattle.vital_typed_cells.proofs.ToldReadings.{GivenTold, ItemsTold, ToldReading, ToldReadings, all-by-position, by-position, levels-told}
use Rattle.vital_typed_cells.proofs.Upwards.{upwards}

-- ---- no faults

no-fault-in : (l : ExprLayer) → is_faulty_in [] l ≡ false
no-fault-in (Expr-F.Logical place operator operands) = refl
no-fault-in (Expr-F.Relation r) = refl
no-fault-in (Expr-F.Sum s) = refl
no-fault-in (Expr-F.Product p) = refl
no-fault-in (Expr-F.Not place operand) = refl
no-fault-in (Expr-F.Number place number) = refl
no-fault-in (Expr-F.Physical physical) = refl
no-fault-in (Expr-F.Character place character) = refl
no-fault-in (Expr-F.StringLiteral place text) = refl
no-fault-in (Expr-F.Reference name) = refl
no-fault-in (Expr-F.Parenthesized place is) = refl

no-fault-at : (v : Node) → is_faulty [] v ≡ false
no-fault-at (Declaration d) = refl
no-fault-at (Interface i) = refl
no-fault-at (Concurrent c) = refl
no-fault-at (Sequential s) = refl
no-fault-at (Expression e) = no-fault-in (out-Expr e)
no-fault-at (Item i) = refl
no-fault-at (Name r) = refl

none-passes : {A : Type 0} (test : A → Bool) (xs : List A) → ((x : A) → test x ≡ false) → list_any test xs ≡ false
none-passes test [] fails = refl
none-passes test (x ∷ xs) fails = ap (λ b. b || list_any test xs) (fails x) ∙ none-passes test xs fails

pub no-fault : (v : Node) → has_fault [] v ≡ false
no-fault v = none-passes (is_faulty []) (nodes_of v) no-fault-at

-- What is not of its form breaks a clause at its place.
pub breach-there : (faults : List Place) (place : Place) (v : Node) → faults ≡ [] → own_breach faults place v ≢ []
breach-there faults place v are = λ is.
    let at-place : place ∷ [] ≡ own_breach faults place v = sym (ap (λ (fs : List Place). own_breach fs place v) are ∙ ap (λ (b : Bool). if b then [] else place ∷ []) (no-fault v)) in
    cc (at-place ∙ is)

-- ---- identifiers alone

text-told-if : (own : List Place) (b : Bool) → own ≢ [] → IsTold (text_if own b)
text-told-if own true there = λ is. refl
text-told-if own false there = told-broken ⊤ own there

plain-told : (own : List Place) (p : Position) (i : Identifier) → own ≢ [] → ToldReading (plain_reading own p i)
plain-told own p i there = record {
  level = told-or own (level_named p i) there;
  vector = λ asked. told-or own (whole_vector asked (vector_named p i)) there;
  boolean = told-or own (boolean_named p i) there;
  time = told-or own (time_named p i) there;
  delay = λ d. told-or own (delay_named p d i) there;
  text = text-told-if own (is_text_named p i) there;
  literal = told-broken ℕ own there;
  own = there;
}

-- ---- calls of VitalTruthTable

result-told : (own : List Place) (q : TruthTableCall × ℕ) → own ≢ [] → IsTold (one_result own q)
result-told own q there = told-test (q.1 == 1) (typed (level.TruthTable q.0)) (broken own) (λ h is. refl) (told-broken LevelExpr own there)

results-told : (own : List Place) (asked : Option ℕ) (q : TruthTableCall × ℕ) → own ≢ [] → IsTold (some_results own asked q)
results-told own asked q there = told-test (q.1 == 0) (broken own) (if_vector_fits own asked (vector.TruthTable q.0 q.1)) (λ h. told-broken VectorExpr own there) (told-or own (if_fits asked (vector.TruthTable q.0 q.1)) there)

table-told : (p : Position) (i : Item') (r t : Reading) → ToldReading r → ToldReading t → IsTold (table_call p i r t)
table-told p i r t first second = told-both called (table_actual p i r) (t.vector None) (told-or r.own _ first.own) (second.vector None) (λ u v is. refl)

-- Both items of a call of which one is known to be the table give values.
ordered-told : (own : List Place) (p : Position) (o : Option Bool) (i j : Item') (r t : Reading) → own ≢ [] → (IsSome o → ToldReading r × ToldReading t) → IsTold (ordered_call own p o i r j t)
ordered-told own p (Some true) i j r t there told = let both = told refl in table-told p i r t both.0 both.1
ordered-told own p (Some false) i j r t there told = let both = told refl in table-told p j t r both.1 both.0
ordered-told own p None i j r t there told = told-broken (TruthTableCall × ℕ) own there

given-where : (b : Bool) (x : Bool) → IsSome (if b then Some x else None) → b ≡ true
given-where true x there = refl
given-where false x there = there

both-given : (i j : Item') → IsSome (table_first (i ∷ j ∷ [])) → IsSome (actual i) × IsSome (actual j)
both-given i j there =
    let all : are_given (i ∷ j ∷ []) ≡ true = second-true (not (has_wrong_formals table_formals (i ∷ j ∷ []))) (are_given (i ∷ j ∷ [])) (given-where (not (has_wrong_formals table_formals (i ∷ j ∷ [])) && are_given (i ∷ j ∷ [])) (is_table (form_of table_formals 0 i)) there) in
    (first-true (is_some (actual i)) (are_given (j ∷ [])) all, first-true (is_some (actual j)) true (second-true (is_some (actual i)) (are_given (j ∷ [])) all))

table-call-told : (own : List Place) (p : Position) (is : List Item') (rs : List Reading) → own ≢ [] → ItemsTold is rs → IsTold (truth_table_call own p is rs)
table-call-told own p [] rs there told = told-broken (TruthTableCall × ℕ) own there
table-call-told own p (i ∷ []) rs there told = told-broken (TruthTableCall × ℕ) own there
table-call-told own p (i ∷ j ∷ []) [] there told = absurd told
table-call-told own p (i ∷ j ∷ []) (r ∷ []) there told = absurd told.1
table-call-told own p (i ∷ j ∷ []) (r ∷ t ∷ []) there told =
    ordered-told own p (table_first (i ∷ j ∷ [])) i j r t there (λ h. let given = both-given i j h in (told.0 given.0, told.1.0 given.1))
table-call-told own p (i ∷ j ∷ []) (r ∷ t ∷ u ∷ rs) there told = told-broken (TruthTableCall × ℕ) own there
table-call-told own p (i ∷ j ∷ k ∷ is) rs there told = told-broken (TruthTableCall × ℕ) own there

-- ---- calls of functions, and elements

one-told : (is : List Item') (rs : List Reading) → ItemsTold is rs → are_values 1 is ≡ true → ToldReading (first_of rs)
one-told [] rs told are = cc
one-told (i ∷ is) [] told are = absurd told
one-told (i ∷ is) (r ∷ rs) told are = by-position i r told.0 (first-true (is_positional i) (are_positional is) (second-true (length (i ∷ is) == 1) (are_positional (i ∷ is)) are))

level-function : (own : List Place) (p : Position) (r : Reference) (is : List Item') (rs : List Reading) (f : Option Function) → own ≢ [] → ItemsTold is rs → IsTold (level_of_function own p r is rs f)
level-function own p r is rs (Some (function.Primitive k)) there told =
    told-test (are_values (input_count k) is) (map_typed (λ ts. level.Primitive k ts) (levels_of rs)) (broken own)
    (λ h. told-mapped (λ ts. level.Primitive k ts) (levels_of rs) (levels-told rs (all-by-position is rs told (second-true (length is == input_count k) (are_positional is) h))))
    (told-broken LevelExpr own there)
level-function own p r is rs (Some (function.Conversion k)) there told =
    told-test (are_values 1 is) (map_typed (λ t. level.Conversion k t) (first_of rs).level) (broken own)
    (λ h. told-mapped (λ t. level.Conversion k t) (first_of rs).level (one-told is rs told h).level)
    (told-broken LevelExpr own there)
level-function own p r is rs (Some function.TruthTable) there told = told-then (one_result own) (truth_table_call own p is rs) (table-call-told own p is rs there told) (λ q. result-told own q there)
level-function own p r is rs None there told = told-or own (element_of p r) there

vector-function : (own : List Place) (p : Position) (asked : Option ℕ) (is : List Item') (rs : List Reading) (f : Option Function) → own ≢ [] → ItemsTold is rs → IsTold (vector_of_function own p asked is rs f)
vector-function own p asked is rs (Some (function.Primitive k)) there told = told-broken VectorExpr own there
vector-function own p asked is rs (Some (function.Conversion k)) there told = told-broken VectorExpr own there
vector-function own p asked is rs (Some function.TruthTable) there told = told-then (some_results own asked) (truth_table_call own p is rs) (table-call-told own p is rs there told) (λ q. results-told own asked q there)
vector-function own p asked is rs None there told = told-broken VectorExpr own there

-- ---- names

abbrev behind_reading : List Place → Position → Reference → Option (List Item') → List Reading → Reading
behind_reading own p r o rs = record (broken_reading own) {
  level = level_of_items own p r o rs;
  vector = λ asked. vector_of_items own p asked r o rs;
}

behind-told : (own : List Place) (p : Position) (r : Reference) (o : Option (List Item')) (rs : List Reading) → own ≢ [] → IsTold (level_of_items own p r o rs) → ((asked : Option ℕ) → IsTold (vector_of_items own p asked r o rs)) → ToldReading (behind_reading own p r o rs)
behind-told own p r o rs there level vector = record {
  level = level;
  vector = vector;
  boolean = told-broken BooleanExpr own there;
  time = told-broken TimeExpr own there;
  delay = λ d. told-broken DelayExpr own there;
  text = told-broken ⊤ own there;
  literal = told-broken ℕ own there;
  own = there;
}

items-told : (own : List Place) (p : Position) (r : Reference) (is : List Item') (rs : List Reading) → own ≢ [] → ItemsTold is rs → ToldReading (behind_reading own p r (Some is) rs)
items-told own p r is rs there told =
    behind-told own p r (Some is) rs there (level-function own p r is rs (function_named p r.identifier) there told) (λ asked. vector-function own p asked is rs (function_named p r.identifier) there told)

no-items : (own : List Place) (p : Position) (r : Reference) (rs : List Reading) → own ≢ [] → ToldReading (behind_reading own p r None rs)
no-items own p r rs there = behind-told own p r None rs there (told-broken LevelExpr own there) (λ asked. told-broken VectorExpr own there)

-- ---- nodes

-- It is told of expressions, names, and items that give values.
abbrev pub IsToldAt : Context → Node → Type 0
IsToldAt c (Declaration d) = ⊤
IsToldAt c (Interface i) = ⊤
IsToldAt c (Concurrent k) = ⊤
IsToldAt c (Sequential k) = ⊤
IsToldAt c (Expression e) = ToldReading (worth c (Expression e))
IsToldAt c (Item i) = GivenTold i (worth c (Item i))
IsToldAt c (Name r) = ToldReading (worth c (Name r))

exprs-told : {A : Type 0} (c : Context) (f : A → Expr) (xs : List A) → AllByRecursion (IsToldAt c) (map (λ x. Expression (f x)) xs) → ToldReadings (map (worth c) (map (λ x. Expression (f x)) xs))
exprs-told c f [] told = tt
exprs-told c f (x ∷ xs) told = (told.0, exprs-told c f xs told.1)

listed-told : (c : Context) (is : List Item') → AllByRecursion (IsToldAt c) (items is) → ItemsTold is (map (worth c) (items is))
listed-told c [] told = tt
listed-told c (i ∷ is) told = (told.0, listed-told c is told.1)

layer-told : (c : Context) (l : ExprLayer) → AllByRecursion (IsToldAt c) (parts_in_expr l) → PartsTold l (map (worth c) (parts_in_expr l))
layer-told c (Expr-F.Logical place operator operands) told = exprs-told c (λ e. e) operands told
layer-told c (Expr-F.Relation r) told = (told.0, (told.1.0, tt))
layer-told c (Expr-F.Sum s) told = (told.0, exprs-told c (λ term. term.1) s.others told.1)
layer-told c (Expr-F.Product p) told = (told.0, exprs-told c (λ factor. factor.1) p.others told.1)
layer-told c (Expr-F.Not place operand) told = told.0
layer-told c (Expr-F.Number place number) told = tt
layer-told c (Expr-F.Physical physical) told = tt
layer-told c (Expr-F.Character place character) told = tt
layer-told c (Expr-F.StringLiteral place text) told = tt
layer-told c (Expr-F.Reference name) told = told.0
layer-told c (Expr-F.Parenthesized place is) told = listed-told c is told

expr-told : (own : List Place) (rs : List Reading) (l : ExprLayer) → own ≢ [] → PartsTold l rs → ToldReading (expr_reading own rs l)
expr-told own rs l there told = record {
  level = level-told own rs l there told;
  vector = λ asked. vector-told own rs asked l there told;
  boolean = boolean-told own rs l there told;
  time = time-told own rs l there told;
  delay = λ d. delay-told own rs d l there told;
  text = text-told own rs l there told;
  literal = told-or own (time_written l) there;
  own = there;
}

choice-told : (c : Context) (l : ChoiceLayer) → AllByRecursion (IsToldAt c) (parts_in_choice l) → IsSome (value_in_choice l) → ToldReading (if_given (value_in_choice l) (map (worth c) (parts_in_choice l)))
choice-told c (Choice-F.Choice::Value e) told there = told.0
choice-told c (Choice-F.Range r) told there = cc

actual-told : (c : Context) (l : ActualLayer) → AllByRecursion (IsToldAt c) (parts_in_actual l) → IsSome (value_in_actual l) → ToldReading (if_given (value_in_actual l) (map (worth c) (parts_in_actual l)))
actual-told c (Actual-F.Actual::Value e) told there = told.0
actual-told c (Actual-F.Actual::Open place) told there = cc

given-told : (c : Context) (l : ItemLayer) → AllByRecursion (IsToldAt c) (parts_in_item l) → IsSome (actual_in l) → ToldReading (if_given (actual_in l) (map (worth c) (parts_in_item l)))
given-told c (Item-F.Others place e) told there = told.0
given-told c (Item-F.Item::Open place) told there = cc
given-told c (Item-F.Positional choice) told there = choice-told c (out-Choice choice) told there
given-told c (Item-F.Named a) told there = actual-told c (out-Actual a.actual) told there

suffix-told : (c : Context) (own : List Place) (r : Reference) (l : SuffixLayer) → own ≢ [] → AllByRecursion (IsToldAt c) (parts_in_suffix l ++ []) → ToldReading (behind_reading own c.position r (items_in l) (map (worth c) (parts_in_suffix l ++ [])))
suffix-told c own r (Suffix-F.Selected identifier) there told = no-items own c.position r [] there
suffix-told c own r (Suffix-F.All place) there told = no-items own c.position r [] there
suffix-told c own r (Suffix-F.Attribute identifier) there told = no-items own c.position r [] there
suffix-told c own r (Suffix-F.Qualified is) there told = no-items own c.position r (map (worth c) (items is ++ [])) there
suffix-told c own r (Suffix-F.Items is) there told =
    subst (λ (vs : List Node). ToldReading (behind_reading own c.position r (Some is) (map (worth c) vs))) (sym (append-nil (items is)))
    (items-told own c.position r is (map (worth c) (items is)) there (listed-told c is (subst (AllByRecursion (IsToldAt c)) (append-nil (items is)) told)))

name-told : (c : Context) (own : List Place) (r : Reference) (ss : List Suffix) → own ≢ [] → AllByRecursion (IsToldAt c) (flat_map parts_of_suffix ss) → ToldReading (name_in own c.position r (map (worth c) (flat_map parts_of_suffix ss)) ss)
name-told c own r [] there told = plain-told own c.position r.identifier there
name-told c own r (t ∷ []) there told = suffix-told c own r (out-Suffix t) there told
name-told c own r (t ∷ u ∷ ss) there told = no-items own c.position r (map (worth c) (flat_map parts_of_suffix (t ∷ u ∷ ss))) there

-- What a step makes of a node of whose parts it is told.
abbrev StepTold : Context → Node → Reading → Type 0
StepTold c (Declaration d) r = ⊤
StepTold c (Interface i) r = ⊤
StepTold c (Concurrent k) r = ⊤
StepTold c (Sequential k) r = ⊤
StepTold c (Expression e) r = ToldReading r
StepTold c (Item i) r = GivenTold i r
StepTold c (Name n) r = ToldReading r

step-told : (c : Context) (v : Node) → c.faults ≡ [] → AllByRecursion (IsToldAt c) (parts_of v) → StepTold c v (reading_step c v (map (worth c) (parts_of v)))
unfolding parts_of reading_step
step-told c (Declaration d) none told = tt
step-told c (Interface i) none told = tt
step-told c (Concurrent k) none told = tt
step-told c (Sequential k) none told = tt
step-told c (Expression e) none told = expr-told (breach c e) (map (worth c) (parts_in_expr (out-Expr e))) (out-Expr e) (breach-there c.faults _ (Expression e) none) (layer-told c (out-Expr e) told)
step-told c (Item i) none told = given-told c (out-Item i) told
step-told c (Name r) none told = name-told c _ r r.suffixes (breach-there c.faults _ (Name r) none) told

worth-told : (c : Context) (v : Node) → StepTold c v (worth c v) → IsToldAt c v
worth-told c (Declaration d) told = tt
worth-told c (Interface i) told = tt
worth-told c (Concurrent k) told = tt
worth-told c (Sequential k) told = tt
worth-told c (Expression e) told = told
worth-told c (Item i) told = told
worth-told c (Name r) told = told

node-step : (c : Context) → c.faults ≡ [] → (v : Node) → AllByRecursion (IsToldAt c) (parts_of v) → IsToldAt c v
node-step c none v told = worth-told c v (subst (StepTold c v) (sym (folded-law (reading_step c) v)) (step-told c v none told))

-- It is told what comes of an expression.
pub expression-told : (c : Context) (e : Expr) → c.faults ≡ [] → ToldReading (worth c (Expression e))
expression-told c e none = upwards (IsToldAt c) (node-step c none) (Expression e)
