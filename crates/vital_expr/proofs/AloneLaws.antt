-- One value in parentheses, by its form.
use Rattle.std.proofs.Common.{◌≡◌, ℕ, Bool, true, false, ◌==◌, is_some, List, [], ◌∷◌, Option, Some, None, if◌then◌else◌, refl, ap, ◌∙◌}
use Rattle.vital_base.specs.declared.place.Place.{Place}
use Rattle.vital_names.specs.declared.predeclared.Function.{Function}
use Rattle.vital_names.specs.declared.predeclared.Function.TheVariants as function
use Rattle.vital_nodes.specs.declared.expr.Actual.TheOpen.{Expr-F}
use Rattle.vital_nodes.specs.declared.expr.Actual.TheViews.{out-Expr}
use Rattle.vital_nodes.specs.declared.expr.Expr.{Expr}
use Rattle.vital_nodes.specs.declared.expr.Item.{Item}
use Rattle.vital_nodes.specs.declared.expr.Reference.{Reference}
use Rattle.vital_nodes.specs.declared.expr.Suffix.{Suffix}
use Rattle.vital_nodes.specs.Layers.{ExprLayer}
use Rattle.vital_operands.specs.declared.tree.LevelExpr.{LevelExpr}
use Rattle.vital_operands.specs.declared.tree.LevelExpr.TheVariants as level
use Rattle.vital_operands.specs.declared.tree.TruthTableCall.{TruthTableCall}
use Rattle.vital_operands.specs.declared.tree.VectorExpr.{VectorExpr}
use Rattle.vital_operands.specs.Calls.{function_named, is_truth_table, only_items}
use Rattle.vital_operands.specs.Items.{is_positional, others_value}
use Rattle.vital_expr.specs.Levels.{level_in, level_in_items}
use Rattle.vital_expr.specs.Names.{level_of_function, level_of_items, name_in, one_result, some_results, truth_table_call, vector_of_function, vector_of_items}
use Rattle.vital_expr.specs.Outcomes.{Outcome, after, and_then, broken, then_by, typed}
use Rattle.vital_expr.specs.Reading.{Reading}
use Rattle.vital_expr.specs.Readings.{Context, breach, reading}
use Rattle.vital_expr.specs.Steps.{item_reading, item_readings, readings_if_there, readings_in, vector_by_form}
use Rattle.vital_expr.specs.Vectors.{list_of_levels, others_of_length, vector_by_level, vector_in, vector_in_items, vector_of_one}
use Rattle.vital_expr.proofs.Laws.{level_law, vector_law}
use Rattle.vital_expr.specs.Alone.{call_if_typed, one_by_form, one_in, one_in_items, one_of_call}

-- A list of one level, or else what comes of the vector.
abbrev alone_or : List Place → Option ℕ → Outcome VectorExpr → Option LevelExpr → Outcome VectorExpr
alone_or own asked v (Some t) = list_of_levels own asked (t ∷ [])
alone_or own asked v None = v

by-level : (own : List Place) (asked : Option ℕ) (r : Reading) (o : Option LevelExpr) → vector_by_level own asked r o ≡ alone_or own asked (r.vector asked) o
by-level own asked r (Some t) = refl
by-level own asked r None = refl

-- What is in two parentheses is as what is in the inner ones.
twice : (own inner : List Place) (asked : Option ℕ) (r : Reading) (o : Option LevelExpr) → alone_or own asked (vector_by_level inner asked r o) o ≡ vector_by_level own asked r o
twice own inner asked r (Some t) = refl
twice own inner asked r None = refl

one-item : (own inner : List Place) (asked : Option ℕ) (r : Reading) (other : Outcome VectorExpr) (b : Bool) → alone_or own asked (if b then vector_of_one inner asked r else other) (if b then r.level else broken inner).tree ≡ (if b then vector_of_one own asked r else (if b then vector_of_one inner asked r else other))
one-item own inner asked r other true = twice own inner asked r r.level.tree
one-item own inner asked r other false = refl

in-items : (c : Context) (own inner : List Place) (asked : Option ℕ) (is : List Item) → alone_or own asked (vector_in_items inner asked is (item_readings c is)) (level_in_items inner is (item_readings c is)).tree ≡ one_in_items c own inner asked is
in-items c own inner asked [] = refl
in-items c own inner asked (i ∷ []) =
    one-item own inner asked (item_reading c i) (if is_some (others_value i) then and_then (others_of_length inner asked) (item_reading c i).level else broken inner) (is_positional i)
in-items c own inner asked (i ∷ j ∷ is) = refl

-- A call of VitalTruthTable by its results.
one-or-more : (own inner : List Place) (asked : Option ℕ) (t : LevelExpr) (v : Outcome VectorExpr) (b : Bool) → alone_or own asked v (if b then typed t else broken inner).tree ≡ (if b then list_of_levels own asked (t ∷ []) else v)
one-or-more own inner asked t v true = refl
one-or-more own inner asked t v false = refl

by-results : (own inner : List Place) (asked : Option ℕ) (found : List Place) (o : Option (TruthTableCall × ℕ)) → alone_or own asked (then_by (some_results inner asked) o found) (then_by (one_result inner) o found).tree ≡ call_if_typed own inner asked found o
by-results own inner asked found None = refl
by-results own inner asked found (Some c) = one-or-more own inner asked (level.TruthTable c.0) (after found (some_results inner asked c)) (c.1 == 1)

-- The name of a function before items.
abbrev by_function : Context → List Place → Option ℕ → Expr → Reference → List Item → Option Function → Outcome VectorExpr
by_function c own asked e r is f =
    alone_or own asked (vector_of_function (breach c e) c.position asked is (item_readings c is) f) (level_of_function (breach c e) c.position r is (item_readings c is) f).tree

of-function : (c : Context) (own : List Place) (asked : Option ℕ) (e : Expr) (r : Reference) (is : List Item) (f : Option Function) → vector_of_one own asked (reading c e) ≡ by_function c own asked e r is f → vector_of_one own asked (reading c e) ≡ one_of_call c own asked e (Some is) (if is_truth_table f then Some is else None)
of-function c own asked e r is None given = refl
of-function c own asked e r is (Some (function.Primitive primitive)) given = refl
of-function c own asked e r is (Some (function.Conversion conversion)) given = refl
of-function c own asked e r is (Some function.TruthTable) given =
    let call : Outcome (TruthTableCall × ℕ) = truth_table_call (breach c e) c.position is (item_readings c is) in
    given ∙ by-results own (breach c e) asked call.places call.tree

-- A name without items behind it is no call.
no-call : (c : Context) (own : List Place) (asked : Option ℕ) (e : Expr) (o : Option (List Item)) (b : Bool) → vector_of_one own asked (reading c e) ≡ one_of_call c own asked e o (if b then None else None)
no-call c own asked e o true = refl
no-call c own asked e o false = refl

abbrev by_items : Context → List Place → Option ℕ → Expr → Reference → Option (List Item) → Outcome VectorExpr
by_items c own asked e r o =
    alone_or own asked (vector_of_items (breach c e) c.position asked r o (readings_if_there c o)) (level_of_items (breach c e) c.position r o (readings_if_there c o)).tree

of-items : (c : Context) (own : List Place) (asked : Option ℕ) (e : Expr) (r : Reference) (o : Option (List Item)) → vector_of_one own asked (reading c e) ≡ by_items c own asked e r o → vector_of_one own asked (reading c e) ≡ one_of_call c own asked e o (if is_truth_table (function_named c.position r.identifier) then o else None)
of-items c own asked e r None given = no-call c own asked e None (is_truth_table (function_named c.position r.identifier))
of-items c own asked e r (Some is) given = of-function c own asked e r is (function_named c.position r.identifier) given

abbrev by_suffixes : Context → List Place → Option ℕ → Expr → Reference → List Suffix → Outcome VectorExpr
by_suffixes c own asked e r ss =
    alone_or own asked ((name_in (breach c e) c.position r (readings_if_there c (only_items ss)) ss).vector asked) (name_in (breach c e) c.position r (readings_if_there c (only_items ss)) ss).level.tree

of-suffixes : (c : Context) (own : List Place) (asked : Option ℕ) (e : Expr) (r : Reference) (ss : List Suffix) → vector_of_one own asked (reading c e) ≡ by_suffixes c own asked e r ss → vector_of_one own asked (reading c e) ≡ one_of_call c own asked e (only_items ss) (if is_truth_table (function_named c.position r.identifier) then only_items ss else None)
of-suffixes c own asked e r [] given = no-call c own asked e None (is_truth_table (function_named c.position r.identifier))
of-suffixes c own asked e r (s ∷ others) given = of-items c own asked e r (only_items (s ∷ others)) given

-- The form of the value.
abbrev by_layer : Context → List Place → Option ℕ → Expr → ExprLayer → Outcome VectorExpr
by_layer c own asked e l =
    alone_or own asked (vector_in (breach c e) (readings_in c (breach c e) l) asked l) (level_in (breach c e) (readings_in c (breach c e) l) l).tree

of-layer : (c : Context) (own : List Place) (asked : Option ℕ) (e : Expr) (l : ExprLayer) → vector_of_one own asked (reading c e) ≡ by_layer c own asked e l → vector_of_one own asked (reading c e) ≡ one_in c own asked e l
of-layer c own asked e (Expr-F.Logical place operator operands) given = refl
of-layer c own asked e (Expr-F.Relation r) given = refl
of-layer c own asked e (Expr-F.Sum s) given = refl
of-layer c own asked e (Expr-F.Product p) given = refl
of-layer c own asked e (Expr-F.Not place operand) given = refl
of-layer c own asked e (Expr-F.Number place number) given = refl
of-layer c own asked e (Expr-F.Physical physical) given = refl
of-layer c own asked e (Expr-F.Character place character) given = refl
of-layer c own asked e (Expr-F.StringLiteral place text) given = refl
of-layer c own asked e (Expr-F.Reference name) given = of-suffixes c own asked e name name.suffixes given
of-layer c own asked e (Expr-F.Parenthesized place is) given = given ∙ in-items c own (breach c e) asked is

by-law : (c : Context) (own : List Place) (asked : Option ℕ) (e : Expr) → vector_of_one own asked (reading c e) ≡ by_layer c own asked e (out-Expr e)
by-law c own asked e =
    by-level own asked (reading c e) (reading c e).level.tree
    ∙ ap (λ v. alone_or own asked v (reading c e).level.tree) (vector_law c asked e)
    ∙ ap (λ (o : Outcome LevelExpr). alone_or own asked (vector_by_form c asked e) o.tree) (level_law c e)

pub one_law : (c : Context) (own : List Place) (asked : Option ℕ) (e : Expr) → vector_of_one own asked (reading c e) ≡ one_by_form c own asked e
one_law c own asked e = of-layer c own asked e (out-Expr e) (by-law c own asked e)
