-- It is told what comes of actuals and targets, where no name breaks another clause.
use Rattle.std.proofs.Common.{◌≡◌, ◌≢◌, ℕ, ◌+◌, Bool, true, false, List, [], ◌∷◌, map, Option, Some, None, refl}
use Rattle.std.specs.Prelude.{◌||◌, IsSome, is_some}
use Rattle.std.specs.List.{AllByRecursion, enumerate_from, list_all}
use Rattle.std.specs.Option.{option_and_then}
use Rattle.vital_actuals.specs.declared.actual.Actual.{Actual}
use Rattle.vital_actuals.specs.declared.actual.Actual.TheVariants as actual
use Rattle.vital_actuals.specs.declared.actual.Path.{Path}
use Rattle.vital_actuals.specs.Actuals.{actual_as, actual_if_given, actual_of, by_name, is_literal, is_zero, name_as, only_boolean, only_zero, target_of}
use Rattle.vital_actuals.specs.Kinds.{name_for}
use Rattle.vital_actuals.specs.Literals.{edge_symbol, mode_named, severity_named, state_count}
use Rattle.vital_actuals.specs.Paths.{PathParts, are_indexed, are_listed, change_at, change_of, is_at, pair_typed, path_given, path_if_given, path_of_item, path_of_parts, path_parts, path_typed, paths_in_list, paths_of}
use Rattle.vital_actuals.specs.Targets.{target_named, whole_target, whole_vector}
use Rattle.vital_calls.specs.declared.actual_form.ActualForm.{ActualForm}
use Rattle.vital_calls.specs.declared.actual_form.ActualForm.TheVariants as form
use Rattle.vital_nodes.specs.declared.expr.Actual.TheViews.{out-Item}
use Rattle.vital_nodes.specs.declared.expr.Expr.{Expr}
use Rattle.vital_nodes.specs.declared.expr.Item.{Item as Item'}
use Rattle.vital_nodes.specs.declared.expr.Reference.{Reference}
use Rattle.vital_nodes.specs.declared.identifier.Identifier.{Identifier}
use Rattle.vital_nodes.specs.Nodes.{Expression, Item, Name}
use Rattle.vital_nodes.specs.Places.{place_of_expr, place_of_name}
use Rattle.vital_operands.specs.declared.tree.BooleanExpr.{BooleanExpr}
use Rattle.vital_operands.specs.declared.tree.TimeExpr.{TimeExpr}
use Rattle.vital_operands.specs.Items.{are_positional, is_positional}
use Rattle.vital_operands.specs.Named.{state_table_named, table_named}
use Rattle.vital_statements.specs.Parentheses.{bare_identifier}
use Rattle.vital_timing.specs.declared.delay.DelayType.{DelayType}
use Rattle.vital_nodes.specs.Items.{actual as actual_given, listed_items}
use Rattle.vital_nodes.specs.Names.{identifier_of}
use Rattle.vital_expr.specs.Outcomes.{all_typed, both, broken, typed}
use Rattle.vital_expr.specs.Readings.{Context, boolean_of, breach, delay_of, level_of, text_of, time_of, vector_of}
use Rattle.vital_typed_cells.specs.Told.{IsTold}
use Rattle.vital_typed_cells.proofs.ExprTests.{first-true, second-true}
use Rattle.vital_typed_cells.proofs.ExprTold.{told-all, told-both, told-broken, told-mapped, told-or, told-test, told-then}
use Rattle.vital_typed_cells.proofs.ToldNodes.{breach-there, expression-told}
use Rattle.vital_typed_cells.proofs.ToldReadings.{positional-gives}

there-at : (c : Context) (e : Expr) → c.faults ≡ [] → breach c e ≢ []
there-at c e none = breach-there c.faults (place_of_expr e) (Expression e) none

by-name : {A : Type 0} (named : Identifier → Option A) (c : Context) (e : Expr) → c.faults ≡ [] → IsTold (by_name named c e)
by-name named c e none = told-or (breach c e) (option_and_then named (identifier_of e)) (there-at c e none)

named-as : (c : Context) (f : ActualForm) (e : Expr) → c.faults ≡ [] → IsTold (name_as c f e)
named-as c f e none = told-mapped (λ n. actual.Named n) (by_name (name_for c.position f) c e) (by-name (name_for c.position f) c e none)

-- ---- paths

parts-told : (c : Context) (d : DelayType) (q : PathParts) → c.faults ≡ [] → IsTold (path_of_parts c d q)
parts-told c d q none =
    told-both path_typed (change_of c q.change) (both pair_typed (delay_of c d q.delay) (boolean_of c q.condition))
    (told-or (breach c q.change) (change_at c.position q.change) (there-at c q.change none))
    (told-both pair_typed (delay_of c d q.delay) (boolean_of c q.condition) ((expression-told c q.delay none).delay d) (expression-told c q.condition none).boolean (λ t u is. refl))
    (λ n p is. refl)

given-path : (c : Context) (d : DelayType) (e : Expr) (o : Option PathParts) → c.faults ≡ [] → IsTold (path_given c d e o)
given-path c d e None none = told-broken Path (breach c e) (there-at c e none)
given-path c d e (Some q) none = parts-told c d q none

value-path : (c : Context) (d : DelayType) (o : Option Expr) → c.faults ≡ [] → IsSome o → IsTold (path_if_given c d o)
value-path c d None none there = cc
value-path c d (Some e) none there = given-path c d e (path_parts e) none

-- Items that are all by position, or all with their indices, give values.
abbrev AllGive : List Item' → Type 0
AllGive is = AllByRecursion (λ i. IsSome (actual_given i)) is

positional-give : (is : List Item') → are_positional is ≡ true → AllGive is
positional-give [] all = tt
positional-give (i ∷ is) all = (positional-gives (out-Item i) (first-true (is_positional i) (are_positional is) all), positional-give is (second-true (is_positional i) (are_positional is) all))

indexed-give : (is : List Item') (n : ℕ) → list_all (λ p. is_at p.0 p.1) (enumerate_from n is) ≡ true → AllGive is
indexed-give [] n all = tt
indexed-give (i ∷ is) n all =
    (second-true _ (is_some (actual_given i)) (first-true (is_at n i) _ all), indexed-give is (n + 1) (second-true (is_at n i) _ all))

listed-give : (is : List Item') (a b : Bool) → (a ≡ true → AllGive is) → (b ≡ true → AllGive is) → (a || b) ≡ true → AllGive is
listed-give is true b first second are = first refl
listed-give is false b first second are = second are

each-path : (c : Context) (d : DelayType) (is : List Item') → c.faults ≡ [] → AllGive is → AllByRecursion IsTold (map (path_of_item c d) is)
each-path c d [] none all = tt
each-path c d (i ∷ is) none all = (value-path c d (actual_given i) none all.0, each-path c d is none all.1)

listed-paths : (c : Context) (d : DelayType) (e : Expr) (o : Option (List Item')) → c.faults ≡ [] → IsTold (paths_in_list c d e o)
listed-paths c d e None none = told-broken (List Path) (breach c e) (there-at c e none)
listed-paths c d e (Some is) none =
    told-test (are_listed is) (all_typed (map (path_of_item c d) is)) (broken (breach c e))
    (λ h. told-all (map (path_of_item c d) is) (each-path c d is none (listed-give is (are_positional is) (are_indexed is) (positional-give is) (indexed-give is 0) h)))
    (told-broken (List Path) (breach c e) (there-at c e none))

-- ---- all forms

only-boolean : (b : Bool) (c : Context) (e : Expr) (t : BooleanExpr) → c.faults ≡ [] → IsTold (only_boolean b c e t)
only-boolean b c e t none = told-test (is_literal b t) (typed actual.Fixed) (broken (breach c e)) (λ h is. refl) (told-broken Actual (breach c e) (there-at c e none))

only-zero : (c : Context) (e : Expr) (t : TimeExpr) → c.faults ≡ [] → IsTold (only_zero c e t)
only-zero c e t none = told-test (is_zero t) (typed actual.Fixed) (broken (breach c e)) (λ h is. refl) (told-broken Actual (breach c e) (there-at c e none))

expr-told : (c : Context) (f : ActualForm) (e : Expr) → c.faults ≡ [] → IsTold (actual_as c f e)
expr-told c form.InternalSignal e none = named-as c form.InternalSignal e none
expr-told c form.Signal e none = named-as c form.Signal e none
expr-told c form.OutPort e none = named-as c form.OutPort e none
expr-told c form.GlitchData e none = named-as c form.GlitchData e none
expr-told c form.TimingData e none = named-as c form.TimingData e none
expr-told c form.PeriodData e none = named-as c form.PeriodData e none
expr-told c form.Violation e none = named-as c form.Violation e none
expr-told c form.WireDelay e none = told-mapped (λ n. actual.Named n) _ (told-or (breach c e) (option_and_then (name_for c.position form.WireDelay) (bare_identifier e)) (there-at c e none))
expr-told c form.Result e none = told-mapped (λ t. actual.Target t) (by_name (whole_target c.position) c e) (by-name (whole_target c.position) c e none)
expr-told c form.PreviousData e none = told-mapped (λ t. actual.Target t) (by_name (whole_vector c.position) c e) (by-name (whole_vector c.position) c e none)
expr-told c form.TruthTable e none = told-mapped (λ t. actual.Table t.0 t.1) (by_name (table_named c.position) c e) (by-name (table_named c.position) c e none)
expr-told c form.StateTable e none = told-mapped (λ t. actual.Table t.0 t.1) (by_name (state_table_named c.position) c e) (by-name (state_table_named c.position) c e none)
expr-told c form.Inputs e none = told-mapped (λ v. actual.Inputs v) (vector_of c None e) ((expression-told c e none).vector None)
expr-told c form.StateCount e none = told-mapped (λ n. actual.StateCount n) _ (told-or (breach c e) (state_count e) (there-at c e none))
expr-told c form.Level e none = told-mapped (λ t. actual.Level t) (level_of c e) (expression-told c e none).level
expr-told c (form.Delay d) e none = told-mapped (λ t. actual.Delay t) (delay_of c d e) ((expression-told c e none).delay d)
expr-told c form.Time e none = told-mapped (λ t. actual.Time t) (time_of c e) (expression-told c e none).time
expr-told c form.Boolean e none = told-mapped (λ t. actual.Boolean t) (boolean_of c e) (expression-told c e none).boolean
expr-told c form.Text e none = told-mapped (λ t. actual.Text) (text_of c e) (expression-told c e none).text
expr-told c form.Mode e none = told-mapped (λ m. actual.Mode m) (by_name (mode_named c.position) c e) (by-name (mode_named c.position) c e none)
expr-told c form.Severity e none = told-mapped (λ m. actual.Severity m) (by_name (severity_named c.position) c e) (by-name (severity_named c.position) c e none)
expr-told c form.OnlyFalse e none = told-then (only_boolean false c e) (boolean_of c e) (expression-told c e none).boolean (λ t. only-boolean false c e t none)
expr-told c form.OnlyTrue e none = told-then (only_boolean true c e) (boolean_of c e) (expression-told c e none).boolean (λ t. only-boolean true c e t none)
expr-told c form.OnlyZero e none = told-then (only_zero c e) (time_of c e) (expression-told c e none).time (λ t. only-zero c e t none)
expr-told c form.EdgeSymbol e none = told-mapped (λ b. actual.EdgeSymbol b) _ (told-or (breach c e) (edge_symbol e) (there-at c e none))
expr-told c (form.Paths d) e none = told-mapped (λ ps. actual.Paths ps) (paths_of c d e) (listed-paths c d e (listed_items e) none)

value-told : (c : Context) (f : ActualForm) (i : Item') (o : Option Expr) → c.faults ≡ [] → IsTold (actual_if_given c f i o)
value-told c f i None none = told-broken Actual _ (breach-there c.faults _ (Item i) none)
value-told c f i (Some e) none = expr-told c f e none

pub item-told : (c : Context) (f : ActualForm) (i : Item') → c.faults ≡ [] → IsTold (actual_of c f i)
item-told c f i none = value-told c f i (actual_given i) none

pub target-told : (c : Context) (r : Reference) → c.faults ≡ [] → IsTold (target_of c r)
target-told c r none = told-or _ (target_named c.position r) (breach-there c.faults (place_of_name r) (Name r) none)
