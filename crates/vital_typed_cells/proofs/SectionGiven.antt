-- What is given for formals is sound.
use Rattle.std.proofs.Common.{◌≡◌, ℕ, ◌+◌, Bool, true, false, List, [], ◌∷◌, Option, Some, None, refl}
use Rattle.std.specs.Prelude.{IfSome, cond, find, unwrap_or}
use Rattle.std.specs.List.{AllByRecursion, enumerate_from, list_all}
use Rattle.std.specs.Option.{option_and_then, option_map}
use Rattle.vital_actuals.specs.declared.actual.Actual.{Actual}
use Rattle.vital_actuals.specs.declared.actual.Actual.TheVariants as actual
use Rattle.vital_actuals.specs.Actuals.{actual_of}
use Rattle.vital_calls.specs.declared.actual_form.ActualForm.{ActualForm}
use Rattle.vital_calls.specs.declared.actual_form.ActualForm.TheVariants as form
use Rattle.vital_calls.specs.Matching.{actual_of as item_for, is_for}
use Rattle.vital_expr.specs.Readings.{Context}
use Rattle.vital_nodes.specs.declared.expr.Item.{Item as Item'}
use Rattle.vital_nodes.specs.Nodes.{Item}
use Rattle.vital_operands.specs.declared.tree.BooleanExpr.TheVariants as truth
use Rattle.vital_operands.specs.declared.tree.DelayExpr.TheVariants as delay
use Rattle.vital_operands.specs.declared.tree.TimeExpr.TheVariants as time
use Rattle.vital_operands.specs.Named.{even_delay}
use Rattle.vital_sections.specs.Given.{GivenCall, delay_given, delay_in, edge_given, edge_in, given, level_given, level_in, name_given, name_in, paths_given, paths_in, time_given, time_in, truth_given, truth_in}
use Rattle.vital_tables.specs.Symbols.{edge_symbols, is_among}
use Rattle.vital_timing.specs.declared.delay.DelayType.{DelayType}
use Rattle.vital_typed_cells.specs.Calls.{HasTables}
use Rattle.vital_typed_cells.specs.Positions.{IsScopeOf}
use Rattle.vital_typed_cells.specs.ExprScopes.{Scope}
use Rattle.vital_typed_cells.specs.Trees.{is_sound_boolean, is_sound_delay, is_sound_level, is_sound_time}
use Rattle.vital_typed_cells.proofs.ExprNames.{zero-delay}
use Rattle.vital_typed_cells.proofs.Nodes.{IsKnown, known-by}
use Rattle.vital_typed_cells.proofs.Outcomes.{if-and-then}
use Rattle.vital_typed_cells.proofs.ExprTrees.{sound-truth}
use Rattle.vital_typed_cells.specs.ActualPositions.{IsActualScopeOf}
use Rattle.vital_typed_cells.specs.ActualScopes.{ActualScope}
use Rattle.vital_typed_cells.specs.SoundActuals.{is_sound_name, is_sound_path}
use Rattle.vital_typed_cells.proofs.Actuals.{SoundActual, item-sound}
use Rattle.vital_typed_cells.specs.GivenItems.{HasGivenNames, HasGivenTables}

-- What all that is given in a call is read by.
pub record IsCallIn (s : ActualScope) (k : GivenCall) : Type 0 where
  pub scope : IsActualScopeOf s k.context.position
  pub known : AllByRecursion (λ i. IsKnown s.names k.context (Item i)) k.items

each-known : (s : Scope) (c : Context) (is : List Item') → AllByRecursion (λ i. IsScopeOf s c.position (Item i)) is → AllByRecursion (λ i. HasTables s c (Item i)) is → AllByRecursion (λ i. IsKnown s c (Item i)) is
each-known s c [] names tables = tt
each-known s c (i ∷ is) names tables = (known-by s c (Item i) names.0 tables.0, each-known s c is names.1 tables.1)

pub call-in : (s : ActualScope) (k : GivenCall) → IsActualScopeOf s k.context.position → HasGivenNames s.names k → HasGivenTables s.names k → IsCallIn s k
call-in s k scope names tables = record { scope = scope; known = each-known s.names k.context k.items names tables }

first-or : {A : Type 0} (P : A → Type 0) (b : Bool) (e : ℕ × A) (o : Option (ℕ × A)) → P e.1 → IfSome (option_map (λ e. e.1) o) P → IfSome (option_map (λ e. e.1) (cond b (Some e) o)) P
first-or P true e o first others = first
first-or P false e o first others = others

found : {A : Type 0} (P : A → Type 0) (test : (ℕ × A) → Bool) (xs : List A) (n : ℕ) → AllByRecursion P xs → IfSome (option_map (λ e. e.1) (find test (enumerate_from n xs))) P
found P test [] n all = tt
found P test (x ∷ xs) n all = first-or P (test (n, x)) (n, x) (find test (enumerate_from (n + 1) xs)) all.0 (found P test xs (n + 1) all.1)

item-there : (s : ActualScope) (k : GivenCall) (name : List ℕ) → IsCallIn s k → IfSome (item_for k.items k.formals name) (λ i. IsKnown s.names k.context (Item i))
unfolding item_for
item-there s k name in-call = found (λ i. IsKnown s.names k.context (Item i)) (λ e. is_for name k.formals e.0 e.1) k.items 0 in-call.known

pub given-sound : (s : ActualScope) (k : GivenCall) (name : List ℕ) (f : ActualForm) → IsCallIn s k → IfSome (given k name f) (SoundActual s f)
unfolding given
given-sound s k name f in-call =
    if-and-then (λ i. IsKnown s.names k.context (Item i)) (SoundActual s f) (λ i. (actual_of k.context f i).tree) (item_for k.items k.formals name) (item-there s k name in-call)
    (λ i known. item-sound s k.context f i in-call.scope known)

-- ---- what an actual is

name-in : (s : ActualScope) (f : ActualForm) (a : Actual) → SoundActual s f a → IfSome (name_in a) (λ n. is_sound_name s f n ≡ true)
name-in s f (actual.Named name) sound = sound
name-in s f other sound = tt

level-in : (s : ActualScope) (a : Actual) → SoundActual s form.Level a → IfSome (level_in a) (λ t. is_sound_level s.names t ≡ true)
level-in s (actual.Level t) sound = sound
level-in s other sound = tt

delay-in : (s : ActualScope) (d : DelayType) (a : Actual) → SoundActual s (form.Delay d) a → IfSome (delay_in a) (λ t. is_sound_delay s.names d t ≡ true)
delay-in s d (actual.Delay t) sound = sound
delay-in s d other sound = tt

time-in : (s : ActualScope) (a : Actual) → SoundActual s form.Time a → IfSome (time_in a) (λ t. is_sound_time s.names t ≡ true)
time-in s (actual.Time t) sound = sound
time-in s other sound = tt

truth-in : (s : ActualScope) (a : Actual) → SoundActual s form.Boolean a → IfSome (truth_in a) (λ t. is_sound_boolean s.names t ≡ true)
truth-in s (actual.Boolean t) sound = sound
truth-in s other sound = tt

edge-in : (s : ActualScope) (a : Actual) → SoundActual s form.EdgeSymbol a → IfSome (edge_in a) (λ b. is_among edge_symbols b ≡ true)
edge-in s (actual.EdgeSymbol b) sound = sound
edge-in s other sound = tt

paths-in : (s : ActualScope) (d : DelayType) (a : Actual) → SoundActual s (form.Paths d) a → IfSome (paths_in a) (λ ps. list_all (is_sound_path s.names d) ps ≡ true)
paths-in s d (actual.Paths ps) sound = sound
paths-in s d other sound = tt

-- ---- what formals are given

pub name-given : (s : ActualScope) (k : GivenCall) (name : List ℕ) (f : ActualForm) → IsCallIn s k → IfSome (name_given k name f) (λ n. is_sound_name s f n ≡ true)
name-given s k name f in-call = if-and-then (SoundActual s f) (λ n. is_sound_name s f n ≡ true) name_in (given k name f) (given-sound s k name f in-call) (name-in s f)

pub level-given : (s : ActualScope) (k : GivenCall) (name : List ℕ) → IsCallIn s k → IfSome (level_given k name) (λ t. is_sound_level s.names t ≡ true)
level-given s k name in-call = if-and-then (SoundActual s form.Level) (λ t. is_sound_level s.names t ≡ true) level_in (given k name form.Level) (given-sound s k name form.Level in-call) (level-in s)

pub edge-given : (s : ActualScope) (k : GivenCall) → IsCallIn s k → IfSome (edge_given k) (λ b. is_among edge_symbols b ≡ true)
edge-given s k in-call = if-and-then (SoundActual s form.EdgeSymbol) (λ b. is_among edge_symbols b ≡ true) edge_in (given k _ form.EdgeSymbol) (given-sound s k _ form.EdgeSymbol in-call) (edge-in s)

pub paths-given : (s : ActualScope) (k : GivenCall) (d : DelayType) → IsCallIn s k → IfSome (paths_given k d) (λ ps. list_all (is_sound_path s.names d) ps ≡ true)
paths-given s k d in-call = if-and-then (SoundActual s (form.Paths d)) (λ ps. list_all (is_sound_path s.names d) ps ≡ true) paths_in (given k _ (form.Paths d)) (given-sound s k _ (form.Paths d) in-call) (paths-in s d)

or-default : {A : Type 0} (test : A → Bool) (o : Option A) (default : A) → IfSome o (λ t. test t ≡ true) → test default ≡ true → test (unwrap_or o default) ≡ true
or-default test None default holds other = other
or-default test (Some t) default holds other = holds

pub truth-given : (s : ActualScope) (k : GivenCall) (name : List ℕ) → IsCallIn s k → is_sound_boolean s.names (truth_given k name) ≡ true
truth-given s k name in-call =
    or-default (is_sound_boolean s.names) (option_and_then truth_in (given k name form.Boolean)) (truth.Literal true)
    (if-and-then (SoundActual s form.Boolean) (λ t. is_sound_boolean s.names t ≡ true) truth_in (given k name form.Boolean) (given-sound s k name form.Boolean in-call) (truth-in s))
    (sound-truth s.names true)

pub time-given : (s : ActualScope) (k : GivenCall) (name : List ℕ) → IsCallIn s k → is_sound_time s.names (time_given k name) ≡ true
time-given s k name in-call =
    or-default (is_sound_time s.names) (option_and_then time_in (given k name form.Time)) (time.Literal 0)
    (if-and-then (SoundActual s form.Time) (λ t. is_sound_time s.names t ≡ true) time_in (given k name form.Time) (given-sound s k name form.Time in-call) (time-in s))
    refl

pub delay-given : (s : ActualScope) (k : GivenCall) (name : List ℕ) (d : DelayType) → IsCallIn s k → is_sound_delay s.names d (delay_given k name d) ≡ true
delay-given s k name d in-call =
    or-default (is_sound_delay s.names d) (option_and_then delay_in (given k name (form.Delay d))) (delay.Literal (even_delay d 0))
    (if-and-then (SoundActual s (form.Delay d)) (λ t. is_sound_delay s.names d t ≡ true) delay_in (given k name (form.Delay d)) (given-sound s k name (form.Delay d) in-call) (delay-in s d))
    (zero-delay s.names d)
