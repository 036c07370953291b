-- Actuals are sound where what the names in them stand for is in a scope, and so are the tables of the calls in them.
use Rattle.std.proofs.Common.{◌≡◌, ℕ, Bool, true, false, List, [], ◌∷◌, Option, Some, None, refl}
use Rattle.std.specs.Prelude.{⊤, cond, nat_le, IfSome}
use Rattle.std.specs.List.{list_all}
use Rattle.std.specs.Option.{option_and_then}
use Rattle.vital_actuals.specs.declared.actual.Actual.{Actual}
use Rattle.vital_actuals.specs.declared.actual.Actual.TheVariants as actual
use Rattle.vital_actuals.specs.declared.actual.Path.{Path}
use Rattle.vital_actuals.specs.Actuals.{actual_as, actual_if_given, actual_of, by_name, is_literal, is_zero, name_as, only_boolean, only_zero, target_of}
use Rattle.vital_actuals.specs.Kinds.{name_for}
use Rattle.vital_actuals.specs.Literals.{edge_symbol, if_edge, mode_named, severity_named, small_number, state_count}
use Rattle.vital_actuals.specs.Paths.{paths_of}
use Rattle.vital_actuals.specs.Targets.{target_named, whole_target, whole_vector}
use Rattle.vital_calls.specs.declared.actual_form.ActualForm.{ActualForm}
use Rattle.vital_calls.specs.declared.actual_form.ActualForm.TheVariants as form
use Rattle.vital_declarations.specs.Constants.{character}
use Rattle.vital_declarations.specs.Numbers.{number}
use Rattle.vital_nodes.specs.declared.expr.Expr.{Expr}
use Rattle.vital_nodes.specs.declared.expr.Item.{Item as Item'}
use Rattle.vital_nodes.specs.declared.expr.Reference.{Reference}
use Rattle.vital_nodes.specs.declared.identifier.Identifier.{Identifier}
use Rattle.vital_nodes.specs.Nodes.{Expression, Item}
use Rattle.vital_operands.specs.declared.tree.BooleanExpr.{BooleanExpr}
use Rattle.vital_operands.specs.declared.tree.TimeExpr.{TimeExpr}
use Rattle.vital_operands.specs.Named.{state_table_named, table_named}
use Rattle.vital_statements.specs.Parentheses.{bare_identifier}
use Rattle.vital_tables.specs.Symbols.{edge_symbols, is_among}
use Rattle.vital_timing.specs.declared.delay.DelayType.{DelayType}
use Rattle.vital_nodes.specs.Bounds.{literal_integer}
use Rattle.vital_nodes.specs.Items.{actual as actual_given}
use Rattle.vital_nodes.specs.Names.{identifier_of}
use Rattle.vital_expr.specs.Outcomes.{broken, or_broken, typed}
use Rattle.vital_expr.specs.Readings.{Context, boolean_of, breach, delay_of, level_of, text_of, time_of, vector_of}
use Rattle.vital_typed_cells.specs.Positions.{HasIdentifier}
use Rattle.vital_typed_cells.specs.ExprScopes.{Scope}
use Rattle.vital_typed_cells.specs.Trees.{is_sound_delay, is_sound_level}
use Rattle.vital_typed_cells.proofs.Nodes.{IsKnown, identifier-known, known-sound}
use Rattle.vital_typed_cells.proofs.Outcomes.{IfTyped, if-and-then, if-mapped, if-or, if-test, if-then}
use Rattle.vital_typed_cells.proofs.Readings.{sound-vector}
use Rattle.vital_typed_cells.proofs.ExprTests.{both-true}
use Rattle.vital_typed_cells.specs.ActualPositions.{IsActualScopeOf}
use Rattle.vital_typed_cells.specs.ActualScopes.{ActualScope}
use Rattle.vital_typed_cells.specs.SoundActuals.{is_sound_actual, is_sound_name, is_sound_path}
use Rattle.vital_typed_cells.proofs.ActualNames.{name-sound}
use Rattle.vital_typed_cells.proofs.Bare.{bare-known}
use Rattle.vital_typed_cells.proofs.Paths.{HasWithin, SoundPaths, in-actual, paths-sound}
use Rattle.vital_typed_cells.proofs.Targets.{SoundTarget, named-sound, vector-sound, whole-sound}

abbrev pub SoundActual : ActualScope → ActualForm → Actual → Type 0
SoundActual s f a = is_sound_actual s f a ≡ true

-- ---- names

by-name : {A : Type 0} (P : A → Type 0) (named : Identifier → Option A) (s : Scope) (c : Context) (e : Expr) → HasWithin s c e → ((i : Identifier) → HasIdentifier s c.position i → IfSome (named i) P) → IfTyped P (by_name named c e)
by-name P named s c e has holds =
    if-or P (breach c e) (option_and_then named (identifier_of e)) (if-and-then (HasIdentifier s c.position) P named (identifier_of e) (identifier-known s c e has) holds)

something : {A : Type 0} (o : Option A) → IfSome o (λ t. ⊤)
something None = tt
something (Some t) = tt

named-as : (s : ActualScope) (c : Context) (f : ActualForm) (e : Expr) → IsActualScopeOf s c.position → HasWithin s.names c e → IfTyped (SoundActual s f) (name_as c f e)
named-as s c f e scope has =
    if-mapped (λ n. is_sound_name s f n ≡ true) (SoundActual s f) (λ n. actual.Named n) (by_name (name_for c.position f) c e)
    (by-name (λ n. is_sound_name s f n ≡ true) (name_for c.position f) s.names c e has (λ i known. name-sound s c.position f i scope known)) (λ n holds. holds)

-- ---- literals

only-boolean : (s : ActualScope) (f : ActualForm) (b : Bool) (c : Context) (e : Expr) (t : BooleanExpr) → IfTyped (SoundActual s f) (only_boolean b c e t)
only-boolean s f b c e t = if-test (SoundActual s f) (is_literal b t) (typed actual.Fixed) (broken (breach c e)) (λ h. refl) (λ h. tt)

only-zero : (s : ActualScope) (f : ActualForm) (c : Context) (e : Expr) (t : TimeExpr) → IfTyped (SoundActual s f) (only_zero c e t)
only-zero s f c e t = if-test (SoundActual s f) (is_zero t) (typed actual.Fixed) (broken (breach c e)) (λ h. refl) (λ h. tt)

if-passes : (test : ℕ → Bool) (b : Bool) (n : ℕ) → (b ≡ true → test n ≡ true) → IfSome (cond b (Some n) None) (λ m. test m ≡ true)
if-passes test true n holds = holds refl
if-passes test false n holds = tt

small-count : (o : Option (List ℕ)) → IfSome (option_and_then small_number o) (λ n. nat_le n 256 ≡ true)
small-count None = tt
small-count (Some literal) = if-passes (λ n. nat_le n 256) (nat_le (number literal) 256) (number literal) (λ h. h)

edge-sound : (o : Option ℕ) → IfSome (option_and_then if_edge o) (λ b. is_among edge_symbols b ≡ true)
edge-sound None = tt
edge-sound (Some byte) = if-passes (is_among edge_symbols) (is_among edge_symbols byte) byte (λ h. h)

-- ---- all forms

all-paths : (s : ActualScope) (d : DelayType) (ps : List Path) → SoundPaths s d ps → list_all (is_sound_path s.names d) ps ≡ true
all-paths s d [] hold = refl
all-paths s d (p ∷ ps) hold = both-true (is_sound_path s.names d p) (list_all (is_sound_path s.names d) ps) hold.0 (all-paths s d ps hold.1)

pub expr-sound : (s : ActualScope) (c : Context) (f : ActualForm) (e : Expr) → IsActualScopeOf s c.position → HasWithin s.names c e → IfTyped (SoundActual s f) (actual_as c f e)
expr-sound s c form.InternalSignal e scope has = named-as s c form.InternalSignal e scope has
expr-sound s c form.Signal e scope has = named-as s c form.Signal e scope has
expr-sound s c form.OutPort e scope has = named-as s c form.OutPort e scope has
expr-sound s c form.GlitchData e scope has = named-as s c form.GlitchData e scope has
expr-sound s c form.TimingData e scope has = named-as s c form.TimingData e scope has
expr-sound s c form.PeriodData e scope has = named-as s c form.PeriodData e scope has
expr-sound s c form.Violation e scope has = named-as s c form.Violation e scope has
expr-sound s c form.WireDelay e scope has =
    if-mapped (λ n. is_sound_name s form.WireDelay n ≡ true) (SoundActual s form.WireDelay) (λ n. actual.Named n) (or_broken (breach c e) (option_and_then (name_for c.position form.WireDelay) (bare_identifier e)))
    (if-or (λ n. is_sound_name s form.WireDelay n ≡ true) (breach c e) (option_and_then (name_for c.position form.WireDelay) (bare_identifier e))
    (if-and-then (HasIdentifier s.names c.position) (λ n. is_sound_name s form.WireDelay n ≡ true) (name_for c.position form.WireDelay) (bare_identifier e) (bare-known s.names c e has) (λ i known. name-sound s c.position form.WireDelay i scope known)))
    (λ n holds. holds)
expr-sound s c form.Result e scope has =
    if-mapped (SoundTarget s.names) (SoundActual s form.Result) (λ t. actual.Target t) (by_name (whole_target c.position) c e)
    (by-name (SoundTarget s.names) (whole_target c.position) s.names c e has (λ i known. whole-sound s.names c.position i scope.in_statement known)) (λ t holds. holds)
expr-sound s c form.PreviousData e scope has =
    if-mapped (SoundTarget s.names) (SoundActual s form.PreviousData) (λ t. actual.Target t) (by_name (whole_vector c.position) c e)
    (by-name (SoundTarget s.names) (whole_vector c.position) s.names c e has (λ i known. vector-sound s.names c.position i scope.in_statement known)) (λ t holds. holds)
expr-sound s c form.TruthTable e scope has =
    if-mapped (λ t. ⊤) (SoundActual s form.TruthTable) (λ t. actual.Table t.0 t.1) (by_name (table_named c.position) c e) (something (by_name (table_named c.position) c e).tree) (λ t holds. refl)
expr-sound s c form.StateTable e scope has =
    if-mapped (λ t. ⊤) (SoundActual s form.StateTable) (λ t. actual.Table t.0 t.1) (by_name (state_table_named c.position) c e) (something (by_name (state_table_named c.position) c e).tree) (λ t holds. refl)
expr-sound s c form.Inputs e scope has =
    if-mapped _ (SoundActual s form.Inputs) (λ v. actual.Inputs v) (vector_of c None e) ((known-sound s.names c (Expression e) has).vector None) (λ v holds. sound-vector s.names None v holds)
expr-sound s c form.StateCount e scope has =
    if-mapped (λ n. nat_le n 256 ≡ true) (SoundActual s form.StateCount) (λ n. actual.StateCount n) (or_broken (breach c e) (state_count e)) (if-or (λ n. nat_le n 256 ≡ true) (breach c e) (state_count e) (small-count (literal_integer e))) (λ n holds. holds)
expr-sound s c form.Level e scope has =
    if-mapped (λ t. is_sound_level s.names t ≡ true) (SoundActual s form.Level) (λ t. actual.Level t) (level_of c e) (known-sound s.names c (Expression e) has).level (λ t holds. holds)
expr-sound s c (form.Delay d) e scope has =
    if-mapped (λ t. is_sound_delay s.names d t ≡ true) (SoundActual s (form.Delay d)) (λ t. actual.Delay t) (delay_of c d e) ((known-sound s.names c (Expression e) has).delay d) (λ t holds. holds)
expr-sound s c form.Time e scope has =
    if-mapped _ (SoundActual s form.Time) (λ t. actual.Time t) (time_of c e) (known-sound s.names c (Expression e) has).time (λ t holds. holds)
expr-sound s c form.Boolean e scope has =
    if-mapped _ (SoundActual s form.Boolean) (λ t. actual.Boolean t) (boolean_of c e) (known-sound s.names c (Expression e) has).boolean (λ t holds. holds)
expr-sound s c form.Text e scope has = if-mapped (λ t. ⊤) (SoundActual s form.Text) (λ t. actual.Text) (text_of c e) (something (text_of c e).tree) (λ t holds. refl)
expr-sound s c form.Mode e scope has =
    if-mapped (λ m. ⊤) (SoundActual s form.Mode) (λ m. actual.Mode m) (by_name (mode_named c.position) c e) (something (by_name (mode_named c.position) c e).tree) (λ m holds. refl)
expr-sound s c form.Severity e scope has =
    if-mapped (λ m. ⊤) (SoundActual s form.Severity) (λ m. actual.Severity m) (by_name (severity_named c.position) c e) (something (by_name (severity_named c.position) c e).tree) (λ m holds. refl)
expr-sound s c form.OnlyFalse e scope has =
    if-then (λ t. ⊤) (SoundActual s form.OnlyFalse) (only_boolean false c e) (boolean_of c e) (something (boolean_of c e).tree) (λ t holds. only-boolean s form.OnlyFalse false c e t)
expr-sound s c form.OnlyTrue e scope has =
    if-then (λ t. ⊤) (SoundActual s form.OnlyTrue) (only_boolean true c e) (boolean_of c e) (something (boolean_of c e).tree) (λ t holds. only-boolean s form.OnlyTrue true c e t)
expr-sound s c form.OnlyZero e scope has =
    if-then (λ t. ⊤) (SoundActual s form.OnlyZero) (only_zero c e) (time_of c e) (something (time_of c e).tree) (λ t holds. only-zero s form.OnlyZero c e t)
expr-sound s c form.EdgeSymbol e scope has =
    if-mapped (λ b. is_among edge_symbols b ≡ true) (SoundActual s form.EdgeSymbol) (λ b. actual.EdgeSymbol b) (or_broken (breach c e) (edge_symbol e)) (if-or (λ b. is_among edge_symbols b ≡ true) (breach c e) (edge_symbol e) (edge-sound (character e))) (λ b holds. holds)
expr-sound s c (form.Paths d) e scope has =
    if-mapped (SoundPaths s d) (SoundActual s (form.Paths d)) (λ ps. actual.Paths ps) (paths_of c d e) (paths-sound s c d e scope has) (λ ps hold. all-paths s d ps hold)

value-sound : (s : ActualScope) (c : Context) (f : ActualForm) (i : Item') (o : Option Expr) → IsActualScopeOf s c.position → IfSome o (HasWithin s.names c) → IfTyped (SoundActual s f) (actual_if_given c f i o)
value-sound s c f i None scope has = tt
value-sound s c f i (Some e) scope has = expr-sound s c f e scope has

-- What an item gives.
pub item-sound : (s : ActualScope) (c : Context) (f : ActualForm) (i : Item') → IsActualScopeOf s c.position → IsKnown s.names c (Item i) → IfTyped (SoundActual s f) (actual_of c f i)
item-sound s c f i scope has = value-sound s c f i (actual_given i) scope (in-actual s.names c i has)

-- What a name is as the target of an assignment.
pub target-sound : (s : ActualScope) (c : Context) (r : Reference) → IsActualScopeOf s c.position → HasIdentifier s.names c.position r.identifier → IfTyped (SoundTarget s.names) (target_of c r)
target-sound s c r scope known = if-or (SoundTarget s.names) _ (target_named c.position r) (named-sound s.names c.position r scope.in_statement known)
