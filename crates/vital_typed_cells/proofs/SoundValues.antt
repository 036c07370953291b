-- Values are sound where what the names in them stand for is in a scope, and so are the tables of the calls in them.
use Rattle.std.proofs.Common.{◌≡◌, ℕ, Bool, true, false, List, [], ◌∷◌, Option, Some, None, refl, sym, subst}
use Rattle.std.specs.Prelude.{⊤, cond, All, IfSome}
use Rattle.std.specs.List.{AllByRecursion}
use Rattle.std.proofs.lemmas.List.Elements.{recursion_from_All}
use Rattle.vital_declarations.specs.Types.{type_of}
use Rattle.vital_expr.specs.Readings.{Context, boolean_of, delay_of, level_of, text_of, time_of, vector_of, worth}
use Rattle.vital_expr.specs.Vectors.{length_of}
use Rattle.vital_nodes.specs.declared.expr.Actual.TheOpen.{Expr-F}
use Rattle.vital_nodes.specs.declared.expr.Actual.TheViews.{out-Expr}
use Rattle.vital_nodes.specs.declared.expr.Expr.{Expr}
use Rattle.vital_nodes.specs.declared.expr.Suffix.{Suffix}
use Rattle.vital_nodes.specs.declared.identifier.Identifier.{Identifier}
use Rattle.vital_nodes.specs.Layers.{ExprLayer}
use Rattle.vital_nodes.specs.Nodes.{Node, Expression, Name, parts_in_expr, parts_of}
use Rattle.vital_nodes.specs.Walk.{nodes_of}
use Rattle.vital_operands.specs.declared.tree.VectorExpr.{VectorExpr}
use Rattle.vital_operands.specs.Positions.{Position, Standing, Operand, Constant, Word, Nothing, standing}
use Rattle.vital_nodes.specs.Names.{identifier_in, identifier_of, if_plain}
use Rattle.vital_typed_declarations.specs.declared.asked_type.AskedType.{AskedType}
use Rattle.vital_typed_declarations.specs.declared.asked_type.AskedType.TheVariants as asked
use Rattle.vital_typed_declarations.specs.declared.value.TypedValue.{TypedValue}
use Rattle.vital_typed_declarations.specs.declared.value.TypedValue.TheVariants as value
use Rattle.vital_typed_declarations.specs.Values.{boolean_constant, boolean_constant_in, boolean_default_by, is_boolean_type, value_as, value_if_given}
use Rattle.vital_typed_cells.specs.ExprScopes.{Scope}
use Rattle.vital_typed_cells.specs.Trees.{is_sound_boolean, is_sound_delay, is_sound_level, is_sound_time, is_sound_vector}
use Rattle.vital_typed_cells.proofs.Nodes.{all-nodes, all-within, node-sound}
use Rattle.vital_typed_cells.proofs.Outcomes.{IfTyped, if-and-then, if-mapped}
use Rattle.vital_typed_cells.proofs.Readings.{SoundReading, SoundVector, sound-vector}
use Rattle.vital_typed_cells.proofs.ExprTests.{number-is}
use Rattle.vital_typed_cells.specs.SoundValues.{HasBoolean, HasBooleanAt, HasNamesIn, HasTablesIn, IsValueScopeOf, ValueScope, is_sound_value}

abbrev pub SoundValue : ValueScope → AskedType → TypedValue → Type 0
SoundValue s a v = is_sound_value s a v ≡ true

-- A vector of the length that is asked.
of-length : (s : Scope) (n : ℕ) (v : VectorExpr) → SoundVector s (Some n) v → is_sound_vector s n v ≡ true
of-length s n v sound = subst (λ m. is_sound_vector s m v ≡ true) (sym (number-is n (length_of v) sound.fits)) (sound-vector s (Some n) v sound)

-- ---- Booleans of packages

if-number : (s : ValueScope) (b : Bool) (n : ℕ) → (b ≡ true → s.has_boolean n ≡ true) → IfSome (cond b (Some n) None) (λ m. s.has_boolean m ≡ true)
if-number s true n holds = holds refl
if-number s false n holds = tt

standing-boolean : (s : ValueScope) (p : Position) (i : Identifier) (st : Standing) → standing p i ≡ st → HasBoolean s p i → IfSome (boolean_constant_in st) (λ n. s.has_boolean n ≡ true)
standing-boolean s p i (Operand k) is has = tt
standing-boolean s p i (Constant n o) is has = if-number s (is_boolean_type (type_of o.parts.subtype)) n (λ h. has n o is h)
standing-boolean s p i (Word w) is has = tt
standing-boolean s p i Nothing is has = tt

plain-boolean : (s : ValueScope) (p : Position) (i : Identifier) (ss : List Suffix) → HasBoolean s p i → IfSome (if_plain i ss) (HasBoolean s p)
plain-boolean s p i [] has = has
plain-boolean s p i (t ∷ ss) has = tt

abbrev HasEach : ValueScope → Position → List Node → Type 0
HasEach s p vs = AllByRecursion (λ v. AllByRecursion (HasBooleanAt s p) (nodes_of v)) vs

layer-boolean : (s : ValueScope) (p : Position) (l : ExprLayer) → HasEach s p (parts_in_expr l) → IfSome (identifier_in l) (HasBoolean s p)
layer-boolean s p (Expr-F.Logical place operator operands) has = tt
layer-boolean s p (Expr-F.Relation r) has = tt
layer-boolean s p (Expr-F.Sum u) has = tt
layer-boolean s p (Expr-F.Product q) has = tt
layer-boolean s p (Expr-F.Not place operand) has = tt
layer-boolean s p (Expr-F.Number place number) has = tt
layer-boolean s p (Expr-F.Physical physical) has = tt
layer-boolean s p (Expr-F.Character place character) has = tt
layer-boolean s p (Expr-F.StringLiteral place text) has = tt
layer-boolean s p (Expr-F.Reference name) has = plain-boolean s p name.identifier name.suffixes (all-within (HasBooleanAt s p) (Name name) has.0).0
layer-boolean s p (Expr-F.Parenthesized place is) has = tt

-- What the identifier stands for that a value is.
identifier-boolean : (s : ValueScope) (p : Position) (e : Expr) → All (HasBooleanAt s p) (nodes_of (Expression e)) → IfSome (identifier_of e) (HasBoolean s p)
unfolding parts_of
identifier-boolean s p e has =
    layer-boolean s p (out-Expr e) (all-nodes (HasBooleanAt s p) (parts_of (Expression e)) (all-within (HasBooleanAt s p) (Expression e) (recursion_from_All (HasBooleanAt s p) (nodes_of (Expression e)) has)).1)

named-boolean : (s : ValueScope) (p : Position) (e : Expr) → IsValueScopeOf s p (Expression e) → IfSome (boolean_constant p e) (λ n. s.has_boolean n ≡ true)
named-boolean s p e scope =
    if-and-then (HasBoolean s p) (λ n. s.has_boolean n ≡ true) (λ i. boolean_constant_in (standing p i)) (identifier_of e) (identifier-boolean s p e scope.booleans)
    (λ i has. standing-boolean s p i (standing p i) refl has)

default-boolean : (s : ValueScope) (c : Context) (e : Expr) (o : Option ℕ) → SoundReading s.names (worth c (Expression e)) → IfSome o (λ n. s.has_boolean n ≡ true) → IfTyped (SoundValue s asked.BooleanDefault) (boolean_default_by c e o)
default-boolean s c e (Some n) sound holds = holds
default-boolean s c e None sound holds = if-mapped (λ t. is_sound_boolean s.names t ≡ true) (SoundValue s asked.BooleanDefault) (λ b. value.Boolean b) (boolean_of c e) sound.boolean (λ b holds. holds)

-- ---- values

something : {A : Type 0} (o : Option A) → IfSome o (λ t. ⊤)
something None = tt
something (Some t) = tt

as-sound : (s : ValueScope) (c : Context) (a : AskedType) (e : Expr) → IsValueScopeOf s c.position (Expression e) → SoundReading s.names (worth c (Expression e)) → IfTyped (SoundValue s a) (value_as c a e)
as-sound s c asked.Level e scope sound = if-mapped (λ t. is_sound_level s.names t ≡ true) (SoundValue s asked.Level) (λ t. value.Level t) (level_of c e) sound.level (λ t holds. holds)
as-sound s c (asked.Vector n) e scope sound = if-mapped (SoundVector s.names (Some n)) (SoundValue s (asked.Vector n)) (λ v. value.Vector v) (vector_of c (Some n) e) (sound.vector (Some n)) (λ v holds. of-length s.names n v holds)
as-sound s c asked.Boolean e scope sound = if-mapped (λ t. is_sound_boolean s.names t ≡ true) (SoundValue s asked.Boolean) (λ b. value.Boolean b) (boolean_of c e) sound.boolean (λ b holds. holds)
as-sound s c asked.BooleanDefault e scope sound = default-boolean s c e (boolean_constant c.position e) sound (named-boolean s c.position e scope)
as-sound s c asked.Time e scope sound = if-mapped (λ t. is_sound_time s.names t ≡ true) (SoundValue s asked.Time) (λ t. value.Time t) (time_of c e) sound.time (λ t holds. holds)
as-sound s c (asked.Delay d) e scope sound = if-mapped (λ t. is_sound_delay s.names d t ≡ true) (SoundValue s (asked.Delay d)) (λ t. value.Delay t) (delay_of c d e) (sound.delay d) (λ t holds. holds)
as-sound s c asked.Text e scope sound = if-mapped (λ t. ⊤) (SoundValue s asked.Text) (λ t. value.Text) (text_of c e) (something (text_of c e).tree) (λ t holds. refl)
as-sound s c asked.Nothing e scope sound = refl

pub value-sound : (s : ValueScope) (c : Context) (a : AskedType) (o : Option Expr) → HasNamesIn s c.position o → HasTablesIn s.names c o → IfTyped (SoundValue s a) (value_if_given c a o)
value-sound s c a None names tables = refl
value-sound s c a (Some e) names tables = as-sound s c a e names (node-sound s.names c (Expression e) names.names tables)
