-- Assignments are sound.
use Rattle.std.proofs.Common.{◌≡◌, ℕ, true, Some, sym, subst}
use Rattle.vital_actuals.specs.declared.target.Target.{Target}
use Rattle.vital_actuals.specs.declared.target.Target.TheVariants as target
use Rattle.vital_actuals.specs.Actuals.{target_of}
use Rattle.vital_expr.specs.Readings.{Context, level_of, vector_of, worth}
use Rattle.vital_expr.specs.Vectors.{length_of}
use Rattle.vital_nodes.specs.declared.expr.Expr.{Expr}
use Rattle.vital_nodes.specs.declared.stmt.VariableAssignment.{VariableAssignment}
use Rattle.vital_nodes.specs.Nodes.{Expression, Name}
use Rattle.vital_operands.specs.declared.tree.VectorExpr.{VectorExpr}
use Rattle.vital_typed_statements.specs.declared.statement.TypedStatement.{TypedStatement}
use Rattle.vital_typed_statements.specs.declared.statement.TypedStatement.TheVariants as statement
use Rattle.vital_typed_statements.specs.declared.statement.Value.{Value}
use Rattle.vital_typed_statements.specs.declared.statement.Value.TheVariants as value
use Rattle.vital_typed_statements.specs.Statements.{assigned, assignment, value_for}
use Rattle.vital_typed_cells.specs.Calls.{HasTables}
use Rattle.vital_typed_cells.specs.Positions.{HasIdentifier, IsScopeOf}
use Rattle.vital_typed_cells.specs.ExprScopes.{Scope}
use Rattle.vital_typed_cells.specs.Trees.{is_sound_level, is_sound_vector}
use Rattle.vital_typed_cells.proofs.Nodes.{name-there, node-sound}
use Rattle.vital_typed_cells.proofs.Outcomes.{IfTyped, if-mapped, if-then}
use Rattle.vital_typed_cells.proofs.Readings.{SoundReading, SoundVector, sound-vector}
use Rattle.vital_typed_cells.proofs.ExprTests.{both-true, number-is}
use Rattle.vital_typed_cells.specs.ActualPositions.{IsActualScopeOf}
use Rattle.vital_typed_cells.specs.ActualScopes.{ActualScope}
use Rattle.vital_typed_cells.specs.SoundActuals.{is_sound_target}
use Rattle.vital_typed_cells.proofs.Actuals.{target-sound}
use Rattle.vital_typed_cells.proofs.Targets.{SoundTarget}
use Rattle.vital_typed_cells.specs.SoundAssignments.{is_sound_assignment, is_sound_value}

abbrev SoundValue : Scope → Target → Value → Type 0
SoundValue s t v = is_sound_value s t v ≡ true

abbrev pub SoundAssignment : Scope → TypedStatement → Type 0
SoundAssignment s t = is_sound_assignment s t ≡ true

-- A vector of the length that is asked.
of-length : (s : Scope) (n : ℕ) (v : VectorExpr) → SoundVector s (Some n) v → is_sound_vector s n v ≡ true
of-length s n v sound = subst (λ m. is_sound_vector s m v ≡ true) (sym (number-is n (length_of v) sound.fits)) (sound-vector s (Some n) v sound)

value-sound : (s : ActualScope) (c : Context) (t : Target) (e : Expr) → SoundReading s.names (worth c (Expression e)) → IfTyped (SoundValue s.names t) (value_for c t e)
value-sound s c (target.Level name) e sound =
    if-mapped (λ t. is_sound_level s.names t ≡ true) (SoundValue s.names (target.Level name)) (λ t. value.Level t) (level_of c e) sound.level (λ t holds. holds)
value-sound s c (target.Element name n) e sound =
    if-mapped (λ t. is_sound_level s.names t ≡ true) (SoundValue s.names (target.Element name n)) (λ t. value.Level t) (level_of c e) sound.level (λ t holds. holds)
value-sound s c (target.Vector name n) e sound =
    if-mapped (SoundVector s.names (Some n)) (SoundValue s.names (target.Vector name n)) (λ v. value.Vector v) (vector_of c (Some n) e) (sound.vector (Some n)) (λ v holds. of-length s.names n v holds)

pub assignment-known : (s : ActualScope) (c : Context) (a : VariableAssignment) → IsActualScopeOf s c.position → HasIdentifier s.names c.position a.target.identifier → SoundReading s.names (worth c (Expression a.value))
    → IfTyped (SoundAssignment s.names) (assignment c a)
assignment-known s c a scope target sound =
    if-then (SoundTarget s.names) (SoundAssignment s.names) (assigned c a.value) (target_of c a.target) (target-sound s c a.target scope target)
    (λ t there. if-mapped (SoundValue s.names t) (SoundAssignment s.names) (λ v. statement.Assignment t v) (value_for c t a.value) (value-sound s c t a.value sound)
    (λ v holds. both-true (is_sound_target s.names t) (is_sound_value s.names t v) there holds))

pub assignment-sound : (s : ActualScope) (c : Context) (a : VariableAssignment) → IsActualScopeOf s c.position → IsScopeOf s.names c.position (Name a.target) → IsScopeOf s.names c.position (Expression a.value) → HasTables s.names c (Expression a.value)
    → IfTyped (SoundAssignment s.names) (assignment c a)
assignment-sound s c a scope target names tables = assignment-known s c a scope (name-there s.names c.position a.target target) (node-sound s.names c (Expression a.value) names tables)
