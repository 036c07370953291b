-- Assignments in which each name is in a scope, and each value is one for its target.
use Rattle.std.specs.Prelude.{Bool, false, ◌&&◌}
use Rattle.vital_actuals.specs.declared.target.Target.{Target}
use Rattle.vital_actuals.specs.declared.target.Target.TheVariants as target
use Rattle.vital_typed_statements.specs.declared.statement.TypedStatement.{TypedStatement}
use Rattle.vital_typed_statements.specs.declared.statement.TypedStatement.TheVariants as statement
use Rattle.vital_typed_statements.specs.declared.statement.Value.{Value}
use Rattle.vital_typed_statements.specs.declared.statement.Value.TheVariants as value
use Rattle.vital_typed_cells.specs.SoundActuals.{is_sound_target}
use Rattle.vital_typed_cells.specs.ExprScopes.{Scope}
use Rattle.vital_typed_cells.specs.Trees.{is_sound_level, is_sound_vector}

-- A value for a target is a level, or a vector of its length.
abbrev pub is_sound_value : Scope → Target → Value → Bool
is_sound_value s (target.Level name) (value.Level t) = is_sound_level s t
is_sound_value s (target.Element name n) (value.Level t) = is_sound_level s t
is_sound_value s (target.Vector name n) (value.Vector v) = is_sound_vector s n v
is_sound_value s t other = false

-- An assignment. Nothing is asked of another statement.
abbrev pub is_sound_assignment : Scope → TypedStatement → Bool
is_sound_assignment s (statement.Assignment t v) = is_sound_target s t && is_sound_value s t v
is_sound_assignment s _ = false
