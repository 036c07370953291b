-- Targets and actuals in which each name is in a scope.
use Rattle.std.specs.Prelude.{ℕ, Bool, true, false, ◌&&◌, ◌||◌, nat_le, List}
use Rattle.std.specs.List.{list_all}
use Rattle.vital_actuals.specs.declared.actual.Actual.{Actual}
use Rattle.vital_actuals.specs.declared.actual.Actual.TheVariants as actual
use Rattle.vital_actuals.specs.declared.actual.Path.{Path}
use Rattle.vital_actuals.specs.declared.target.Target.{Target}
use Rattle.vital_actuals.specs.declared.target.Target.TheVariants as target
use Rattle.vital_calls.specs.declared.actual_form.ActualForm.{ActualForm}
use Rattle.vital_calls.specs.declared.actual_form.ActualForm.TheVariants as form
use Rattle.vital_expr.specs.Vectors.{length_of}
use Rattle.vital_operands.specs.declared.tree.DelayExpr.{DelayExpr}
use Rattle.vital_tables.specs.Symbols.{edge_symbols, is_among}
use Rattle.vital_timing.specs.declared.delay.DelayType.{DelayType}
use Rattle.vital_timing.specs.declared.delay.DelayType.TheVariants.{One, Two, Six}
use Rattle.vital_typed_cells.specs.ExprScopes.{Scope}
use Rattle.vital_typed_cells.specs.Trees.{is_sound_boolean, is_sound_delay, is_sound_level, is_sound_time, is_sound_vector}
use Rattle.vital_typed_cells.specs.ActualScopes.{ActualScope}

-- ---- targets

abbrev pub is_sound_target : Scope → Target → Bool
is_sound_target s (target.Level name) = s.has_variable name
is_sound_target s (target.Element name n) = s.has_element name n
is_sound_target s (target.Vector name n) = s.has_vector name n

-- ---- names

-- The generic of a wire delay has any type of delays.
abbrev pub has_any_generic : Scope → List ℕ → Bool
has_any_generic s name = s.has_generic One name || (s.has_generic Two name || s.has_generic Six name)

-- A name is that of what a form asks for.
abbrev pub is_sound_name : ActualScope → ActualForm → List ℕ → Bool
is_sound_name s form.InternalSignal name = s.has_internal name
is_sound_name s form.Signal name = s.names.has_signal name
is_sound_name s form.OutPort name = s.has_output name
is_sound_name s form.GlitchData name = s.has_glitch_data name
is_sound_name s form.TimingData name = s.has_timing_data name
is_sound_name s form.PeriodData name = s.has_period_data name
is_sound_name s form.Violation name = s.has_violation name
is_sound_name s form.WireDelay name = has_any_generic s.names name
is_sound_name s other name = false

-- ---- paths

abbrev pub is_sound_path : Scope → DelayType → Path → Bool
is_sound_path s d p = s.has_signal p.signal && (is_sound_delay s d p.delay && is_sound_boolean s p.condition)

-- ---- actuals of a form

-- A delay, and paths, of the type of their form.
abbrev pub is_sound_delay_of : Scope → ActualForm → DelayExpr → Bool
is_sound_delay_of s (form.Delay d) t = is_sound_delay s d t
is_sound_delay_of s other t = false

abbrev pub are_sound_paths : Scope → ActualForm → List Path → Bool
are_sound_paths s (form.Paths d) ps = list_all (is_sound_path s d) ps
are_sound_paths s other ps = false

abbrev pub is_sound_actual : ActualScope → ActualForm → Actual → Bool
is_sound_actual s f (actual.Named name) = is_sound_name s f name
is_sound_actual s f (actual.Target t) = is_sound_target s.names t
is_sound_actual s f (actual.Table table columns) = true
is_sound_actual s f (actual.Inputs v) = is_sound_vector s.names (length_of v) v
is_sound_actual s f (actual.StateCount n) = nat_le n 256
is_sound_actual s f (actual.Level t) = is_sound_level s.names t
is_sound_actual s f (actual.Delay t) = is_sound_delay_of s.names f t
is_sound_actual s f (actual.Time t) = is_sound_time s.names t
is_sound_actual s f (actual.Boolean t) = is_sound_boolean s.names t
is_sound_actual s f actual.Text = true
is_sound_actual s f (actual.Mode m) = true
is_sound_actual s f (actual.Severity severity) = true
is_sound_actual s f actual.Fixed = true
is_sound_actual s f (actual.EdgeSymbol symbol) = is_among edge_symbols symbol
is_sound_actual s f (actual.Paths ps) = are_sound_paths s.names f ps
