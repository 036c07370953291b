-- Typed expressions in which each name is in a scope, and each time is short.
use Rattle.std.specs.Prelude.{ℕ, Bool, true, ◌&&◌, ◌==◌, length}
use Rattle.std.specs.List.{list_all}
use Rattle.vital_calls.specs.Formals.{input_count}
use Rattle.vital_operands.specs.declared.tree.BooleanExpr.{BooleanExpr}
use Rattle.vital_operands.specs.declared.tree.BooleanExpr.TheFolds.{fold-BooleanExpr}
use Rattle.vital_operands.specs.declared.tree.BooleanExpr.TheOpen.{BooleanExpr-F}
use Rattle.vital_operands.specs.declared.tree.DelayExpr.{DelayExpr}
use Rattle.vital_operands.specs.declared.tree.DelayExpr.TheVariants as delays
use Rattle.vital_operands.specs.declared.tree.LevelExpr.{LevelExpr}
use Rattle.vital_operands.specs.declared.tree.LevelExpr.TheFolds.{fold-LevelExpr, fold-VectorExpr}
use Rattle.vital_operands.specs.declared.tree.LevelExpr.TheOpen.{LevelExpr-F, TruthTableCall-F, VectorExpr-F}
use Rattle.vital_operands.specs.declared.tree.TimeExpr.{TimeExpr}
use Rattle.vital_operands.specs.declared.tree.TimeExpr.TheVariants as time
use Rattle.vital_operands.specs.declared.tree.VectorExpr.{VectorExpr}
use Rattle.vital_operands.specs.Named.{same_type}
use Rattle.vital_timing.specs.declared.delay.DelayType.{DelayType}
use Rattle.vital_timing.specs.declared.delay.DelayType.TheVariants.{One}
use Rattle.vital_timing.specs.Delays.{type_of}
use Rattle.vital_typed_cells.specs.ExprScopes.{Scope}
use Rattle.vital_typed_cells.specs.Times.{are_short, is_short}

-- ---- levels and vectors

-- A level is sound or not; a vector too, and it has a length; and the call of a table is sound for so many results.
abbrev pub LevelStep : Type 0
LevelStep = LevelExpr-F Bool (Bool × ℕ) (ℕ → Bool)

abbrev pub VectorStep : Type 0
VectorStep = VectorExpr-F Bool (Bool × ℕ) (ℕ → Bool)

abbrev pub CallStep : Type 0
CallStep = TruthTableCall-F Bool (Bool × ℕ) (ℕ → Bool)

abbrev pub level_step : Scope → LevelStep → Bool
level_step s (LevelExpr-F.LevelExpr::Literal l) = true
level_step s (LevelExpr-F.Signal name) = s.has_signal name
level_step s (LevelExpr-F.LevelExpr::Variable name) = s.has_variable name
level_step s (LevelExpr-F.Element name n) = s.has_element name n
level_step s (LevelExpr-F.Constant name) = s.has_level name
level_step s (LevelExpr-F.Not t) = t
level_step s (LevelExpr-F.Logical operator ts) = list_all (λ t. t) ts
level_step s (LevelExpr-F.Primitive p ts) = (length ts == input_count p) && list_all (λ t. t) ts
level_step s (LevelExpr-F.Conversion c t) = t
level_step s (LevelExpr-F.LevelExpr::TruthTable call) = call 1

abbrev pub vector_step : Scope → VectorStep → Bool × ℕ
vector_step s (VectorExpr-F.VectorExpr::Variable name n) = (s.has_vector name n, n)
vector_step s (VectorExpr-F.Levels ts) = (list_all (λ t. t) ts, length ts)
vector_step s (VectorExpr-F.Others t n) = (t, n)
vector_step s (VectorExpr-F.VectorExpr::Literal ls) = (true, length ls)
vector_step s (VectorExpr-F.VectorExpr::TruthTable call n) = (call n, n)

abbrev pub call_step : Scope → CallStep → ℕ → Bool
call_step s call results = call.inputs.0 && s.has_table call.table call.inputs.1 results

abbrev pub is_sound_level : Scope → LevelExpr → Bool
is_sound_level s = fold-LevelExpr Bool (Bool × ℕ) (ℕ → Bool) (level_step s) (vector_step s) (call_step s)

-- Whether a vector is sound, and its length.
abbrev pub vector_worth : Scope → VectorExpr → Bool × ℕ
vector_worth s = fold-VectorExpr Bool (Bool × ℕ) (ℕ → Bool) (level_step s) (vector_step s) (call_step s)

-- A vector of a length.
abbrev pub is_sound_vector : Scope → ℕ → VectorExpr → Bool
is_sound_vector s n v = (vector_worth s v).0 && ((vector_worth s v).1 == n)

-- ---- truth values

abbrev pub boolean_step : Scope → BooleanExpr-F Bool → Bool
boolean_step s (BooleanExpr-F.Literal b) = true
boolean_step s (BooleanExpr-F.Control c) = true
boolean_step s (BooleanExpr-F.SameLevels l r) = is_sound_level s l && is_sound_level s r
boolean_step s (BooleanExpr-F.OtherLevels l r) = is_sound_level s l && is_sound_level s r
boolean_step s (BooleanExpr-F.Same l r) = l && r
boolean_step s (BooleanExpr-F.Other l r) = l && r
boolean_step s (BooleanExpr-F.Not t) = t
boolean_step s (BooleanExpr-F.Logical operator ts) = list_all (λ t. t) ts

abbrev pub is_sound_boolean : Scope → BooleanExpr → Bool
is_sound_boolean s = fold-BooleanExpr Bool (boolean_step s)

-- ---- times and delays

abbrev pub is_sound_time : Scope → TimeExpr → Bool
is_sound_time s (time.Literal t) = is_short t
is_sound_time s (time.Generic name) = s.has_generic One name
is_sound_time s (time.Constant name) = s.has_time name

-- A delay of a type.
abbrev pub is_sound_delay : Scope → DelayType → DelayExpr → Bool
is_sound_delay s d (delays.Literal t) = same_type d (type_of t) && are_short t
is_sound_delay s d (delays.Generic name) = s.has_generic d name
is_sound_delay s d (delays.Constant name) = s.has_delay d name
