-- What a node is worth in which each name is in a scope, whichever type is asked of it.
use Rattle.std.proofs.Common.{◌≡◌, ℕ, true, List, [], ◌∷◌, map, Option}
use Rattle.std.specs.Prelude.{◌==◌}
use Rattle.std.specs.List.{AllByRecursion}
use Rattle.vital_base.specs.declared.place.Place.{Place}
use Rattle.vital_operands.specs.declared.tree.DelayExpr.{DelayExpr}
use Rattle.vital_operands.specs.declared.tree.TimeExpr.{TimeExpr}
use Rattle.vital_operands.specs.declared.tree.VectorExpr.{VectorExpr}
use Rattle.vital_timing.specs.declared.delay.DelayType.{DelayType}
use Rattle.vital_expr.specs.Reading.{Reading, booleans_of, broken_reading, first_of, levels_of, literals_of}
use Rattle.vital_expr.specs.Vectors.{fits, length_of}
use Rattle.vital_typed_cells.specs.ExprScopes.{Scope}
use Rattle.vital_typed_cells.specs.Trees.{is_sound_delay, is_sound_time, is_sound_vector, vector_worth}
use Rattle.vital_typed_cells.proofs.Outcomes.{IfTyped, EachOf, all-mapped, if-all}
use Rattle.vital_typed_cells.proofs.ExprTests.{both-true, same-number}
use Rattle.vital_typed_cells.proofs.Times.{Short}
use Rattle.vital_typed_cells.proofs.ExprTrees.{HoldsVector, SoundBoolean, SoundLevel, vector-length}

-- A vector of the length that is asked, if one is.
pub record SoundVector (s : Scope) (asked : Option ℕ) (v : VectorExpr) : Type 0 where
  pub holds : HoldsVector s v
  pub fits : fits asked (length_of v) ≡ true

abbrev pub SoundTime : Scope → TimeExpr → Type 0
SoundTime s t = is_sound_time s t ≡ true

abbrev pub SoundDelay : Scope → DelayType → DelayExpr → Type 0
SoundDelay s d t = is_sound_delay s d t ≡ true

pub record SoundReading (s : Scope) (r : Reading) : Type 0 where
  pub level : IfTyped (SoundLevel s) r.level
  pub vector : (asked : Option ℕ) → IfTyped (SoundVector s asked) (r.vector asked)
  pub boolean : IfTyped (SoundBoolean s) r.boolean
  pub time : IfTyped (SoundTime s) r.time
  pub delay : (d : DelayType) → IfTyped (SoundDelay s d) (r.delay d)
  pub literal : IfTyped Short r.literal

abbrev pub SoundReadings : Scope → List Reading → Type 0
SoundReadings s rs = AllByRecursion (SoundReading s) rs

pub broken-sound : (s : Scope) (own : List Place) → SoundReading s (broken_reading own)
broken-sound s own = record { level = tt; vector = λ asked. tt; boolean = tt; time = tt; delay = λ d. tt; literal = tt }

pub first-sound : (s : Scope) (rs : List Reading) → SoundReadings s rs → SoundReading s (first_of rs)
first-sound s [] sound = broken-sound s []
first-sound s (r ∷ rs) sound = sound.0

-- Operands one after another.
pub levels-sound : (s : Scope) (rs : List Reading) → SoundReadings s rs → IfTyped (EachOf (SoundLevel s) (map (λ r. r.level) rs)) (levels_of rs)
levels-sound s rs sound = if-all (SoundLevel s) (map (λ r. r.level) rs) (all-mapped (SoundReading s) (IfTyped (SoundLevel s)) (λ r. r.level) rs sound (λ r holds. holds.level))

pub booleans-sound : (s : Scope) (rs : List Reading) → SoundReadings s rs → IfTyped (EachOf (SoundBoolean s) (map (λ r. r.boolean) rs)) (booleans_of rs)
booleans-sound s rs sound = if-all (SoundBoolean s) (map (λ r. r.boolean) rs) (all-mapped (SoundReading s) (IfTyped (SoundBoolean s)) (λ r. r.boolean) rs sound (λ r holds. holds.boolean))

pub literals-sound : (s : Scope) (rs : List Reading) → SoundReadings s rs → IfTyped (EachOf Short (map (λ r. r.literal) rs)) (literals_of rs)
literals-sound s rs sound = if-all Short (map (λ r. r.literal) rs) (all-mapped (SoundReading s) (IfTyped Short) (λ r. r.literal) rs sound (λ r holds. holds.literal))

-- A vector that is sound is so with its length.
pub sound-vector : (s : Scope) (asked : Option ℕ) (v : VectorExpr) → SoundVector s asked v → is_sound_vector s (length_of v) v ≡ true
sound-vector s asked v holds = both-true (vector_worth s v).0 ((vector_worth s v).1 == length_of v) holds.holds (same-number (vector_worth s v).1 (length_of v) (vector-length s v))
