-- What typed expressions are worth.
use Rattle.std.specs.Prelude.{ℕ, Bool, not, false, List, [], map, length, replicate, Option, Some, unwrap_or}
use Rattle.std.specs.List.{range_with_len, reduce, slice_index_or}
use Rattle.vital_logic.specs.declared.level.Level.{Level}
use Rattle.vital_logic.specs.declared.level.Level.TheVariants.{U, X}
use Rattle.vital_operands.specs.declared.tree.BooleanExpr.{BooleanExpr}
use Rattle.vital_operands.specs.declared.tree.BooleanExpr.TheFolds.{fold-BooleanExpr}
use Rattle.vital_operands.specs.declared.tree.BooleanExpr.TheOpen.{BooleanExpr-F}
use Rattle.vital_operands.specs.declared.tree.ConstantName.{ConstantName}
use Rattle.vital_operands.specs.declared.tree.Control.{Control}
use Rattle.vital_operands.specs.declared.tree.LevelExpr.{LevelExpr}
use Rattle.vital_operands.specs.declared.tree.LevelExpr.TheFolds.{fold-LevelExpr, fold-TruthTableCall, fold-VectorExpr}
use Rattle.vital_operands.specs.declared.tree.LevelExpr.TheOpen.{LevelExpr-F, TruthTableCall-F, VectorExpr-F}
use Rattle.vital_operands.specs.declared.tree.TruthTableCall.{TruthTableCall}
use Rattle.vital_operands.specs.declared.tree.VectorExpr.{VectorExpr}
use Rattle.vital_primitives.specs.Operators.{converted, first, negated, operated, same_level, same_truth, truth2}
use Rattle.vital_primitives.specs.Primitives.{primitive}
use Rattle.vital_table.specs.Matches.{first_row}
use Rattle.vital_table.specs.Results.{result_at}
use Rattle.vital_table.specs.Tables.{Table}
use Rattle.vital_timing.specs.declared.delay.Delay.{Delay}

-- What a constant is worth: a level, a truth value, a time, a delay or the rows of a table.
pub data Worth : Type 0 where
  Level' : Level → Worth
  Truth : Bool → Worth
  Time : ℕ → Worth
  Delay' : Delay → Worth
  Rows : List (List ℕ) → Worth

-- What names are worth where an expression stands. In a sound tree each name that is asked for is there, so that what others are worth
-- is of no consequence.
pub record Names : Type 0 where
  -- The value of an internal signal, or of an in or inout port.
  pub signal : List ℕ → Level
  -- The levels of a variable: one, or those of a vector from left to right.
  pub variable : List ℕ → List Level
  pub constant : ConstantName → Option Worth
  pub generic : List ℕ → Delay
  pub control : Control → Bool

-- ---- constants

abbrev pub level_of : Option Worth → Level
level_of (Some (Level' l)) = l
level_of other = U

abbrev pub rows_of : Option Worth → List (List ℕ)
rows_of (Some (Rows rows)) = rows
rows_of other = []

-- ---- levels and vectors

-- A truth table has no states.
abbrev pub truth_table : List (List ℕ) → List Level → ℕ → Table
truth_table rows inputs results = record { inputs = length inputs; states = 0; results = results; rows = rows }

-- A call of VitalTruthTable (IEEE 1076.4, package VITAL_Primitives) gives the results of the first row that matches, and X for each where
-- none does.
abbrev pub truth_results : List (List ℕ) → List Level → ℕ → List Level
truth_results rows inputs results =
    let t = truth_table rows inputs results in
    map (λ number. result_at t (first_row t inputs inputs []) number X) (range_with_len 0 results)

abbrev pub LevelStep : Type 0
LevelStep = LevelExpr-F Level (List Level) (ℕ → List Level)

abbrev pub VectorStep : Type 0
VectorStep = VectorExpr-F Level (List Level) (ℕ → List Level)

abbrev pub CallStep : Type 0
CallStep = TruthTableCall-F Level (List Level) (ℕ → List Level)

abbrev pub level_step : Names → LevelStep → Level
level_step e (LevelExpr-F.LevelExpr::Literal l) = l
level_step e (LevelExpr-F.Signal name) = e.signal name
level_step e (LevelExpr-F.LevelExpr::Variable name) = first (e.variable name)
level_step e (LevelExpr-F.Element name n) = slice_index_or (e.variable name) n U
level_step e (LevelExpr-F.Constant name) = level_of (e.constant name)
level_step e (LevelExpr-F.Not t) = negated t
level_step e (LevelExpr-F.Logical operator ts) = operated operator ts
level_step e (LevelExpr-F.Primitive p ts) = primitive p ts
level_step e (LevelExpr-F.Conversion c t) = converted c t
level_step e (LevelExpr-F.LevelExpr::TruthTable call) = first (call 1)

abbrev pub vector_step : Names → VectorStep → List Level
vector_step e (VectorExpr-F.VectorExpr::Variable name n) = e.variable name
vector_step e (VectorExpr-F.Levels ts) = ts
vector_step e (VectorExpr-F.Others t n) = replicate n t
vector_step e (VectorExpr-F.VectorExpr::Literal ls) = ls
vector_step e (VectorExpr-F.VectorExpr::TruthTable call n) = call n

abbrev pub call_step : Names → CallStep → ℕ → List Level
call_step e call results = truth_results (rows_of (e.constant call.table)) call.inputs results

unfoldable pub level : Names → LevelExpr → Level
level e = fold-LevelExpr Level (List Level) (ℕ → List Level) (level_step e) (vector_step e) (call_step e)

unfoldable pub vector : Names → VectorExpr → List Level
vector e = fold-VectorExpr Level (List Level) (ℕ → List Level) (level_step e) (vector_step e) (call_step e)

-- So many results of a call of VitalTruthTable.
unfoldable pub results : Names → TruthTableCall → ℕ → List Level
results e = fold-TruthTableCall Level (List Level) (ℕ → List Level) (level_step e) (vector_step e) (call_step e)

-- ---- truth values

abbrev pub truth_step : Names → BooleanExpr-F Bool → Bool
truth_step e (BooleanExpr-F.Literal b) = b
truth_step e (BooleanExpr-F.Control c) = e.control c
truth_step e (BooleanExpr-F.SameLevels l r) = same_level (level e l) (level e r)
truth_step e (BooleanExpr-F.OtherLevels l r) = not (same_level (level e l) (level e r))
truth_step e (BooleanExpr-F.Same l r) = same_truth l r
truth_step e (BooleanExpr-F.Other l r) = not (same_truth l r)
truth_step e (BooleanExpr-F.Not t) = not t
truth_step e (BooleanExpr-F.Logical operator ts) = unwrap_or (reduce (truth2 operator) ts) false

unfoldable pub truth : Names → BooleanExpr → Bool
truth e = fold-BooleanExpr Bool (truth_step e)
