-- What the names in actuals may mean.
use Rattle.std.specs.Prelude.{ℕ, Bool, List}
use Rattle.vital_typed_cells.specs.ExprScopes.{Scope}

-- A scope of expressions, and tests of names that only actuals give.
pub record ActualScope : Type 0 where
  pub names : Scope
  -- An internal signal, and an out, inout or buffer port.
  pub has_internal : List ℕ → Bool
  pub has_output : List ℕ → Bool
  -- A variable of type X01 itself, and one that keeps what a path delay, a check of two signals or a check of one knows.
  pub has_violation : List ℕ → Bool
  pub has_glitch_data : List ℕ → Bool
  pub has_timing_data : List ℕ → Bool
  pub has_period_data : List ℕ → Bool
