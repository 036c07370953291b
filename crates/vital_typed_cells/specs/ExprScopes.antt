-- What the names in a typed expression may mean.
use Rattle.std.specs.Prelude.{ℕ, Bool, List}
use Rattle.vital_operands.specs.declared.tree.ConstantName.{ConstantName}
use Rattle.vital_timing.specs.declared.delay.DelayType.{DelayType}

-- Tests of names.
pub record Scope : Type 0 where
  -- An internal signal, or an in or inout port.
  pub has_signal : List ℕ → Bool
  -- A variable of levels or of X01.
  pub has_variable : List ℕ → Bool
  -- A vector variable with an element at a number of places behind its left end, and one of a length.
  pub has_element : List ℕ → ℕ → Bool
  pub has_vector : List ℕ → ℕ → Bool
  -- A generic of a type of delays.
  pub has_generic : DelayType → List ℕ → Bool
  -- A constant of levels, of type TIME, or of a type of delays.
  pub has_level : ConstantName → Bool
  pub has_time : ConstantName → Bool
  pub has_delay : DelayType → ConstantName → Bool
  -- A truth table with so many inputs and so many results.
  pub has_table : ConstantName → ℕ → ℕ → Bool
