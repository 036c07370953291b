-- What is asked of typed trees and statements of which numbered ones are made.
use Rattle.std.specs.Prelude.{ℕ, Bool, true, List, is_some}
use Rattle.vital_cell.specs.Environments.{constant_of}
use Rattle.vital_operands.specs.declared.tree.ConstantName.{ConstantName}
use Rattle.vital_typed_cells.specs.ActualScopes.{ActualScope}
use Rattle.vital_typed_cells.specs.ExprScopes.{Scope as Tests}
use Rattle.vital_typed_cells.specs.Named.{has_element, is_glitch_data, is_period_data, is_scalar, is_timing_data, is_vector, is_x01, variable_is}
use Rattle.vital_cell.specs.Scopes.{Scope}
use Rattle.vital_table.specs.Tables.{is_table}
use Rattle.vital_typed_cells.specs.Bits.{number_of}
use Rattle.vital_typed_cells.specs.Expressions.{rows_of}

abbrev pub rows_named : Scope → ConstantName → List (List ℕ)
rows_named k name = rows_of (constant_of k.constants k.packages name)

-- A table that VitalTruthTable can use with so many inputs and results.
abbrev pub has_table : Scope → ConstantName → ℕ → ℕ → Bool
has_table k name inputs results = is_table (record { inputs = inputs; states = 0; results = results; rows = rows_named k name })

-- A table that VitalStateTable can use with so many inputs, states and results.
abbrev pub has_state_table : Scope → ConstantName → ℕ → ℕ → ℕ → Bool
has_state_table k name inputs states results = is_table (record { inputs = inputs; states = states; results = results; rows = rows_named k name })

abbrev pub has_bit : Scope → List ℕ → Bool
has_bit k name = is_some (number_of k.bits name)

abbrev pub has_vector : Scope → List ℕ → ℕ → Bool
has_vector k name n = variable_is (is_vector n) k.variables name

-- Signals are those of the bits, variables are those of the process, and tables are parted as calls say. Of other names nothing is asked.
abbrev pub tests : Scope → Tests
tests k = record {
  has_signal = has_bit k;
  has_variable = variable_is is_scalar k.variables;
  has_element = λ name n. variable_is (has_element n) k.variables name;
  has_vector = has_vector k;
  has_generic = λ d name. true;
  has_level = λ name. true;
  has_time = λ name. true;
  has_delay = λ d name. true;
  has_table = has_table k;
}

-- The same of statements.
abbrev pub statement_tests : Scope → ActualScope
statement_tests k = record {
  names = tests k;
  has_internal = λ name. true;
  has_output = λ name. true;
  has_violation = variable_is is_x01 k.variables;
  has_glitch_data = variable_is is_glitch_data k.variables;
  has_timing_data = variable_is is_timing_data k.variables;
  has_period_data = variable_is is_period_data k.variables;
}
