-- The scopes of a cell: what the names in its typed trees may mean.
use Rattle.std.specs.Prelude.{ℕ, Bool, ◌||◌, List, [], ◌++◌, Option}
use Rattle.vital_typed_cells.specs.declared.typed_cell.TypedCell.{TypedCell}
use Rattle.vital_typed_cells.specs.declared.process.CellProcess.{CellProcess}
use Rattle.vital_declarations.specs.declared.declared_type.TableType.TheVariants as table
use Rattle.vital_objects.specs.declared.constant.Constant.{Constant}
use Rattle.vital_objects.specs.declared.generic.PlainGeneric.{PlainGeneric}
use Rattle.vital_objects.specs.declared.generic.TimingGeneric.{TimingGeneric}
use Rattle.vital_objects.specs.declared.package_value.PackageValue.{PackageValue}
use Rattle.vital_objects.specs.declared.port.Port.{Port}
use Rattle.vital_objects.specs.declared.signal.Signal.{Signal}
use Rattle.vital_objects.specs.declared.variable.Variable.{Variable}
use Rattle.vital_operands.specs.declared.tree.ConstantName.{ConstantName}
use Rattle.vital_typed_cells.specs.ActualScopes.{ActualScope}
use Rattle.vital_typed_cells.specs.ExprScopes.{Scope}
use Rattle.vital_typed_cells.specs.Fitting.{is_table}
use Rattle.vital_typed_cells.specs.Named.{constant_is, has_element, is_delay, is_glitch_data, is_input_port, is_internal, is_level, is_output_port, is_package_delay, is_package_level, is_package_time, is_period_data, is_plain_generic, is_scalar, is_time, is_timing_data, is_timing_generic, is_vector, is_x01, variable_is}

-- What is seen from a place: ports and signals, generics, constants of the cell, what the constants of packages are worth, and variables.
pub record Visible : Type 0 where
  pub ports : List Port
  pub signals : List Signal
  pub timing_generics : List TimingGeneric
  pub plain_generics : List PlainGeneric
  pub constants : List Constant
  pub packages : List (Option PackageValue)
  pub variables : List Variable

-- The tests of the names that are seen.
abbrev pub scope_of : Visible → Scope
scope_of v = record {
  has_signal = λ name. is_input_port v.ports name || is_internal v.signals name;
  has_variable = variable_is is_scalar v.variables;
  has_element = λ name n. variable_is (has_element n) v.variables name;
  has_vector = λ name n. variable_is (is_vector n) v.variables name;
  has_generic = λ d name. is_timing_generic v.timing_generics d name || is_plain_generic v.plain_generics d name;
  has_level = constant_is is_level is_package_level v.constants v.packages;
  has_time = constant_is is_time is_package_time v.constants v.packages;
  has_delay = λ d. constant_is (is_delay d) (is_package_delay d) v.constants v.packages;
  has_table = λ name inputs results. is_table table.Truth inputs 0 results v.constants v.packages name;
}

-- ---- what is seen in a cell

-- Nothing but constants of packages, which are worth these.
abbrev pub of_packages : List (Option PackageValue) → Visible
of_packages known =
    record { ports = []; signals = []; timing_generics = []; plain_generics = []; constants = []; packages = known; variables = [] }

-- In an interface nothing is seen but these.
abbrev pub in_interface : TypedCell → Visible
in_interface c = of_packages c.packages

-- Values of constants, and defaults of variables, see generics and some constants of the cell.
abbrev pub in_values : TypedCell → List Constant → Visible
in_values c cs = record {
  ports = [];
  signals = [];
  timing_generics = c.generics;
  plain_generics = c.plain_generics;
  constants = cs;
  packages = c.packages;
  variables = [];
}

-- Statements of a process see all that the cell and the process declare.
abbrev pub in_process : TypedCell → CellProcess → Visible
in_process c p = record {
  ports = c.ports;
  signals = c.signals;
  timing_generics = c.generics;
  plain_generics = c.plain_generics;
  constants = p.constants ++ c.constants;
  packages = c.packages;
  variables = p.variables;
}

-- What actuals may name in the statements of a process.
abbrev pub actuals_in : TypedCell → CellProcess → ActualScope
actuals_in c p = record {
  names = scope_of (in_process c p);
  has_internal = is_internal c.signals;
  has_output = is_output_port c.ports;
  has_violation = variable_is is_x01 p.variables;
  has_glitch_data = variable_is is_glitch_data p.variables;
  has_timing_data = variable_is is_timing_data p.variables;
  has_period_data = variable_is is_period_data p.variables;
}

-- A state table with so many inputs, states and results.
abbrev pub StateTableTest : Type 0
StateTableTest = ConstantName → ℕ → ℕ → ℕ → Bool

abbrev pub state_tables_in : Visible → StateTableTest
state_tables_in v name inputs states results = is_table table.State inputs states results v.constants v.packages name
