-- Calls of VitalStateTable (IEEE 1076.4, package VITAL_Primitives) by what is given for their formals.
use Rattle.std.specs.Prelude.{ℕ, List, Option, Some, None}
use Rattle.std.specs.Option.{option_and_then, option_map}
use Rattle.vital_actuals.specs.declared.target.Target.{Target}
use Rattle.vital_actuals.specs.declared.target.Target.TheVariants as target
use Rattle.vital_operands.specs.declared.tree.ConstantName.{ConstantName}
use Rattle.vital_operands.specs.declared.tree.VectorExpr.{VectorExpr}
use Rattle.vital_typed_statements.specs.StateTables.{states_of}
use Rattle.vital_sections.specs.declared.state_table.StateTable.{StateTable}
use Rattle.vital_sections.specs.Given.{GivenCall, count_given, inputs_given, kept_given, result_given, table_given}

-- The vector variable that keeps the inputs.
abbrev pub vector_in : Target → Option (List ℕ)
vector_in (target.Level name) = None
vector_in (target.Element name n) = None
vector_in (target.Vector name n) = Some name

abbrev pub state_table_with : ConstantName → VectorExpr → Target → ℕ → List ℕ → StateTable
state_table_with table inputs result states kept =
    record { table = table; data_in = inputs; result = result; num_states = states; previous_data_in = kept }

abbrev pub with_kept : GivenCall → ConstantName → VectorExpr → Target → ℕ → Option StateTable
with_kept k table inputs result states = option_map (state_table_with table inputs result states) (option_and_then vector_in (kept_given k))

-- The number of states is 1 for one level, and the one that is given for a vector.
abbrev pub with_states : GivenCall → ConstantName → VectorExpr → Target → Option StateTable
with_states k table inputs result = option_and_then (with_kept k table inputs result) (states_of (count_given k) result)

abbrev pub with_result : GivenCall → ConstantName → VectorExpr → Option StateTable
with_result k table inputs = option_and_then (with_states k table inputs) (result_given k)

abbrev pub with_inputs : GivenCall → ConstantName → Option StateTable
with_inputs k table = option_and_then (with_result k table) (inputs_given k)

-- A call of VitalStateTable.
abbrev pub state_table : GivenCall → Option StateTable
state_table k = option_and_then (with_inputs k) (table_given k)
