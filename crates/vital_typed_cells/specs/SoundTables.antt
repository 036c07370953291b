-- Calls of VitalStateTable in which each name is in a scope, and the actuals go with one another.
use Rattle.std.specs.Prelude.{◌≡◌, ℕ, ◌+◌, ◌≤◌, Bool, true, List, [], Option, Some, codes}
use Rattle.std.specs.Option.{option_and_then}
use Rattle.vital_actuals.specs.declared.target.Target.TheVariants as target
use Rattle.vital_calls.specs.declared.actual_form.ActualForm.TheVariants as form
use Rattle.vital_calls.specs.Formals.{formals_of_state_table}
use Rattle.vital_expr.specs.Vectors.{length_of}
use Rattle.vital_sections.specs.declared.state_table.StateTable.{StateTable}
use Rattle.vital_sections.specs.Given.{GivenCall, given, result_given}
use Rattle.vital_typed_statements.specs.Given.{all_given}
use Rattle.vital_typed_statements.specs.StateTables.{columns_in, results_of}
use Rattle.vital_typed_statements.specs.Statements.{state_table_call}
use Rattle.vital_typed_cells.specs.SoundActuals.{is_sound_target}
use Rattle.vital_typed_cells.specs.ExprScopes.{Scope}
use Rattle.vital_typed_cells.specs.Trees.{is_sound_vector}

-- No name in a call breaks another clause, its actuals are of their forms and go with one another, and a vector is what its results are put
-- to only where the number of states is one of its formals.
pub record GoTogether (k : GivenCall) (has_states : Bool) : Type 0 where
  pub none : k.context.faults ≡ []
  pub formals : k.formals ≡ formals_of_state_table has_states
  pub whole : (state_table_call k.context k.formals k.items (all_given k.context k.formals k.items)).places ≡ []
  pub vectors : (name : List ℕ) (n : ℕ) → result_given k ≡ Some (target.Vector name n) → has_states ≡ true

-- How many columns the table of a call has.
abbrev pub columns_given : GivenCall → Option ℕ
columns_given k = option_and_then columns_in (given k (codes "statetable") form.StateTable)

-- The inputs and what results are put to are sound; the states are at most as many as the results; the columns of the table are the inputs,
-- the states and the results; and a vector variable as long as the inputs keeps them.
pub record IsSoundStateTable (s : Scope) (k : GivenCall) (t : StateTable) : Type 0 where
  pub inputs : is_sound_vector s (length_of t.data_in) t.data_in ≡ true
  pub result : is_sound_target s t.result ≡ true
  pub states : t.num_states ≤ results_of t.result
  pub columns : columns_given k ≡ Some (length_of t.data_in + t.num_states + results_of t.result)
  pub kept : s.has_vector t.previous_data_in (length_of t.data_in) ≡ true
