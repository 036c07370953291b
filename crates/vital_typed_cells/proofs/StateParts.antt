-- What a call of VitalStateTable is read as, and the table that it uses.
use Rattle.std.proofs.Common.{◌≡◌, ◌+◌, Bool, Some, None, ap, ◌∙◌}
use Rattle.std.specs.Prelude.{◌&&◌, cond, not, IfSome}
use Rattle.std.specs.Option.{option_and_then, option_map}
use Rattle.vital_expr.specs.Vectors.{length_of}
use Rattle.vital_sections.specs.declared.state_table.StateTable.{StateTable}
use Rattle.vital_sections.specs.Given.{GivenCall, count_given, inputs_given, kept_given, result_given, table_given}
use Rattle.vital_sections.specs.StateTables.{state_table, state_table_with, vector_in, with_inputs, with_kept, with_result, with_states}
use Rattle.vital_typed_statements.specs.StateTables.{count, has_wrong_inputs, inputs, result, results_of, states_of}
use Rattle.vital_typed_statements.specs.Uses.{parting, parting_by, parting_for}
use Rattle.vital_typed_cells.specs.SoundTables.{GoTogether, IsSoundStateTable}
use Rattle.vital_typed_cells.proofs.StateTables.{all-typed, columns-law, few-enough, if-is, if-made, inputs-law, is-there, result-law, right-inputs, states-law}
use Rattle.vital_typed_cells.specs.ExprScopes.{Scope}

-- What is given for the formals is what the call is read as.
pub record IsReadAs (k : GivenCall) (t : StateTable) : Type 0 where
  pub table : table_given k ≡ Some t.table
  pub inputs : inputs_given k ≡ Some t.data_in
  pub result : result_given k ≡ Some t.result
  pub states : states_of (count_given k) t.result ≡ Some t.num_states

pub read-as : (k : GivenCall) → IfSome (state_table k) (IsReadAs k)
read-as k =
    if-is (IsReadAs k) (with_inputs k) (table_given k)
    (λ table tabled. if-is (IsReadAs k) (with_result k table) (inputs_given k)
    (λ v given. if-is (IsReadAs k) (with_states k table v) (result_given k)
    (λ r is. if-is (IsReadAs k) (with_kept k table v r) (states_of (count_given k) r)
    (λ n states. if-made (IsReadAs k) (state_table_with table v r n) (option_and_then vector_in (kept_given k))
    (λ name keeps. record { table = tabled; inputs = given; result = is; states = states })))))

-- Inputs and states are those by which the columns are parted.
pub parted-as : (s : Scope) (k : GivenCall) (b : Bool) (t : StateTable) → GoTogether k b → IsReadAs k t → IsSoundStateTable s k t → parting (all-typed k) ≡ Some (length_of t.data_in, t.num_states)
parted-as s k b t go read sound =
    let gs = all-typed k in
    let len : inputs gs ≡ Some (length_of t.data_in) = inputs-law k b go ∙ ap (option_map length_of) read.inputs in
    ap (λ x. cond (not x && not (has_wrong_inputs gs)) (option_and_then (parting_for gs) (result gs)) None) (few-enough k b go)
    ∙ ap (λ x. cond (not x) (option_and_then (parting_for gs) (result gs)) None) (right-inputs k b go (is-there (inputs gs) (length_of t.data_in) len))
    ∙ ap (option_and_then (parting_for gs)) (result-law k b go ∙ read.result)
    ∙ ap (λ o. parting_by o (inputs gs) (states_of (count gs) t.result)) (columns-law k b go ∙ sound.columns)
    ∙ ap (λ o. parting_by (Some (length_of t.data_in + t.num_states + results_of t.result)) o (states_of (count gs) t.result)) len
    ∙ ap (λ o. parting_by (Some (length_of t.data_in + t.num_states + results_of t.result)) (Some (length_of t.data_in)) o) (states-law k b t.result go read.result ∙ read.states)
