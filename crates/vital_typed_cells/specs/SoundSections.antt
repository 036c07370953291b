-- Sections of processes in which each name is in a scope, and means what is asked of it.
use Rattle.std.specs.Prelude.{Bool, ◌&&◌, nat_le}
use Rattle.std.specs.List.{list_all}
use Rattle.vital_expr.specs.Vectors.{length_of}
use Rattle.vital_sections.specs.declared.sections.FunctionalStatement.{FunctionalStatement}
use Rattle.vital_sections.specs.declared.sections.FunctionalStatement.TheVariants as functional
use Rattle.vital_sections.specs.declared.sections.Sections.{Sections}
use Rattle.vital_sections.specs.declared.state_table.StateTable.{StateTable}
use Rattle.vital_typed_cells.specs.ActualScopes.{ActualScope}
use Rattle.vital_typed_cells.specs.SoundActuals.{is_sound_target}
use Rattle.vital_typed_cells.specs.ExprScopes.{Scope}
use Rattle.vital_typed_cells.specs.Trees.{is_sound_vector}
use Rattle.vital_typed_cells.specs.SoundStatements.{is_sound_check, is_sound_path_delay}
use Rattle.vital_typed_cells.specs.SoundAssignments.{is_sound_value}
use Rattle.vital_typed_statements.specs.StateTables.{results_of}
use Rattle.vital_typed_cells.specs.Scopes.{StateTableTest}

-- The columns of the table are the inputs, so many states and the results; the states are at most as many as the results; and a vector
-- variable as long as the inputs keeps them.
abbrev pub is_sound_state_table : StateTableTest → Scope → StateTable → Bool
is_sound_state_table has_state_table s t =
    is_sound_vector s (length_of t.data_in) t.data_in
    && (is_sound_target s t.result
    && (nat_le t.num_states (results_of t.result)
    && (has_state_table t.table (length_of t.data_in) t.num_states (results_of t.result)
    && s.has_vector t.previous_data_in (length_of t.data_in))))

abbrev pub is_sound_functional : StateTableTest → Scope → FunctionalStatement → Bool
is_sound_functional has_state_table s (functional.Assignment t v) = is_sound_target s t && is_sound_value s t v
is_sound_functional has_state_table s (functional.StateTable t) = is_sound_state_table has_state_table s t

abbrev pub are_sound_sections : StateTableTest → ActualScope → Sections → Bool
are_sound_sections has_state_table s k =
    list_all (is_sound_check s) k.checks
    && (list_all (is_sound_functional has_state_table s.names) k.functionality && list_all (is_sound_path_delay s) k.path_delays)
