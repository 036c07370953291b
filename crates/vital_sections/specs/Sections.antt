-- The sections of processes (IEEE 1076.4): the timing checks, which stand in an `if`, the functionality, and the path delays.
use Rattle.std.specs.Prelude.{List, Option, Some, None}
use Rattle.std.specs.List.{filter_map}
use Rattle.std.specs.Option.{option_and_then, option_map}
use Rattle.vital_base.specs.declared.place.Place.{Place}
use Rattle.vital_call_clauses.specs.WrongCalls.{has_vector_result}
use Rattle.vital_calls.specs.Calls.{Call}
use Rattle.vital_calls.specs.Formals.{formals_of_procedure}
use Rattle.vital_names.specs.declared.predeclared.Procedure.{Procedure}
use Rattle.vital_names.specs.declared.predeclared.Procedure.TheVariants as procedure
use Rattle.vital_names.specs.Sites.{Cell}
use Rattle.vital_nodes.specs.declared.stmt.Process.{Process}
use Rattle.vital_nodes.specs.declared.stmt.Stmt.{Stmt}
use Rattle.vital_nodes.specs.declared.stmt.Stmt.TheOpen.{Stmt-F}
use Rattle.vital_nodes.specs.declared.stmt.Stmt.TheViews.{out-Stmt}
use Rattle.vital_nodes.specs.Layers.{StmtLayer}
use Rattle.vital_statements.specs.Called.{call_of_stmt, procedure_of}
use Rattle.vital_statements.specs.Sites.{site_at}
use Rattle.vital_typed_statements.specs.declared.statement.TypedStatement.{TypedStatement}
use Rattle.vital_typed_statements.specs.declared.statement.TypedStatement.TheVariants as statement
use Rattle.vital_typed_statements.specs.Statements.{assignment, context}
use Rattle.vital_nodes.specs.Statements.{all_sequential}
use Rattle.vital_sections.specs.declared.path_delay.PathDelay.{PathDelay}
use Rattle.vital_sections.specs.declared.sections.FunctionalStatement.{FunctionalStatement}
use Rattle.vital_sections.specs.declared.sections.FunctionalStatement.TheVariants as functional
use Rattle.vital_sections.specs.declared.sections.Sections.{Sections}
use Rattle.vital_sections.specs.declared.timing_check.TimingCheck.{TimingCheck}
use Rattle.vital_sections.specs.Given.{GivenCall}
use Rattle.vital_sections.specs.PathDelays.{path_delay}
use Rattle.vital_sections.specs.StateTables.{state_table}
use Rattle.vital_sections.specs.TimingChecks.{timing_check}

-- ---- calls

-- A call of a procedure in a process.
abbrev pub given_call : Cell → List Place → Process → Call → Procedure → GivenCall
given_call cell faults p c q = record {
  context = context cell (Some p) faults;
  formals = formals_of_procedure q (has_vector_result cell (site_at (Some p) c.identifier.place) c.items);
  items = c.items;
}

-- The predeclared procedure that a statement calls, and the call.
abbrev pub called_by : Cell → List Place → Process → Call → Option (Procedure × GivenCall)
called_by cell faults p c = option_map (λ q. (q, given_call cell faults p c q)) (procedure_of cell (Some p) c)

abbrev pub called : Cell → List Place → Process → Stmt → Option (Procedure × GivenCall)
called cell faults p s = option_and_then (called_by cell faults p) (call_of_stmt s)

-- ---- statements

abbrev pub check_called : Procedure → GivenCall → Option TimingCheck
check_called procedure.WireDelay k = None
check_called procedure.StateTable k = None
check_called (procedure.PathDelay d) k = None
check_called (procedure.Check c) k = timing_check k c

-- The timing check that a statement is.
abbrev pub check : Cell → List Place → Process → Stmt → Option TimingCheck
check cell faults p s = option_and_then (λ c. check_called c.0 c.1) (called cell faults p s)

abbrev pub path_delay_called : Procedure → GivenCall → Option PathDelay
path_delay_called procedure.WireDelay k = None
path_delay_called procedure.StateTable k = None
path_delay_called (procedure.PathDelay d) k = path_delay k d
path_delay_called (procedure.Check c) k = None

-- The path delay that a statement is.
abbrev pub path_delay_of : Cell → List Place → Process → Stmt → Option PathDelay
path_delay_of cell faults p s = option_and_then (λ c. path_delay_called c.0 c.1) (called cell faults p s)

abbrev pub state_table_called : Procedure → GivenCall → Option FunctionalStatement
state_table_called procedure.WireDelay k = None
state_table_called procedure.StateTable k = option_map (λ t. functional.StateTable t) (state_table k)
state_table_called (procedure.PathDelay d) k = None
state_table_called (procedure.Check c) k = None

abbrev pub assigned : TypedStatement → Option FunctionalStatement
assigned (statement.Assignment t v) = Some (functional.Assignment t v)
assigned _ = None

abbrev pub functional_in : Cell → List Place → Process → Stmt → StmtLayer → Option FunctionalStatement
functional_in cell faults p s (Stmt-F.VariableAssignment place a) = option_and_then assigned (assignment (context cell (Some p) faults) a).tree
functional_in cell faults p s other = option_and_then (λ c. state_table_called c.0 c.1) (called cell faults p s)

-- The assignment or the call of VitalStateTable that a statement is.
abbrev pub functional_statement : Cell → List Place → Process → Stmt → Option FunctionalStatement
functional_statement cell faults p s = functional_in cell faults p s (out-Stmt s)

-- ---- sections

-- Statements in sections, each in the order of the text.
abbrev pub sections_of : Cell → List Place → Process → List Stmt → Sections
sections_of cell faults p ss = record {
  checks = filter_map (check cell faults p) ss;
  functionality = filter_map (functional_statement cell faults p) ss;
  path_delays = filter_map (path_delay_of cell faults p) ss;
}

-- Those of a process. Where it meets Level 1 the checks are those in its `if`, and the sections stand one after the other.
abbrev pub sections : Cell → List Place → Process → Sections
sections cell faults p = sections_of cell faults p (all_sequential p.statements)
