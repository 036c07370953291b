-- The sections of a process (IEEE 1076.4): timing checks, then functionality, then path delays.
use Rattle.std.specs.Prelude.{Bool, true, false, Option, Some, None, if◌then◌else◌}
use Rattle.std.specs.Option.{option_and_then}
use Rattle.vital_nodes.specs.declared.stmt.Process.{Process}
use Rattle.vital_nodes.specs.declared.stmt.Stmt.{Stmt}
use Rattle.vital_nodes.specs.declared.stmt.Stmt.TheOpen.{Stmt-F}
use Rattle.vital_nodes.specs.declared.stmt.Stmt.TheViews.{out-Stmt}
use Rattle.vital_nodes.specs.Layers.{StmtLayer}
use Rattle.vital_names.specs.declared.predeclared.Procedure.{Procedure}
use Rattle.vital_names.specs.declared.predeclared.Procedure.TheVariants as procedure_is
use Rattle.vital_names.specs.Sites.{Cell}
use Rattle.vital_statements.specs.declared.section.Section.{Section}
use Rattle.vital_statements.specs.declared.section.Section.TheVariants.{Checks, Functionality, PathDelays}
use Rattle.vital_calls.specs.Calls.{call_of}
use Rattle.vital_statements.specs.Called.{procedure_of}

-- A section stands after another.
abbrev pub is_later : Section → Section → Bool
is_later Checks other = false
is_later Functionality Checks = true
is_later Functionality Functionality = false
is_later Functionality PathDelays = false
is_later PathDelays Checks = true
is_later PathDelays Functionality = true
is_later PathDelays PathDelays = false

-- The later of the latest section and the next one, if there is one.
abbrev pub latest_of : Option Section → Section → Section
latest_of None latest = latest
latest_of (Some section) latest = if is_later section latest then section else latest

abbrev pub section_of_procedure : Procedure → Option Section
section_of_procedure procedure_is.WireDelay = None
section_of_procedure procedure_is.StateTable = Some Functionality
section_of_procedure (procedure_is.PathDelay t) = Some PathDelays
section_of_procedure (procedure_is.Check c) = None

abbrev pub section_in : Cell → Process → StmtLayer → Option Section
section_in cell process (Stmt-F.VariableAssignment place a) = Some Functionality
section_in cell process (Stmt-F.SignalAssignment place a) = None
section_in cell process (Stmt-F.Call place name) =
    option_and_then (λ c. option_and_then section_of_procedure (procedure_of cell (Some process) c)) (call_of name)
section_in cell process (Stmt-F.If place i) = Some Checks
section_in cell process (Stmt-F.Null place) = None

-- The section that a statement of a process belongs to, if it is one that may stand there.
abbrev pub section_of : Cell → Process → Stmt → Option Section
section_of cell process s = section_in cell process (out-Stmt s)
