-- Statements that are calls (IEEE 1076-1993, 8.6 and 9.3), and the procedures that they call.
use Rattle.std.specs.Prelude.{Option, None}
use Rattle.std.specs.Option.{option_and_then}
use Rattle.vital_nodes.specs.declared.stmt.Conc.{Conc}
use Rattle.vital_nodes.specs.declared.stmt.Process.{Process}
use Rattle.vital_nodes.specs.declared.stmt.Stmt.{Stmt}
use Rattle.vital_nodes.specs.declared.stmt.Stmt.TheOpen.{Stmt-F}
use Rattle.vital_nodes.specs.declared.stmt.Stmt.TheViews.{out-Stmt}
use Rattle.vital_nodes.specs.Layers.{StmtLayer}
use Rattle.vital_nodes.specs.Calls.{call}
use Rattle.vital_names.specs.declared.predeclared.Procedure.{Procedure}
use Rattle.vital_names.specs.Kinds.{procedure_meant}
use Rattle.vital_names.specs.Meanings.{meaning}
use Rattle.vital_names.specs.Sites.{Cell}
use Rattle.vital_calls.specs.Calls.{Call, call_of}
use Rattle.vital_statements.specs.Sites.{site_at}

-- ---- statements

-- The call that a concurrent statement is.
abbrev pub call_of_conc : Conc → Option Call
call_of_conc c = option_and_then call_of (call c)

abbrev pub call_in : StmtLayer → Option Call
call_in (Stmt-F.VariableAssignment place a) = None
call_in (Stmt-F.SignalAssignment place a) = None
call_in (Stmt-F.Call place name) = call_of name
call_in (Stmt-F.If place i) = None
call_in (Stmt-F.Null place) = None

-- The call that a statement of a process is.
abbrev pub call_of_stmt : Stmt → Option Call
call_of_stmt s = call_in (out-Stmt s)

-- ---- what is called

-- The predeclared procedure that a call in a process, or outside of processes, is of.
abbrev pub procedure_of : Cell → Option Process → Call → Option Procedure
procedure_of cell process c =
    option_and_then procedure_meant (meaning c.identifier.name cell (site_at process c.identifier.place))
