-- The statements of an architecture and of its processes (IEEE 1076-1993, clauses 8 and 9).
use Rattle.std.specs.Prelude.{List, [], ◌++◌, Option, Some, None, unwrap_or, is_some, Bool}
use Rattle.std.specs.List.{flat_map}
use Rattle.std.specs.Option.{option_map_or}
use Rattle.vital_nodes.specs.declared.identifier.Identifier.{Identifier}
use Rattle.vital_nodes.specs.declared.stmt.Block.{Block}
use Rattle.vital_nodes.specs.declared.stmt.Conc.{Conc}
use Rattle.vital_nodes.specs.declared.stmt.Conc.TheOpen.{Conc-F}
use Rattle.vital_nodes.specs.declared.stmt.Conc.TheViews.{out-Conc}
use Rattle.vital_nodes.specs.declared.stmt.If.{If}
use Rattle.vital_nodes.specs.declared.stmt.Process.{Process}
use Rattle.vital_nodes.specs.declared.stmt.Stmt.{Stmt}
use Rattle.vital_nodes.specs.declared.stmt.Stmt.TheOpen.{Stmt-F}
use Rattle.vital_nodes.specs.declared.stmt.Stmt.TheViews.{out-If, out-Stmt}
use Rattle.vital_nodes.specs.Layers.{ConcLayer, StmtLayer}
use Rattle.vital_names.specs.Sites.{Cell}

-- The statements of the architecture of a cell, if it has one.
abbrev pub statements_of : Cell → List Conc
statements_of cell = option_map_or (λ a. a.statements) cell.arch []

abbrev pub process_in : ConcLayer → Option Process
process_in (Conc-F.Process place label p) = Some p
process_in (Conc-F.ComponentInstance place i) = None
process_in (Conc-F.Instance place i) = None
process_in (Conc-F.Block place label b) = None
process_in (Conc-F.Call place name) = None
process_in (Conc-F.SignalAssignment place a) = None

-- The process that a concurrent statement is.
abbrev pub as_process : Conc → Option Process
as_process c = process_in (out-Conc c)

abbrev pub block_in : ConcLayer → Option (Identifier × Block)
block_in (Conc-F.Process place label p) = None
block_in (Conc-F.ComponentInstance place i) = None
block_in (Conc-F.Instance place i) = None
block_in (Conc-F.Block place label b) = Some (label, b)
block_in (Conc-F.Call place name) = None
block_in (Conc-F.SignalAssignment place a) = None

-- The block that a concurrent statement is, with its label.
abbrev pub as_block : Conc → Option (Identifier × Block)
as_block c = block_in (out-Conc c)

abbrev pub is_block : Conc → Bool
is_block c = is_some (as_block c)

abbrev pub if_in : StmtLayer → Option If
if_in (Stmt-F.VariableAssignment place a) = None
if_in (Stmt-F.SignalAssignment place a) = None
if_in (Stmt-F.Call place name) = None
if_in (Stmt-F.If place i) = Some i
if_in (Stmt-F.Null place) = None

-- The `if` that a statement of a process is.
abbrev pub as_if : Stmt → Option If
as_if s = if_in (out-Stmt s)

abbrev pub is_if : Stmt → Bool
is_if s = is_some (as_if s)

-- The statements that stand in an `if` itself, in all its branches and after `else`.
abbrev pub statements_in_if : If → List Stmt
statements_in_if i = flat_map (λ b. b.statements) (out-If i).branches ++ unwrap_or (out-If i).otherwise []
