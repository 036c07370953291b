-- The statements among nodes.
use Rattle.std.specs.Prelude.{List, [], ◌++◌, Option, Some, None}
use Rattle.std.specs.List.{filter_map, flat_map}
use Rattle.std.specs.Option.{option_map_or}
use Rattle.vital_nodes.specs.declared.stmt.Branch.{Branch}
use Rattle.vital_nodes.specs.declared.stmt.Conc.{Conc}
use Rattle.vital_nodes.specs.declared.stmt.Conc.TheOpen.{Conc-F}
use Rattle.vital_nodes.specs.declared.stmt.Conc.TheViews.{out-Conc}
use Rattle.vital_nodes.specs.declared.stmt.If.{If}
use Rattle.vital_nodes.specs.declared.stmt.Stmt.{Stmt}
use Rattle.vital_nodes.specs.declared.stmt.Stmt.TheOpen.{Stmt-F}
use Rattle.vital_nodes.specs.declared.stmt.Stmt.TheViews.{out-If, out-Stmt}
use Rattle.vital_nodes.specs.Layers.{ConcLayer, StmtLayer}
use Rattle.vital_nodes.specs.Nodes.{Node, Declaration, Interface, Concurrent, Sequential, Expression, Item, Name, concurrents, sequentials}
use Rattle.vital_nodes.specs.Walk.{nodes_of_all}

-- The concurrent statement that a node is.
abbrev pub concurrent : Node → Option Conc
concurrent (Declaration d) = None
concurrent (Interface i) = None
concurrent (Concurrent c) = Some c
concurrent (Sequential s) = None
concurrent (Expression e) = None
concurrent (Item i) = None
concurrent (Name r) = None

-- The statement of a process that a node is.
abbrev pub sequential : Node → Option Stmt
sequential (Declaration d) = None
sequential (Interface i) = None
sequential (Concurrent c) = None
sequential (Sequential s) = Some s
sequential (Expression e) = None
sequential (Item i) = None
sequential (Name r) = None

-- Concurrent statements with those in their blocks, in the order of the text.
abbrev pub all_concurrent : List Conc → List Conc
all_concurrent cs = filter_map concurrent (nodes_of_all (concurrents cs))

-- Statements of a process with those in their `if`s, in the order of the text.
abbrev pub all_sequential : List Stmt → List Stmt
all_sequential ss = filter_map sequential (nodes_of_all (sequentials ss))

-- ---- those in one statement

-- The statements of a block.
abbrev pub in_conc_layer : ConcLayer → List Conc
in_conc_layer (Conc-F.Process place label p) = []
in_conc_layer (Conc-F.ComponentInstance place i) = []
in_conc_layer (Conc-F.Instance place i) = []
in_conc_layer (Conc-F.Block place label b) = all_concurrent b.statements
in_conc_layer (Conc-F.Call place name) = []
in_conc_layer (Conc-F.SignalAssignment place a) = []

abbrev pub in_concurrent : Conc → List Conc
in_concurrent c = in_conc_layer (out-Conc c)

-- Those of a branch, and of an `if`.
abbrev pub in_branch : Branch → List Stmt
in_branch b = all_sequential b.statements

abbrev pub in_if : If → List Stmt
in_if i = flat_map in_branch (out-If i).branches ++ option_map_or all_sequential (out-If i).otherwise []

abbrev pub in_stmt_layer : StmtLayer → List Stmt
in_stmt_layer (Stmt-F.VariableAssignment place a) = []
in_stmt_layer (Stmt-F.SignalAssignment place a) = []
in_stmt_layer (Stmt-F.Call place name) = []
in_stmt_layer (Stmt-F.If place i) = in_if i
in_stmt_layer (Stmt-F.Null place) = []

abbrev pub in_sequential : Stmt → List Stmt
in_sequential s = in_stmt_layer (out-Stmt s)
