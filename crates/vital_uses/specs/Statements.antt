-- The statements of a cell.
use Rattle.std.specs.Prelude.{List, [], Option, Some, None}
use Rattle.std.specs.List.{filter_map}
use Rattle.vital_nodes.specs.declared.stmt.Conc.{Conc}
use Rattle.vital_nodes.specs.declared.stmt.Conc.TheOpen.{Conc-F}
use Rattle.vital_nodes.specs.declared.stmt.Conc.TheViews.{out-Conc}
use Rattle.vital_nodes.specs.declared.stmt.Process.{Process as Process'}
use Rattle.vital_nodes.specs.declared.unit.Arch.{Arch}
use Rattle.vital_nodes.specs.Layers.{ConcLayer}
use Rattle.vital_nodes.specs.Statements.{all_concurrent}

-- The concurrent statements of an architecture, if there is one, with those in its blocks.
abbrev pub statements : Option Arch → List Conc
statements None = []
statements (Some a) = all_concurrent a.statements

-- The process that a concurrent statement is.
abbrev pub process_in : ConcLayer → Option Process'
process_in (Conc-F.Process place label p) = Some p
process_in (Conc-F.ComponentInstance place i) = None
process_in (Conc-F.Instance place i) = None
process_in (Conc-F.Block place label b) = None
process_in (Conc-F.Call place name) = None
process_in (Conc-F.SignalAssignment place a) = None

abbrev pub process : Conc → Option Process'
process c = process_in (out-Conc c)

-- The processes of an architecture, in order.
abbrev pub processes : Option Arch → List Process'
processes arch = filter_map process (statements arch)
