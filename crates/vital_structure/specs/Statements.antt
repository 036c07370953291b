-- What a netlist unit states: instances (IEEE 1076-1993, clause 9).
use Rattle.std.specs.Prelude.{List, map, ◌++◌}
use Rattle.vital_base.specs.declared.place.Place.{Place}
use Rattle.vital_nodes.specs.declared.stmt.Conc.{Conc}
use Rattle.vital_nodes.specs.declared.stmt.Conc.TheOpen.{Conc-F}
use Rattle.vital_nodes.specs.declared.stmt.Conc.TheViews.{out-Conc}
use Rattle.vital_nodes.specs.declared.stmt.Instance.{Instance as Instance'}
use Rattle.vital_nodes.specs.declared.unit.Arch.{Arch}
use Rattle.vital_nodes.specs.declared.unit.Entity.{Entity}
use Rattle.vital_nodes.specs.Layers.{ConcLayer}
use Rattle.vital_structure.specs.declared.statement.Statement.{Statement as Statement'}
use Rattle.vital_structure.specs.declared.statement.Statement.TheVariants as borrowed

-- What a statement is in a netlist unit: an instance, or one that stands in no netlist, by its place.
pub data Statement : Type 0 where
  Instance : Instance' → Statement
  NotStructural : Place → Statement

-- What is borrowed of it.
abbrev pub lent : Statement' → Statement
lent (borrowed.Instance i) = Instance i.now
lent (borrowed.NotStructural place) = NotStructural place

-- A name with a label is an instance, also without maps (9.6).
abbrev pub statement_in : ConcLayer → Statement
statement_in (Conc-F.Process place label p) = NotStructural place
statement_in (Conc-F.ComponentInstance place i) = Instance i
statement_in (Conc-F.Instance place i) = Instance i
statement_in (Conc-F.Block place label b) = NotStructural place
statement_in (Conc-F.Call place name) = NotStructural place
statement_in (Conc-F.SignalAssignment place a) = NotStructural place

abbrev pub statement_of : Conc → Statement
statement_of c = statement_in (out-Conc c)

-- The statements of the entity and of the architecture.
abbrev pub statements : Entity → Arch → List Statement
statements e a = map statement_of e.statements ++ map statement_of a.statements
