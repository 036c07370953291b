-- What is kept of the cells and instances of a design.

use Rattle.vital_annotate.specs.Instances.{CellInstance}
use Rattle.vital_annotate.specs.declared.target.Target.{Target}
use Rattle.vital_netlist.specs.Designs.{Design, labels}

-- An instance of a cell of a design, as it is kept.
abbrev pub found : Design → Target → CellInstance
found d t = record { labels = labels d t.instance; entity = t.entity.now; cell = t.cell.now }
