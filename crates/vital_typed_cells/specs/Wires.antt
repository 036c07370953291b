-- The wire delays of a cell (IEEE 1076.4, VitalWireDelay).
use Rattle.std.specs.Prelude.{ℕ, List, ◌++◌, Option, codes}
use Rattle.std.specs.List.{filter_map}
use Rattle.std.specs.Option.{option_map}
use Rattle.vital_drivers.specs.Wires.{Wire, wire_of}
use Rattle.vital_names.specs.Sites.{Cell}
use Rattle.vital_nodes.specs.declared.stmt.Conc.{Conc}
use Rattle.vital_uses.specs.Statements.{statements}
use Rattle.vital_typed_cells.specs.declared.wire.WireDelay.{WireDelay}

-- The delay of a port is the generic of its name behind tipd_.
abbrev pub tipd : List ℕ → List ℕ
tipd port = codes "tipd_" ++ port

abbrev pub joined : Wire → WireDelay
joined w = record { signal = w.0.name; port = w.1.name; generic = tipd w.1.name }

-- The wire delay that a statement is.
abbrev pub wire : Cell → Conc → Option WireDelay
wire cell c = option_map joined (wire_of cell c)

-- One for each call, in order.
abbrev pub wires : Cell → List WireDelay
wires cell = filter_map (wire cell) (statements cell.arch)
