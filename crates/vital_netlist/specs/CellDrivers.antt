-- The bits that the statements of a cell drive (IEEE 1076-1993, 12.6.1).
use Rattle.std.specs.Prelude.{ℕ, List, ◌++◌, map, take, drop}
use Rattle.std.specs.List.{filter_map, flat_map}
use Rattle.vital_typed_cells.specs.declared.process.CellProcess.{CellProcess}
use Rattle.vital_typed_cells.specs.declared.typed_cell.TypedCell.{TypedCell}
use Rattle.vital_typed_cells.specs.Bits.{names_of, number_of}

-- The ports that the path delays of a process drive.
abbrev pub driven_by : CellProcess → List (List ℕ)
driven_by p = map (λ d. d.out_signal) p.sections.path_delays

-- What the statements of a cell drive, in order: each wire delay a signal, and each path delay a port.
abbrev pub driven : TypedCell → List (List ℕ)
driven c =
    flat_map driven_by (take c.processes_before_wires c.processes)
    ++ map (λ w. w.signal) c.wires
    ++ flat_map driven_by (drop c.processes_before_wires c.processes)

-- The numbers of these bits, from 0: those of the ports, and then those of the internal signals.
abbrev pub driven_numbers : TypedCell → List ℕ
driven_numbers c = filter_map (number_of (names_of c.ports c.signals)) (driven c)
