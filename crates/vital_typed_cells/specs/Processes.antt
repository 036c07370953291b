-- The processes of a cell.
use Rattle.std.specs.Prelude.{ℕ, Bool, is_some, List, map, not, Option, Some}
use Rattle.std.specs.List.{count_by, filter_map, take_while}
use Rattle.std.specs.Option.{option_and_then}
use Rattle.vital_base.specs.declared.place.Place.{Place}
use Rattle.vital_names.specs.Sites.{Cell}
use Rattle.vital_nodes.specs.declared.expr.Reference.{Reference}
use Rattle.vital_nodes.specs.declared.stmt.Conc.{Conc}
use Rattle.vital_nodes.specs.declared.stmt.Process.{Process}
use Rattle.vital_sections.specs.Sections.{sections}
use Rattle.vital_statements.specs.Statements.{as_process, is_block, statements_of}
use Rattle.vital_uses.specs.Statements.{processes as processes_of}
use Rattle.vital_nodes.specs.Names.{plain_identifier}
use Rattle.vital_typed_cells.specs.declared.process.CellProcess.{CellProcess}
use Rattle.vital_typed_cells.specs.Bits.{names_of, number_of}
use Rattle.vital_objects.specs.Constants.{constants}
use Rattle.vital_objects.specs.Ports.{ports}
use Rattle.vital_objects.specs.Signals.{signals}
use Rattle.vital_objects.specs.Variables.{variables}

-- ---- sensitivity

-- The names of the bits of a cell: those of its ports, and then those of its internal signals.
abbrev pub bits : Cell → List Place → List (List ℕ)
bits cell faults = names_of (ports cell faults) (signals cell)

abbrev pub number_listed : List (List ℕ) → Reference → Option ℕ
number_listed names r = option_and_then (λ i. number_of names i.name) (plain_identifier r)

-- The numbers of the bits to which a process is sensitive, in the order of its list.
abbrev pub sensitivity : List (List ℕ) → Process → List ℕ
sensitivity names p = filter_map (number_listed names) p.sensitivity

-- ---- processes

abbrev pub process : Cell → List Place → Process → CellProcess
process cell faults p = record {
  sensitivity = sensitivity (bits cell faults) p;
  constants = constants cell faults (Some p) p.declarations;
  variables = variables cell faults p;
  sections = sections cell faults p;
}

-- Those of a cell, in order.
abbrev pub processes : Cell → List Place → List CellProcess
processes cell faults = map (process cell faults) (processes_of cell.arch)

-- ---- the order of wires and processes

abbrev pub is_process : Conc → Bool
is_process c = is_some (as_process c)

-- The statements before the first block among them, or all.
abbrev pub before_block : List Conc → List Conc
before_block cs = take_while (λ c. not (is_block c)) cs

-- How many processes stand before the block of wire delays.
abbrev pub processes_before_wires : Cell → ℕ
processes_before_wires cell = count_by is_process (before_block (statements_of cell))
