-- The clauses of Level 1 that speak of what drives signals and ports: for each, the places of a cell where it is broken.
use Rattle.std.specs.Prelude.{ℕ, Bool, true, false, ◌&&◌, not, is_some, List, [], ◌++◌, map}
use Rattle.std.specs.List.{filter_map, flat_map, list_any}
use Rattle.std.specs.Option.{option_map_or}
use Rattle.std.specs.Str.{bytes_eq}
use Rattle.vital_base.specs.declared.place.Place.{Place}
use Rattle.vital_nodes.specs.declared.decl.Iface.{Iface}
use Rattle.vital_nodes.specs.declared.stmt.Block.{Block}
use Rattle.vital_nodes.specs.declared.stmt.Conc.{Conc}
use Rattle.vital_nodes.specs.Places.{identifier_of_decl, place_of_conc}
use Rattle.vital_names.specs.Sites.{Cell}
use Rattle.vital_statements.specs.Lists.{each, place_if}
use Rattle.vital_statements.specs.Statements.{as_block, statements_of}
use Rattle.vital_drivers.specs.Actuals.{place_of_actual}
use Rattle.vital_drivers.specs.Named.{is_driven_mode}
use Rattle.vital_drivers.specs.PathDelays.{PathDelay, path_delays}
use Rattle.vital_drivers.specs.Wires.{shares, wire_of}

-- ---- L1.6: the block of wire delays

-- Good is a call of VitalWireDelay of an internal signal, an in or inout port and that port's tipd generic, if no such call
-- before it has its signal or its port.
abbrev pub breaks_6 : Cell → List Conc → Conc → Bool
breaks_6 cell before c = option_map_or (λ w. list_any (λ v. shares v w) (filter_map (wire_of cell) before)) (wire_of cell c) true

abbrev pub places_6_at : Cell → List Conc → Conc → List Place
places_6_at cell before c = place_if (breaks_6 cell before c) (place_of_conc c)

abbrev pub places_6 : Cell → Block → List Place
places_6 cell b = map (λ d. (identifier_of_decl d).place) b.declarations ++ each (places_6_at cell) b.statements

abbrev pub places_6_in : Cell → Conc → List Place
places_6_in cell c = option_map_or (λ b. places_6 cell b.1) (as_block c) []

-- L1.6: in each block each declaration, and each other statement than these calls.
abbrev pub clause_6 : Cell → List Place
clause_6 cell = flat_map (places_6_in cell) (statements_of cell)

-- ---- L1.12: what drives ports

-- A call drives the port of a name.
abbrev pub drives : List ℕ → PathDelay → Bool
drives name d = option_map_or (λ i. bytes_eq i.name name) d.port false

-- Some call drives a port. Where an earlier port has its name, that one is meant.
abbrev pub is_driven : List PathDelay → List Iface → Iface → Bool
is_driven ds before port =
    list_any (drives port.identifier.name) ds && not (list_any (λ i. bytes_eq i.identifier.name port.identifier.name) before)

abbrev pub undriven_at : List PathDelay → List Iface → Iface → List Place
undriven_at ds before port = place_if (is_driven_mode port.parts.mode && not (is_driven ds before port)) port.identifier.place

abbrev pub undriven : List PathDelay → List Iface → List Place
undriven ds ports = each (undriven_at ds) ports

-- A call whose port an earlier one drives.
abbrev pub drives_again : List PathDelay → PathDelay → Bool
drives_again before d = option_map_or (λ i. list_any (drives i.name) before) d.port false

-- What is given to OutSignal, where it is no port that is driven.
abbrev pub wrong_out_signal : PathDelay → List Place
wrong_out_signal d = option_map_or (λ i. place_if (not (is_some d.port)) (place_of_actual i)) d.out_signal []

abbrev pub places_12_at : List PathDelay → PathDelay → List Place
places_12_at before d = place_if (drives_again before d) d.place ++ wrong_out_signal d

abbrev pub places_12 : List PathDelay → List Place
places_12 ds = each places_12_at ds

-- L1.12: each out, inout or buffer port that no call of a path delay drives, each later call that drives a port which an earlier
-- one drives, and each OutSignal that is no such port.
abbrev pub clause_12 : Cell → List Place
clause_12 cell = undriven (path_delays cell) cell.entity.ports ++ places_12 (path_delays cell)
