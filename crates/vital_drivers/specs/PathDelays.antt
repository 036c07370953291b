-- Calls of path delays in a cell (IEEE 1076.4), and the ports that they drive.
use Rattle.std.specs.Prelude.{false, List, Option, Some, None, codes}
use Rattle.std.specs.List.{filter_map, flat_map}
use Rattle.std.specs.Option.{option_and_then, option_copied, option_to_list}
use Rattle.vital_base.specs.declared.place.Place.{Place}
use Rattle.vital_nodes.specs.declared.expr.Item.{Item}
use Rattle.vital_nodes.specs.declared.identifier.Identifier.{Identifier}
use Rattle.vital_nodes.specs.declared.stmt.Conc.{Conc}
use Rattle.vital_nodes.specs.declared.stmt.Process.{Process}
use Rattle.vital_nodes.specs.declared.stmt.Stmt.{Stmt}
use Rattle.vital_nodes.specs.Places.{place_of_conc, place_of_stmt}
use Rattle.vital_nodes.specs.Items.{actual}
use Rattle.vital_nodes.specs.Names.{identifier_of}
use Rattle.vital_nodes.specs.Statements.{all_concurrent, all_sequential}
use Rattle.vital_names.specs.declared.predeclared.Procedure.{Procedure}
use Rattle.vital_names.specs.declared.predeclared.Procedure.TheVariants as procedure_is
use Rattle.vital_names.specs.Sites.{Cell}
use Rattle.vital_calls.specs.Calls.{Call}
use Rattle.vital_calls.specs.Formals.{formals_of_procedure}
use Rattle.vital_calls.specs.Matching.{actual_of}
use Rattle.vital_statements.specs.Called.{call_of_conc, call_of_stmt, procedure_of}
use Rattle.vital_statements.specs.Operands.{means}
use Rattle.vital_statements.specs.Statements.{as_process, statements_of}
use Rattle.vital_drivers.specs.declared.path_delay.PathDelay.{PathDelay as PathDelay'}
use Rattle.vital_drivers.specs.Named.{if_so, is_driven_port}

-- A call of a path delay: the place of its statement, the item that is given to OutSignal, if one is, and the identifier of the
-- port that it drives, if it drives one.
pub record PathDelay : Type 0 where
  pub place : Place
  pub out_signal : Option Item
  pub port : Option Identifier

abbrev pub lent : PathDelay' → PathDelay
lent d = record { place = d.place; out_signal = option_copied d.out_signal; port = option_copied d.port }

-- ---- one call

abbrev pub given_out_signal : Procedure → List Item → Option Item
given_out_signal p is = actual_of is (formals_of_procedure p false) (codes "outsignal")

-- An item drives the port with the mode out, inout or buffer that its plain name means.
abbrev pub port_driven : Cell → Option Process → Item → Option Identifier
port_driven cell process i =
    option_and_then (if_so (means is_driven_port cell process)) (option_and_then identifier_of (actual i))

-- The call with this item.
abbrev pub with_out_signal : Cell → Option Process → Place → Option Item → PathDelay
with_out_signal cell process place i =
    record { place = place; out_signal = i; port = option_and_then (port_driven cell process) i }

abbrev pub path_delay_by : Cell → Option Process → Place → List Item → Procedure → Option PathDelay
path_delay_by cell process place is procedure_is.WireDelay = None
path_delay_by cell process place is procedure_is.StateTable = None
path_delay_by cell process place is (procedure_is.PathDelay t) =
    Some (with_out_signal cell process place (given_out_signal (procedure_is.PathDelay t) is))
path_delay_by cell process place is (procedure_is.Check c) = None

-- The call of a path delay that a call is, in a statement at a place.
abbrev pub path_delay : Cell → Option Process → Place → Call → Option PathDelay
path_delay cell process place c = option_and_then (path_delay_by cell process place c.items) (procedure_of cell process c)

-- ---- all calls

abbrev pub path_delay_of_conc : Cell → Conc → Option PathDelay
path_delay_of_conc cell c = option_and_then (path_delay cell None (place_of_conc c)) (call_of_conc c)

abbrev pub path_delay_of_stmt : Cell → Process → Stmt → Option PathDelay
path_delay_of_stmt cell p s = option_and_then (path_delay cell (Some p) (place_of_stmt s)) (call_of_stmt s)

abbrev pub path_delays_in_process : Cell → Process → List PathDelay
path_delays_in_process cell p = filter_map (path_delay_of_stmt cell p) (all_sequential p.statements)

-- Those in a concurrent statement, which is a process or not.
abbrev pub path_delays_among : Cell → Option Process → Conc → List PathDelay
path_delays_among cell (Some p) c = path_delays_in_process cell p
path_delays_among cell None c = option_to_list (path_delay_of_conc cell c)

abbrev pub path_delays_in : Cell → Conc → List PathDelay
path_delays_in cell c = path_delays_among cell (as_process c) c

-- All calls of path delays of a cell, in the order of the text.
abbrev pub path_delays : Cell → List PathDelay
path_delays cell = flat_map (path_delays_in cell) (all_concurrent (statements_of cell))
