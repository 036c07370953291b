-- Calls of VitalWireDelay (IEEE 1076.4): of a signal, the port whose changes come to it, and the delay of that port.
use Rattle.std.specs.Prelude.{ℕ, Bool, true, false, ◌&&◌, ◌||◌, List, ◌++◌, Option, Some, None, codes, if◌then◌else◌}
use Rattle.std.specs.Option.{option_and_then, option_map_or}
use Rattle.std.specs.Str.{bytes_eq}
use Rattle.vital_nodes.specs.declared.expr.Expr.{Expr}
use Rattle.vital_nodes.specs.declared.expr.Item.{Item}
use Rattle.vital_nodes.specs.declared.identifier.Identifier.{Identifier}
use Rattle.vital_nodes.specs.declared.stmt.Conc.{Conc}
use Rattle.vital_nodes.specs.Items.{actual}
use Rattle.vital_nodes.specs.Names.{identifier_of}
use Rattle.vital_names.specs.declared.predeclared.Procedure.{Procedure}
use Rattle.vital_names.specs.declared.predeclared.Procedure.TheVariants as procedure_is
use Rattle.vital_names.specs.Sites.{Cell}
use Rattle.vital_calls.specs.Calls.{Call}
use Rattle.vital_calls.specs.Formals.{Formals, formals_of_procedure}
use Rattle.vital_calls.specs.Matching.{actual_of, has_wrong_formals}
use Rattle.vital_statements.specs.Called.{call_of_conc, procedure_of}
use Rattle.vital_statements.specs.Operands.{is_read_port, is_signal, means}
use Rattle.vital_statements.specs.Parentheses.{bare_identifier}
use Rattle.vital_drivers.specs.declared.wire.Wire.{Wire as Wire'}
use Rattle.vital_drivers.specs.Named.{if_so, is_generic}

-- ---- what is given to its formals

abbrev pub wire_delay : Formals
wire_delay = formals_of_procedure procedure_is.WireDelay false

abbrev pub given : List ℕ → List Item → Option Expr
given name is = option_and_then actual (actual_of is wire_delay name)

-- The internal signal that is given to OutSig by its plain name.
abbrev pub signal_given : Cell → List Item → Option Identifier
signal_given cell is =
    option_and_then (if_so (means is_signal cell None)) (option_and_then identifier_of (given (codes "outsig") is))

-- The in or inout port that is given to InSig by its plain name.
abbrev pub port_given : Cell → List Item → Option Identifier
port_given cell is =
    option_and_then (if_so (means is_read_port cell None)) (option_and_then identifier_of (given (codes "insig") is))

-- The generic of a port's wire delay has its name behind tipd_.
abbrev pub is_tipd_name : List ℕ → List ℕ → Bool
is_tipd_name port name = bytes_eq (codes "tipd_" ++ port) name

-- An expression is the generic of a port's wire delay, in parentheses or not.
abbrev pub is_tipd : Cell → Identifier → Expr → Bool
is_tipd cell port e = option_map_or (λ i. is_tipd_name port.name i.name && means is_generic cell None i) (bare_identifier e) false

-- That generic is given to TWire.
abbrev pub has_tipd : Cell → Identifier → List Item → Bool
has_tipd cell port is = option_map_or (is_tipd cell port) (given (codes "twire") is) false

-- ---- what it joins

-- A signal and the port that comes to it.
abbrev pub Wire : Type 0
Wire = Identifier × Identifier

abbrev pub lent : Wire' → Wire
lent w = (w.signal.now, w.port.now)

abbrev pub wire_given : Cell → List Item → Option Wire
wire_given cell is =
    option_and_then (λ s. option_and_then (λ p. if has_tipd cell p is then Some (s, p) else None) (port_given cell is)) (signal_given cell is)

-- The wire of the items of a call: each formal has one item, by its position or by its name.
abbrev pub wire_of_items : Cell → List Item → Option Wire
wire_of_items cell is = if has_wrong_formals wire_delay is then None else wire_given cell is

abbrev pub is_wire_delay : Procedure → Bool
is_wire_delay procedure_is.WireDelay = true
is_wire_delay procedure_is.StateTable = false
is_wire_delay (procedure_is.PathDelay t) = false
is_wire_delay (procedure_is.Check c) = false

abbrev pub wire_of_call : Cell → Call → Option Wire
wire_of_call cell c = if option_map_or is_wire_delay (procedure_of cell None c) false then wire_of_items cell c.items else None

-- The wire of a statement of a block that is a good call of VitalWireDelay.
abbrev pub wire_of : Cell → Conc → Option Wire
wire_of cell c = option_and_then (wire_of_call cell) (call_of_conc c)

-- Two wires have one signal, or one port.
abbrev pub shares : Wire → Wire → Bool
shares w v = bytes_eq w.0.name v.0.name || bytes_eq w.1.name v.1.name
