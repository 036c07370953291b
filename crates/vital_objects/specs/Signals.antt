-- The internal signals of a cell.
use Rattle.std.specs.Prelude.{List, [], Option, Some, None, unwrap_or}
use Rattle.std.specs.List.{filter_map}
use Rattle.std.specs.Option.{option_and_then}
use Rattle.vital_declarations.specs.Constants.{character}
use Rattle.vital_declarations.specs.Types.{type_of}
use Rattle.vital_logic.specs.declared.level.Level.{Level}
use Rattle.vital_logic.specs.declared.level.Level.TheVariants as level
use Rattle.vital_names.specs.Sites.{Cell}
use Rattle.vital_nodes.specs.declared.decl.Decl.{Decl}
use Rattle.vital_nodes.specs.declared.decl.Decl.TheVariants as decl
use Rattle.vital_nodes.specs.declared.decl.Object.{Object}
use Rattle.vital_nodes.specs.declared.decl.ObjectClass.{ObjectClass}
use Rattle.vital_nodes.specs.declared.decl.ObjectClass.TheVariants as class
use Rattle.vital_nodes.specs.declared.unit.Arch.{Arch}
use Rattle.vital_operands.specs.Items.{printed_level}
use Rattle.vital_objects.specs.declared.signal.Signal.{Signal}
use Rattle.vital_objects.specs.Ports.{is_resolved}

-- What the architecture of a cell declares itself, if there is one.
abbrev pub declarations : Option Arch → List Decl
declarations None = []
declarations (Some a) = a.declarations

-- The level of the character literal that is its default, or 'U'.
abbrev pub initial : Object → Level
initial o = unwrap_or (option_and_then printed_level (option_and_then character o.parts.value)) level.U

abbrev pub signal_of : Object → Signal
signal_of o = record { name = o.identifier.name; place = o.identifier.place; is_resolved = is_resolved (type_of o.parts.subtype); initial = initial o }

abbrev pub where_signal : ObjectClass → Object → Option Signal
where_signal class.Constant o = None
where_signal class.Signal o = Some (signal_of o)
where_signal class.Variable o = None

-- The signal that a declaration declares.
abbrev pub signal : Decl → Option Signal
signal (decl.Attribute identifier type_mark) = None
signal (decl.Specification s) = None
signal (decl.Object o) = where_signal o.«class» o
signal (decl.Alias a) = None
signal (decl.Component c) = None

-- The bits of the signals, in order. A signal is one bit.
abbrev pub signals : Cell → List Signal
signals cell = filter_map signal (declarations cell.arch)
