-- The signals and ports that statements name.
use Rattle.std.specs.Prelude.{Bool, true, false, Option}
use Rattle.std.specs.Option.{option_map_or}
use Rattle.vital_nodes.specs.declared.decl.Mode.{Mode}
use Rattle.vital_nodes.specs.declared.decl.Mode.TheVariants.{In, Out, Inout, Buffer, Linkage}
use Rattle.vital_nodes.specs.declared.decl.ObjectClass.{ObjectClass}
use Rattle.vital_nodes.specs.declared.decl.ObjectClass.TheVariants as class
use Rattle.vital_nodes.specs.declared.identifier.Identifier.{Identifier}
use Rattle.vital_nodes.specs.declared.stmt.Process.{Process}
use Rattle.vital_names.specs.Declarations.{Declared, Generic, Port, Object, Alias}
use Rattle.vital_names.specs.Meanings.{declared}
use Rattle.vital_names.specs.Sites.{Cell}
use Rattle.vital_statements.specs.Sites.{site_at}

abbrev pub is_signal_class : ObjectClass → Bool
is_signal_class class.Constant = false
is_signal_class class.Signal = true
is_signal_class class.Variable = false

-- A port of a mode is read.
abbrev pub is_read_mode : Mode → Bool
is_read_mode In = true
is_read_mode Out = false
is_read_mode Inout = true
is_read_mode Buffer = false
is_read_mode Linkage = false

abbrev pub is_signal : Declared → Bool
is_signal (Generic i) = false
is_signal (Port i) = false
is_signal (Object o) = is_signal_class o.class
is_signal (Alias a) = false

abbrev pub is_read_port : Declared → Bool
is_read_port (Generic i) = false
is_read_port (Port i) = is_read_mode i.parts.mode
is_read_port (Object o) = false
is_read_port (Alias a) = false

-- An identifier in a process, or outside of processes, means what is declared so.
abbrev pub means : (Declared → Bool) → Cell → Option Process → Identifier → Bool
means is_so cell process i = option_map_or is_so (declared i.name cell (site_at process i.place)) false
