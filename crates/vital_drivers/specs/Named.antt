-- The ports and generics that calls name.
use Rattle.std.specs.Prelude.{Bool, true, false, Option, Some, None, if◌then◌else◌}
use Rattle.vital_nodes.specs.declared.decl.Mode.{Mode}
use Rattle.vital_nodes.specs.declared.decl.Mode.TheVariants.{In, Out, Inout, Buffer, Linkage}
use Rattle.vital_nodes.specs.declared.identifier.Identifier.{Identifier}
use Rattle.vital_names.specs.Declarations.{Declared, Generic, Port, Object, Alias}

-- A port of a mode is driven.
abbrev pub is_driven_mode : Mode → Bool
is_driven_mode In = false
is_driven_mode Out = true
is_driven_mode Inout = true
is_driven_mode Buffer = true
is_driven_mode Linkage = false

abbrev pub is_driven_port : Declared → Bool
is_driven_port (Generic i) = false
is_driven_port (Port i) = is_driven_mode i.parts.mode
is_driven_port (Object o) = false
is_driven_port (Alias a) = false

abbrev pub is_generic : Declared → Bool
is_generic (Generic i) = true
is_generic (Port i) = false
is_generic (Object o) = false
is_generic (Alias a) = false

-- An identifier, if it is so.
abbrev pub if_so : (Identifier → Bool) → Identifier → Option Identifier
if_so is_so i = if is_so i then Some i else None
