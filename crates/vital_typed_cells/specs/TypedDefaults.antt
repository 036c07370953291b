-- The defaults of generics that are delays.
use Rattle.std.specs.Prelude.{◌≡◌, true, []}
use Rattle.vital_names.specs.Sites.{Cell}
use Rattle.vital_nodes.specs.declared.decl.Iface.{Iface}
use Rattle.vital_objects.specs.Generics.{default_delay}
use Rattle.vital_operands.specs.Named.{same_type}
use Rattle.vital_timing.specs.declared.delay.DelayType.{DelayType}
use Rattle.vital_timing.specs.Delays.{type_of}
use Rattle.vital_typed_cells.specs.Packages.{sound_values}
use Rattle.vital_typed_declarations.specs.declared.asked_type.AskedType.TheVariants as asked
use Rattle.vital_typed_declarations.specs.Asked.{of_generic}
use Rattle.vital_uses.specs.Sited.{Sited}

-- If a generic is a delay, its default is one of the same type.
abbrev pub HasTypedDefault : Cell → Sited Iface → Type 0
HasTypedDefault cell i = (d : DelayType) → of_generic i.declaration ≡ asked.Delay d → same_type d (type_of (default_delay cell [] (sound_values cell.files) d i)) ≡ true
