-- Where the values and defaults of declarations are not of their types.
use Rattle.std.specs.Prelude.{List, [], ◌++◌, Option, Some, None, if◌then◌else◌}
use Rattle.std.specs.List.{flat_map}
use Rattle.vital_base.specs.declared.place.Place.{Place}
use Rattle.vital_declaration_clauses.specs.Regions.{Region, regions}
use Rattle.vital_expr.specs.Outcomes.{Outcome, typed}
use Rattle.vital_expr.specs.Readings.{Context}
use Rattle.vital_level0.specs.declared.default_words.DefaultWord.{DefaultWord}
use Rattle.vital_level0.specs.DefaultWords.{default_word}
use Rattle.vital_names.specs.Sites.{Cell, Site}
use Rattle.vital_names.specs.Sites as sites
use Rattle.vital_nodes.specs.declared.decl.Decl.{Decl}
use Rattle.vital_nodes.specs.declared.decl.Decl.TheVariants as decl
use Rattle.vital_nodes.specs.declared.decl.Iface.{Iface}
use Rattle.vital_nodes.specs.declared.decl.Object.{Object}
use Rattle.vital_operands.specs.Positions.{InInterface, InValue}
use Rattle.vital_uses.specs.Nodes.{sited_declarations, sited_interface}
use Rattle.vital_uses.specs.Sited.{Sited}
use Rattle.vital_typed_declarations.specs.declared.asked_type.AskedType.{AskedType}
use Rattle.vital_typed_declarations.specs.declared.sited.SitedDeclaration.{SitedDeclaration}
use Rattle.vital_typed_declarations.specs.declared.value.TypedValue.{TypedValue}
use Rattle.vital_typed_declarations.specs.Asked.{of_generic, of_object, of_port}
use Rattle.vital_typed_declarations.specs.Values.{value_if_given, value_of_word}

-- What is borrowed of a declaration at its site.
abbrev pub lent_sited : {A : Type 0} → SitedDeclaration A → Sited A
lent_sited d = record { site = sites.lent d.site; declaration = d.declaration.now }

-- ---- objects

abbrev pub in_value : Cell → List Place → Site → Context
in_value cell faults site = record { position = InValue cell site; faults = faults }

-- The value of an object, of its type.
abbrev pub object_value : Context → Object → Outcome TypedValue
object_value c o = value_if_given c (of_object o) o.parts.value

-- Objects that are declared together share their value, which is judged once.
abbrev pub broken_in_object : Context → Object → List Place
broken_in_object c o = if o.is_last then (object_value c o).places else []

abbrev pub broken_in_declaration : Context → Decl → List Place
broken_in_declaration c (decl.Attribute identifier type_mark) = []
broken_in_declaration c (decl.Specification s) = []
broken_in_declaration c (decl.Object o) = broken_in_object c o
broken_in_declaration c (decl.Alias a) = []
broken_in_declaration c (decl.Component k) = []

abbrev pub broken_at : Cell → List Place → Sited Decl → List Place
broken_at cell faults d = broken_in_declaration (in_value cell faults d.site) d.declaration

abbrev pub broken_in_region : Cell → List Place → Region → List Place
broken_in_region cell faults r = flat_map (broken_at cell faults) (sited_declarations r.process r.declarations)

-- ---- the interface

abbrev pub in_interface : Cell → List Place → Site → Context
in_interface cell faults site = record { position = InInterface cell site; faults = faults }

-- The default of a generic or a port, of the type that is asked.
abbrev pub default_value : AskedType → Context → Iface → Outcome TypedValue
default_value t c i = value_if_given c t i.parts.default

abbrev pub generic_value_by : Context → Iface → Option DefaultWord → Outcome TypedValue
generic_value_by c i (Some w) = typed (value_of_word w)
generic_value_by c i None = default_value (of_generic i) c i

-- The default of a generic, of its type. A word that Level 0 gives for that type is read by its text, whatever has its name.
abbrev pub generic_value : Context → Iface → Outcome TypedValue
generic_value c i = generic_value_by c i (default_word i)

-- The default of a port, of its type.
abbrev pub port_value : Context → Iface → Outcome TypedValue
port_value c i = default_value (of_port i) c i

-- Generics that are declared together share their default, which is judged once.
abbrev pub broken_generic : Cell → List Place → Sited Iface → List Place
broken_generic cell faults i = if i.declaration.is_last then (generic_value (in_interface cell faults i.site) i.declaration).places else []

-- So do ports.
abbrev pub broken_port : Cell → List Place → Sited Iface → List Place
broken_port cell faults i = if i.declaration.is_last then (port_value (in_interface cell faults i.site) i.declaration).places else []

-- ---- all of a cell

-- Where the values and defaults of a cell are not of their types, and no name in them breaks another clause at one of these faults.
abbrev pub broken_values : Cell → List Place → List Place
broken_values cell faults =
    (flat_map (broken_generic cell faults) (sited_interface cell.entity.generics)
    ++ flat_map (broken_port cell faults) (sited_interface cell.entity.ports))
    ++ flat_map (broken_in_region cell faults) (regions cell.arch)
