-- The variables that identifiers in a process mean.
use Rattle.std.specs.Prelude.{ℕ, Bool, true, false, List, Option, Some, None, if◌then◌else◌}
use Rattle.std.specs.Option.{option_map}
use Rattle.vital_base.specs.declared.place.Place.{Place}
use Rattle.vital_nodes.specs.declared.decl.Alias.{Alias as Alias'}
use Rattle.vital_nodes.specs.declared.decl.Object.{Object as Object'}
use Rattle.vital_nodes.specs.declared.decl.ObjectClass.{ObjectClass}
use Rattle.vital_nodes.specs.declared.decl.ObjectClass.TheVariants as class
use Rattle.vital_nodes.specs.declared.identifier.Identifier.{Identifier}
use Rattle.vital_nodes.specs.declared.stmt.Process.{Process}
use Rattle.vital_names.specs.Declarations.{Declared as Declared', Generic, Port, Object, Alias}
use Rattle.vital_names.specs.Meanings.{Meaning, Declared, Constant, Predeclared}
use Rattle.vital_names.specs.Sites.{Cell}
use Rattle.vital_uses.specs.Asked.{Asked}
use Rattle.vital_uses.specs.NamesAt.{NameAt, at}
use Rattle.vital_variables.specs.Meant.{meant, meant_from}

abbrev pub is_variable_class : ObjectClass → Bool
is_variable_class class.Constant = false
is_variable_class class.Signal = false
is_variable_class class.Variable = true

abbrev pub is_variable : Declared' → Bool
is_variable (Generic i) = false
is_variable (Port i) = false
is_variable (Object o) = is_variable_class o.class
is_variable (Alias a) = false

abbrev pub means_variable : Option Meaning → Bool
means_variable None = false
means_variable (Some (Declared d)) = is_variable d
means_variable (Some (Constant number object)) = false
means_variable (Some (Predeclared word)) = false

-- A use of a variable is its name and where it is used. An identifier that means a variable uses it.
abbrev pub use_of : Asked → Option NameAt
use_of a = if means_variable a.meaning then Some (at a.identifier) else None

-- An identifier in a process, with what it means where it stands.
abbrev pub asked_in : Cell → Process → Identifier → Asked
asked_in cell p i = record { identifier = i; meaning = meant cell p i }

-- The use of a variable at the place of an identifier that means the variable.
abbrev pub direct_use : Cell → Process → Identifier → Option NameAt
direct_use cell p i = use_of (asked_in cell p i)

-- The use at a place of the variable that the target of an alias begins with. The alias sees what stands before itself.
abbrev pub use_by_alias : Cell → Process → Place → Alias' → Option NameAt
use_by_alias cell p place a =
    if means_variable (meant_from cell p a.identifier.place a.target.identifier) then Some (record { name = a.target.identifier.name; place = place }) else None

abbrev pub use_by_object : Place → Object' → Option NameAt
use_by_object place o = if is_variable_class o.class then Some (record { name = o.identifier.name; place = place }) else None

abbrev pub use_by_declared : Cell → Process → Place → Declared' → Option NameAt
use_by_declared cell p place (Generic i) = None
use_by_declared cell p place (Port i) = None
use_by_declared cell p place (Object o) = use_by_object place o
use_by_declared cell p place (Alias a) = use_by_alias cell p place a

abbrev pub use_by_meaning : Cell → Process → Place → Option Meaning → Option NameAt
use_by_meaning cell p place None = None
use_by_meaning cell p place (Some (Declared d)) = use_by_declared cell p place d
use_by_meaning cell p place (Some (Constant number object)) = None
use_by_meaning cell p place (Some (Predeclared word)) = None

-- The use of a variable at the place of an identifier that means the variable or an alias of it.
abbrev pub use_through : Cell → Process → Identifier → Option NameAt
use_through cell p i = use_by_meaning cell p i.place (meant cell p i)
