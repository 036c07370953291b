-- The variables of processes.
use Rattle.std.specs.Prelude.{ℕ, List, Option, Some, None}
use Rattle.std.specs.List.{filter_map}
use Rattle.std.specs.Option.{option_and_then, option_map}
use Rattle.vital_base.specs.declared.place.Place.{Place}
use Rattle.vital_declarations.specs.Operands.{VariableType, Level, X01, VectorOf, GlitchData, TimingData, PeriodData, variable_type}
use Rattle.vital_names.specs.Sites.{Cell, Site}
use Rattle.vital_nodes.specs.declared.decl.Decl.{Decl}
use Rattle.vital_nodes.specs.declared.decl.Decl.TheVariants as decl
use Rattle.vital_nodes.specs.declared.decl.Object.{Object}
use Rattle.vital_nodes.specs.declared.decl.ObjectClass.{ObjectClass}
use Rattle.vital_nodes.specs.declared.decl.ObjectClass.TheVariants as class
use Rattle.vital_nodes.specs.declared.stmt.Process.{Process}
use Rattle.vital_operands.specs.declared.tree.VectorExpr.{VectorExpr}
use Rattle.vital_typed_declarations.specs.declared.asked_type.AskedType.{AskedType}
use Rattle.vital_typed_declarations.specs.declared.asked_type.AskedType.TheVariants as asked
use Rattle.vital_typed_declarations.specs.declared.value.TypedValue.{TypedValue}
use Rattle.vital_typed_declarations.specs.declared.value.TypedValue.TheVariants as value
use Rattle.vital_typed_declarations.specs.Asked.{of_object}
use Rattle.vital_typed_declarations.specs.Declarations.{in_value, object_value}
use Rattle.vital_uses.specs.Nodes.{sited_declarations}
use Rattle.vital_uses.specs.Sited.{Sited}
use Rattle.vital_objects.specs.declared.variable.Variable.{Variable}
use Rattle.vital_objects.specs.declared.variable.VariableKind.{VariableKind}
use Rattle.vital_objects.specs.declared.variable.VariableKind.TheVariants as kind
use Rattle.vital_objects.specs.Ports.{level_in}
use Rattle.vital_objects.specs.Together.{beside_lasts, is_last_declaration}

-- ---- what a variable keeps

abbrev pub vector_in : TypedValue → Option VectorExpr
vector_in (value.Vector v) = Some v
vector_in other = None

-- How long a vector is that is asked.
abbrev pub length_asked : AskedType → ℕ
length_asked (asked.Vector n) = n
length_asked other = 0

-- What a variable of a type is, with its default if it has one. A vector is as long as the one that is asked of its default.
abbrev pub kind_of : VariableType → AskedType → Option TypedValue → VariableKind
kind_of Level a default = kind.Level (option_and_then level_in default)
kind_of X01 a default = kind.X01 (option_and_then level_in default)
kind_of (VectorOf r) a default = kind.Vector (length_asked a) (option_and_then vector_in default)
kind_of GlitchData a default = kind.GlitchData
kind_of TimingData a default = kind.TimingData
kind_of PeriodData a default = kind.PeriodData

abbrev pub kind_of_type : Cell → List Place → Site → Object → VariableType → VariableKind
kind_of_type cell faults site o t = kind_of t (of_object o) (object_value (in_value cell faults site) o).tree

abbrev pub variable_kind : Cell → List Place → Site → Object → Option VariableKind
variable_kind cell faults site o = option_map (kind_of_type cell faults site o) (variable_type o.parts.subtype)

-- ---- variables

-- An object is a variable by its class. An alias is what it names wherever it stands.
abbrev pub where_variable : ObjectClass → Object → Option Object
where_variable class.Constant o = None
where_variable class.Signal o = None
where_variable class.Variable o = Some o

abbrev pub as_variable : Decl → Option Object
as_variable (decl.Attribute identifier type_mark) = None
as_variable (decl.Specification s) = None
as_variable (decl.Object o) = where_variable o.«class» o
as_variable (decl.Alias a) = None
as_variable (decl.Component c) = None

-- What the variables are that are declared together, the last of which a declaration declares.
abbrev pub kind_behind : Cell → List Place → Sited Decl → Option VariableKind
kind_behind cell faults d = option_and_then (variable_kind cell faults d.site) (as_variable d.declaration)

abbrev pub variable_with : VariableKind → Object → Variable
variable_with k o = record { name = o.identifier.name; kind = k }

-- The variable of a kind that a declaration declares.
abbrev pub variable_of : Decl → Option VariableKind → Option Variable
variable_of d k = option_and_then (λ o. option_map (λ w. variable_with w o) k) (as_variable d)

-- The variable that a declaration declares, beside the last of those that are declared together with it.
abbrev pub variable : Cell → List Place → (Sited Decl × Option (Sited Decl)) → Option Variable
variable cell faults d = variable_of d.0.declaration (option_and_then (kind_behind cell faults) d.1)

-- Those of a process, in order.
abbrev pub variables : Cell → List Place → Process → List Variable
variables cell faults p = filter_map (variable cell faults) (beside_lasts is_last_declaration (sited_declarations (Some p) p.declarations))
