-- The constants of packages.
use Rattle.std.specs.Prelude.{ℕ, Bool, position, List, [], Option, Some, None, map}
use Rattle.std.specs.Str.{bytes_eq}
use Rattle.std.specs.List.{flat_map, filter_map}
use Rattle.std.specs.Borrow.{Bor}
use Rattle.vital_nodes.specs.declared.decl.Decl.{Decl}
use Rattle.vital_nodes.specs.declared.decl.Decl.TheVariants as decl
use Rattle.vital_nodes.specs.declared.decl.Object.{Object}
use Rattle.vital_nodes.specs.declared.decl.ObjectClass.{ObjectClass}
use Rattle.vital_nodes.specs.declared.decl.ObjectClass.TheVariants as class
use Rattle.vital_nodes.specs.declared.unit.Unit.{Unit as Unit'}
use Rattle.vital_nodes.specs.declared.unit.Unit.TheVariants as unit
use Rattle.vital_nodes.specs.declared.unit.Units.{Units}
use Rattle.vital_library.specs.Units.{units_of}

-- An object is a constant by its class.
abbrev pub where_constant : ObjectClass → Object → Option Object
where_constant class.Constant object = Some object
where_constant class.Signal object = None
where_constant class.Variable object = None

abbrev pub as_constant : Decl → Option Object
as_constant (decl.Attribute identifier type_mark) = None
as_constant (decl.Specification s) = None
as_constant (decl.Object object) = where_constant object.class object
as_constant (decl.Alias a) = None
as_constant (decl.Component c) = None

-- The constants of a unit, which has some only if it is a package.
abbrev pub constants_in : Unit' → List Object
constants_in (unit.Entity e) = []
constants_in (unit.Arch a) = []
constants_in (unit.Pack p) = filter_map as_constant p.declarations
constants_in (unit.Config c) = []

-- The constants of a library, in order.
abbrev pub constants_of : List Units → List Object
constants_of files = flat_map constants_in (units_of files)

-- What is borrowed of objects.
abbrev pub lent : List (Bor Object) → List Object
lent objects = map (λ object. object.now) objects

-- A constant has a name.
abbrev pub has_name : List ℕ → Object → Bool
has_name name constant = bytes_eq constant.identifier.name name

-- The number of the constant of a name, if there is one: the first of them, counted from 0.
abbrev pub constant_number : List ℕ → List Units → Option ℕ
constant_number name files = position (has_name name) (constants_of files)
