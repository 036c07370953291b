-- Declared objects.
use Rattle.std.specs.Prelude.{Bool, true, false}
use Rattle.vital_nodes.specs.declared.decl.Object.{Object}
use Rattle.vital_nodes.specs.declared.decl.ObjectClass.{ObjectClass}
use Rattle.vital_nodes.specs.declared.decl.ObjectClass.TheVariants as class

abbrev pub is_constant_class : ObjectClass → Bool
is_constant_class class.Constant = true
is_constant_class class.Signal = false
is_constant_class class.Variable = false

-- An object is a constant.
abbrev pub is_constant : Object → Bool
is_constant o = is_constant_class o.«class»
