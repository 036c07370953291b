-- What is declared together: the declarations of the identifiers before the last one.
use Rattle.std.specs.Prelude.{false}
use Rattle.vital_nodes.specs.declared.identifier.Identifier.{Identifier}
use Rattle.vital_nodes.specs.declared.decl.IfaceParts.{IfaceParts}
use Rattle.vital_nodes.specs.declared.decl.Iface.{Iface}
use Rattle.vital_nodes.specs.declared.decl.ObjectClass.{ObjectClass}
use Rattle.vital_nodes.specs.declared.decl.ObjectParts.{ObjectParts}
use Rattle.vital_nodes.specs.declared.decl.Decl.{Decl}
use Rattle.vital_nodes.specs.declared.decl.Decl.TheVariants as d

-- an interface before the last one
abbrev pub earlier_iface : IfaceParts → Identifier → Iface
earlier_iface parts x = record { identifier = x; parts = parts; is_last = false }

-- an object before the last one
abbrev pub earlier_object : ObjectClass → ObjectParts → Identifier → Decl
earlier_object class parts x = d.Object (record { class = class; identifier = x; parts = parts; is_last = false })
