-- Of identifiers that are declared together, the last one is marked.
use Rattle.std.proofs.Common.{◌≡◌, true, List, [], ◌∷◌, ◌++◌, map, refl, ap}
use Rattle.vital_nodes.specs.declared.identifier.Identifier.{Identifier}
use Rattle.vital_nodes.specs.declared.decl.IfaceParts.{IfaceParts}
use Rattle.vital_nodes.specs.declared.decl.Iface.{Iface}
use Rattle.vital_nodes.specs.declared.decl.ObjectClass.{ObjectClass}
use Rattle.vital_nodes.specs.declared.decl.ObjectParts.{ObjectParts}
use Rattle.vital_nodes.specs.declared.decl.Decl.{Decl}
use Rattle.vital_nodes.specs.declared.decl.Decl.TheVariants as d
use Rattle.vital_shapes.specs.Declarations.{each_iface, each_object}
use Rattle.vital_vhdl.specs.Together.{earlier_iface, earlier_object}

pub each_iface-last : (ids : List Identifier) (x : Identifier) (parts : IfaceParts)
    → each_iface (ids ++ x ∷ []) parts ≡ map (earlier_iface parts) ids ++ record { identifier = x; parts = parts; is_last = true } ∷ []
unfolding each_iface
each_iface-last [] x parts = refl
each_iface-last (y ∷ []) x parts = refl
each_iface-last (y ∷ z ∷ ids) x parts = ap (λ (all : List Iface). earlier_iface parts y ∷ all) (each_iface-last (z ∷ ids) x parts)

pub each_object-last : (class : ObjectClass) (ids : List Identifier) (x : Identifier) (parts : ObjectParts)
    → each_object class (ids ++ x ∷ []) parts
    ≡ map (earlier_object class parts) ids ++ d.Object (record { class = class; identifier = x; parts = parts; is_last = true }) ∷ []
unfolding each_object
each_object-last class [] x parts = refl
each_object-last class (y ∷ []) x parts = refl
each_object-last class (y ∷ z ∷ ids) x parts = ap (λ (all : List Decl). earlier_object class parts y ∷ all) (each_object-last class (z ∷ ids) x parts)
