-- Objects, generics and ports that are declared together: several identifiers before one subtype and one value (IEEE 1076-1993, 4.3).
use Rattle.std.specs.Prelude.{Bool, List, [], ◌∷◌, Option, find}
use Rattle.vital_names.specs.Viewpoints.{is_last}
use Rattle.vital_nodes.specs.declared.decl.Decl.{Decl}
use Rattle.vital_nodes.specs.declared.decl.Iface.{Iface}
use Rattle.vital_uses.specs.Sited.{Sited}

-- Each declaration beside the last of those that are declared together with it, which is the first from it on that is a last one. What
-- they share stands behind that, and is read once for all of them.
abbrev pub beside_lasts : {A : Type 0} → (A → Bool) → List A → List (A × Option A)
beside_lasts last [] = []
beside_lasts last (d ∷ ds) = (d, find last (d ∷ ds)) ∷ beside_lasts last ds

-- Whether a declaration at its site is the last of those that are declared together, and whether a generic or a port is.
abbrev pub is_last_declaration : Sited Decl → Bool
is_last_declaration d = is_last d.declaration

abbrev pub is_last_interface : Sited Iface → Bool
is_last_interface i = i.declaration.is_last
