-- From where the parts of declarations see what is declared.
use Rattle.std.specs.Prelude.{Bool, true, List, [], ◌∷◌, Option, Some, None, unwrap_or, if◌then◌else◌}
use Rattle.vital_base.specs.declared.place.Place.{Place}
use Rattle.vital_nodes.specs.declared.decl.Decl.{Decl}
use Rattle.vital_nodes.specs.declared.decl.Decl.TheVariants as decl

-- Whether a declaration is the last of those that are declared together. Each that is not an object is declared alone.
abbrev pub is_last : Decl → Bool
is_last (decl.Attribute identifier type_mark) = true
is_last (decl.Specification s) = true
is_last (decl.Object o) = o.is_last
is_last (decl.Alias a) = true
is_last (decl.Component c) = true

-- The place of the first identifier that is declared together with each declaration, in order. The first of them are declared
-- together with one that has begun, if there is one.
abbrev pub first_places_from : {A : Type 0} → (A → Place) → (A → Bool) → Option Place → List A → List Place
first_places_from place last begun [] = []
first_places_from place last begun (d ∷ ds) =
    unwrap_or begun (place d) ∷ first_places_from place last (if last d then None else Some (unwrap_or begun (place d))) ds

-- A subtype, a value or a default sees what is declared before all identifiers that it is written for: its viewpoint is the place
-- of the first of them.
abbrev pub viewpoints : {A : Type 0} → (A → Place) → (A → Bool) → List A → List Place
viewpoints place last ds = first_places_from place last None ds
