-- The breaches of an entity as they are found, before they are put in order.
use Rattle.std.specs.Prelude.{ℕ, Bool, true, false, ◌&&◌, ◌||◌, not, is_none, List, [], ◌∷◌, ◌++◌, Option, if◌then◌else◌}
use Rattle.std.specs.List.{flat_map, list_any}
use Rattle.std.specs.Option.{option_map_or}
use Rattle.vital_base.specs.declared.breach.Breach.{Breach}
use Rattle.vital_base.specs.declared.place.Place.{Place}
use Rattle.vital_nodes.specs.Places.{identifier_of_decl, place_of_conc}
use Rattle.vital_nodes.specs.declared.decl.Decl.{Decl}
use Rattle.vital_nodes.specs.declared.decl.Iface.{Iface}
use Rattle.vital_nodes.specs.declared.stmt.Conc.{Conc}
use Rattle.vital_nodes.specs.declared.unit.Entity.{Entity}
use Rattle.vital_level0.specs.declared.parts.Parts.{Parts}
use Rattle.vital_level0.specs.Breaches.{level_0}
use Rattle.vital_level0.specs.Clauses.{begins_as_timing, breaks_4, breaks_5, breaks_6, breaks_8, breaks_9, breaks_10_control, breaks_10_instance_path, breaks_10_split, is_level_0}
use Rattle.vital_level0.specs.Steps.{parts_of_name}

-- The breach of L0.n at a place, if it is one.
abbrev pub breach_if : Bool → ℕ → Place → List Breach
breach_if is_broken number place = if is_broken then record { place = place; clause = level_0 number } ∷ [] else []

-- Those of declarations, behind others among which the specification stands or not.
abbrev pub of_declarations : List ℕ → Bool → List Decl → List Breach
of_declarations name specified [] = []
of_declarations name specified (d ∷ ds) =
    breach_if (specified || not (is_level_0 name d)) 2 (identifier_of_decl d).place ++ of_declarations name (specified || is_level_0 name d) ds

abbrev pub of_statement : Conc → List Breach
of_statement c = breach_if true 3 (place_of_conc c)

abbrev pub of_port : Iface → List Breach
of_port port =
    breach_if (breaks_4 port) 4 port.identifier.place
    ++ breach_if (breaks_5 port) 5 port.identifier.place
    ++ breach_if (breaks_6 port) 6 port.identifier.place

-- Whether a generic whose name has these parts, if it splits, breaks L0.7, L0.8 and L0.10.
abbrev pub is_unsplit : Iface → Option Parts → Bool
is_unsplit g parts = begins_as_timing g.identifier.name && is_none parts

abbrev pub has_wrong_type : Iface → Option Parts → Bool
has_wrong_type g parts = option_map_or (λ p. breaks_8 p.kind g) parts false

abbrev pub has_wrong_delay : Iface → Option Parts → Bool
has_wrong_delay g parts = option_map_or (λ p. breaks_10_split p.kind g) parts false

abbrev pub has_wrong_default : Iface → Option Parts → Bool
has_wrong_default g parts = has_wrong_delay g parts || (breaks_10_control g || breaks_10_instance_path g)

-- Those of such a generic.
abbrev pub of_parts : Iface → Option Parts → List Breach
of_parts g parts =
    breach_if (is_unsplit g parts) 7 g.identifier.place
    ++ breach_if (has_wrong_type g parts) 8 g.identifier.place
    ++ breach_if (breaks_9 g) 9 g.identifier.place
    ++ breach_if (has_wrong_default g parts) 10 g.identifier.place

abbrev pub of_generic : List Iface → Iface → List Breach
of_generic ports g = of_parts g (parts_of_name ports g.identifier.name)

-- Those of an entity.
abbrev pub of_entity : Entity → List Breach
of_entity e =
    flat_map (of_generic e.ports) e.generics
    ++ flat_map of_port e.ports
    ++ of_declarations e.identifier.name false e.declarations
    ++ breach_if (not (list_any (is_level_0 e.identifier.name) e.declarations)) 1 e.identifier.place
    ++ flat_map of_statement e.statements
