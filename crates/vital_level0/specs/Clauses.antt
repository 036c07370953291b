-- The clauses of Level 0: for each, the places of an entity where it is broken.
use Rattle.std.specs.Prelude.{◌≡◌, ℕ, Bool, true, false, ◌&&◌, ◌||◌, ◌⊎◌, not, is_some, List, [], ◌∷◌, ◌++◌, Any, codes, nat_eq}
use Rattle.std.specs.List.{list_any, starts_with}
use Rattle.std.specs.Option.{option_map_or}
use Rattle.std.specs.Str.{bytes_eq}
use Rattle.vital_base.specs.declared.place.Place.{Place}
use Rattle.vital_nodes.specs.Places.{identifier_of_decl, place_of_conc}
use Rattle.vital_nodes.specs.declared.decl.Decl.{Decl}
use Rattle.vital_nodes.specs.declared.decl.Decl.TheVariants as decl
use Rattle.vital_nodes.specs.declared.decl.Designator.{Designator}
use Rattle.vital_nodes.specs.declared.decl.Designator.TheVariants as designator
use Rattle.vital_nodes.specs.declared.decl.EntityClass.{EntityClass}
use Rattle.vital_nodes.specs.declared.decl.EntityClass.TheVariants as class
use Rattle.vital_nodes.specs.declared.decl.Iface.{Iface}
use Rattle.vital_nodes.specs.declared.decl.Mode.{Mode}
use Rattle.vital_nodes.specs.declared.decl.Mode.TheVariants.{In, Out, Inout, Buffer, Linkage}
use Rattle.vital_nodes.specs.declared.decl.Specification.{Specification}
use Rattle.vital_nodes.specs.declared.expr.Expr.{Expr}
use Rattle.vital_nodes.specs.declared.unit.Entity.{Entity}
use Rattle.vital_timing.specs.declared.delay.DelayType.{DelayType}
use Rattle.vital_timing.specs.declared.delay.DelayType.TheVariants.{One, Two, Six}
use Rattle.vital_nodes.specs.Names.{identifier_of}
use Rattle.vital_level0.specs.declared.parts.Prefix.{Prefix}
use Rattle.vital_level0.specs.declared.parts.Prefix.TheVariants.{Tpd, Tipd}
use Rattle.vital_level0.specs.Defaults.{is_delay, is_string}
use Rattle.vital_level0.specs.Prefixes.{prefixes, underscore, word_of}
use Rattle.vital_level0.specs.Split.{Splits, SplitsAs, holds_underscore}
use Rattle.vital_level0.specs.TypeNames.{delay_type, is_plain, is_vector}

-- ---- declarations

-- The value TRUE, which is read as the identifier.
abbrev pub is_true : Expr → Bool
is_true e = option_map_or (λ i. bytes_eq i.name (codes "true")) (identifier_of e) false

abbrev pub is_named : List ℕ → Designator → Bool
is_named name (designator.Identifier identifier) = bytes_eq identifier.name name
is_named name designator.All = false
is_named name designator.Others = false

abbrev pub is_entity_class : EntityClass → Bool
is_entity_class class.Entity = true
is_entity_class class.Architecture = false
is_entity_class class.Component = false
is_entity_class class.Signal = false
is_entity_class class.Label = false

-- `attribute VITAL_LEVEL0 of E : entity is TRUE`, where E has this name.
abbrev pub is_level_0_specification : List ℕ → Specification → Bool
is_level_0_specification name s =
    bytes_eq s.identifier.name (codes "vital_level0") && is_named name s.designator && is_entity_class s.«class» && is_true s.value

abbrev pub is_level_0 : List ℕ → Decl → Bool
is_level_0 name (decl.Specification s) = is_level_0_specification name s
is_level_0 name (decl.Attribute identifier type) = false
is_level_0 name (decl.Object o) = false
is_level_0 name (decl.Alias a) = false
is_level_0 name (decl.Component c) = false

-- L0.1: the entity's identifier, where that specification does not stand among its declarations.
abbrev pub Breaks1 : Entity → Place → Type 0
Breaks1 e place = (list_any (is_level_0 e.identifier.name) e.declarations ≡ false) × (place ≡ e.identifier.place)

-- L0.2: each declaration that is not that specification, and each repeat of it.
abbrev pub Breaks2 : Entity → Place → Type 0
Breaks2 e place =
    (before : List Decl) × (d : Decl) × (after : List Decl) × (e.declarations ≡ before ++ d ∷ after)
    × (is_level_0 e.identifier.name d ≡ true → list_any (is_level_0 e.identifier.name) before ≡ true)
    × (place ≡ (identifier_of_decl d).place)

-- L0.3: each statement.
abbrev pub Breaks3 : Entity → Place → Type 0
Breaks3 e place = Any (λ c. place ≡ place_of_conc c) e.statements

-- ---- ports

-- An extended identifier begins with a backslash (IEEE 1076-1993, 13.3.2).
abbrev pub is_extended : List ℕ → Bool
is_extended name = starts_with nat_eq name (92 ∷ [])

-- L0.4: a port's identifier that holds an underscore or is extended.
abbrev pub breaks_4 : Iface → Bool
breaks_4 port = holds_underscore port.identifier.name || is_extended port.identifier.name

abbrev pub is_linkage : Mode → Bool
is_linkage In = false
is_linkage Out = false
is_linkage Inout = false
is_linkage Buffer = false
is_linkage Linkage = true

-- L0.5: a port with the mode linkage, or with bus.
abbrev pub breaks_5 : Iface → Bool
breaks_5 port = is_linkage port.parts.mode || port.parts.bus

-- The types of scalar ports.
abbrev pub scalar_types : List (List ℕ)
scalar_types = codes "std_ulogic" ∷ codes "std_logic" ∷ codes "x01" ∷ codes "x01z" ∷ codes "ux01" ∷ codes "ux01z" ∷ []

-- L0.6: a port with another type than these without an index or a range, and std_logic_vector with one pair of literal bounds.
abbrev pub breaks_6 : Iface → Bool
breaks_6 port = not (is_plain scalar_types port.parts.subtype || is_vector port.parts.subtype)

-- A port of an entity that breaks a clause.
abbrev pub BreaksAtPort : (Iface → Bool) → Entity → Place → Type 0
BreaksAtPort breaks e place = Any (λ port. (breaks port ≡ true) × (place ≡ port.identifier.place)) e.ports

-- ---- generics

-- A name begins with the word of a prefix and an underscore.
abbrev pub begins_as_timing : List ℕ → Bool
begins_as_timing name = list_any (λ kind. starts_with nat_eq name (word_of kind ++ underscore ∷ [])) prefixes

-- L0.7: a generic whose name begins as that of a timing generic and does not split.
abbrev pub BreaksL7 : Entity → Iface → Type 0
BreaksL7 e g = (begins_as_timing g.identifier.name ≡ true) × ¬ Splits g.identifier.name e.ports

-- The types that a generic of each prefix may have.
abbrev pub is_delay_type_of : Prefix → DelayType → Bool
is_delay_type_of kind One = true
is_delay_type_of Tpd Two = true
is_delay_type_of Tipd Two = true
is_delay_type_of Tpd Six = true
is_delay_type_of Tipd Six = true
is_delay_type_of kind other = false

-- L0.8: a split generic with another type.
abbrev pub breaks_8 : Prefix → Iface → Bool
breaks_8 kind g = not (option_map_or (is_delay_type_of kind) (delay_type g.parts.subtype) false)

-- The controls of a cell's checks and messages, and the path of an instance.
abbrev pub controls : List (List ℕ)
controls = codes "timingcheckson" ∷ codes "xon" ∷ codes "msgon" ∷ []

abbrev pub is_control : Iface → Bool
is_control g = list_any (λ word. bytes_eq g.identifier.name word) controls

abbrev pub is_instance_path : Iface → Bool
is_instance_path g = bytes_eq g.identifier.name (codes "instancepath")

-- L0.9: a control that is not Boolean, and an instance path that is not a String.
abbrev pub breaks_9 : Iface → Bool
breaks_9 g =
    (is_control g && not (is_plain (codes "boolean" ∷ []) g.parts.subtype))
    || (is_instance_path g && not (is_plain (codes "string" ∷ []) g.parts.subtype))

-- A default that is an identifier, or of a form that goes with the type, is good; so is none. With a type that breaks the clause
-- of types only an identifier is good.
abbrev pub is_good_default : (Expr → Bool) → Iface → Bool
is_good_default has_form g = option_map_or (λ e. is_some (identifier_of e) || has_form e) g.parts.default true

abbrev pub has_delay_form : Prefix → Iface → Expr → Bool
has_delay_form kind g e = option_map_or (λ t. is_delay_type_of kind t && is_delay t e) (delay_type g.parts.subtype) false

abbrev pub breaks_10_split : Prefix → Iface → Bool
breaks_10_split kind g = not (is_good_default (has_delay_form kind g) g)

-- TRUE and FALSE are identifiers.
abbrev pub breaks_10_control : Iface → Bool
breaks_10_control g = is_control g && not (is_good_default (λ e. false) g)

abbrev pub breaks_10_instance_path : Iface → Bool
breaks_10_instance_path g =
    is_instance_path g && not (is_good_default (λ e. is_string e && is_plain (codes "string" ∷ []) g.parts.subtype) g)

-- A split generic that breaks a clause of its prefix.
abbrev pub BreaksSplit : (Prefix → Iface → Bool) → Entity → Iface → Type 0
BreaksSplit breaks e g = (kind : Prefix) × SplitsAs g.identifier.name e.ports kind × (breaks kind g ≡ true)

-- L0.10: a split generic, a control or an instance path whose default is none of the good ones.
abbrev pub BreaksL10 : Entity → Iface → Type 0
BreaksL10 e g = BreaksSplit breaks_10_split e g ⊎ ((breaks_10_control g || breaks_10_instance_path g) ≡ true)

-- A generic of an entity that breaks a clause.
abbrev pub BreaksAtGeneric : (Entity → Iface → Type 0) → Entity → Place → Type 0
BreaksAtGeneric Breaks e place = Any (λ g. Breaks e g × (place ≡ g.identifier.place)) e.generics
