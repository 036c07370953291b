-- The types that the ports and generics of an entity have.
use Rattle.std.specs.Prelude.{ℕ, Bool, false, ◌&&◌, is_none, is_some, List, Option, Some, None, codes, if◌then◌else◌}
use Rattle.std.specs.List.{list_any}
use Rattle.std.specs.Option.{option_map, option_map_or}
use Rattle.std.specs.Str.{bytes_eq}
use Rattle.vital_nodes.specs.declared.decl.Subtype.{Subtype}
use Rattle.vital_timing.specs.declared.delay.DelayType.{DelayType}
use Rattle.vital_timing.specs.declared.delay.DelayType.TheVariants.{One, Two, Six}
use Rattle.vital_nodes.specs.Bounds.{items_at_end, literal_bounds}
use Rattle.vital_nodes.specs.Names.{last_identifier}

-- One of the words is this name.
abbrev pub is_among : List (List ℕ) → List ℕ → Bool
is_among words name = list_any (λ word. bytes_eq name word) words

-- The last identifier of a type's name.
abbrev pub type_name : Subtype → Option (List ℕ)
type_name s = option_map (λ i. i.name) (last_identifier s.name)

-- The same of a type without an index and without a range.
abbrev pub plain_type : Subtype → Option (List ℕ)
plain_type s = if is_none s.range && is_none (items_at_end s.name) then type_name s else None

-- A subtype is one of these types, without an index and without a range.
abbrev pub is_plain : List (List ℕ) → Subtype → Bool
is_plain words s = option_map_or (is_among words) (plain_type s) false

-- A vector with one pair of literal bounds.
abbrev pub is_vector : Subtype → Bool
is_vector s = is_some (literal_bounds s) && option_map_or (λ name. bytes_eq name (codes "std_logic_vector")) (type_name s) false

-- ---- the types of timing generics

abbrev pub delay_type_named : List ℕ → Option DelayType
delay_type_named name =
    if bytes_eq name (codes "vitaldelaytype") then Some One
    else if bytes_eq name (codes "vitaldelaytype01") then Some Two
    else if bytes_eq name (codes "vitaldelaytype01z") then Some Six
    else None

abbrev pub delay_type : Subtype → Option DelayType
delay_type s = option_map_or delay_type_named (plain_type s) None
