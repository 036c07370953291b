-- Where nodes stand: at tokens of their file, and one not after the next.
use Rattle.std.specs.Prelude.{◌≡◌, ℕ, ◌<◌, ◌≤◌, ◌⊎◌, List, [], ◌∷◌, ◌++◌, map, Contains, All, AllPairs}
use Rattle.std.specs.List.{flat_map}
use Rattle.vital_base.specs.declared.place.Place.{Place}
use Rattle.vital_lex.specs.declared.token_list.Token.{Token}
use Rattle.vital_nodes.specs.Nodes.{Node}
use Rattle.vital_nodes.specs.Places.{place_of, place_of_unit}
use Rattle.vital_nodes.specs.Walk.{nodes_of_unit}
use Rattle.vital_nodes.specs.declared.identifier.Identifier.{Identifier}
use Rattle.vital_nodes.specs.declared.unit.Unit.{Unit as Unit'}
use Rattle.vital_nodes.specs.declared.unit.Unit.TheVariants as unit
use Rattle.vital_shapes.specs.Reading.{place_at}

-- the place is that of the first byte of one of the tokens
abbrev pub IsAtToken : ℕ → List ℕ → List Token → Place → Type 0
IsAtToken file text tokens p = (t : Token) × Contains tokens t × (p ≡ place_at file text t.start)

-- places of one file, of which the first is the second one or comes before it
pub record IsNotAfter (p q : Place) : Type 0 where
  pub same_file : p.file ≡ q.file
  pub in_order : (p.line < q.line) ⊎ ((p.line ≡ q.line) × (p.column ≤ q.column))

-- no token starts after a later one
abbrev pub StartsRise : List Token → Type 0
StartsRise tokens = AllPairs (λ s t. s.start ≤ t.start) tokens

-- the nodes of the units, unit after unit and each unit's in preorder
abbrev pub nodes_of_units : List Unit' → List Node
nodes_of_units units = flat_map nodes_of_unit units

-- each node stands at a token
abbrev pub StandAtTokens : ℕ → List ℕ → List Token → List Node → Type 0
StandAtTokens file text tokens ns = All (λ v. IsAtToken file text tokens (place_of v)) ns

-- no node stands after a later one
abbrev pub PlacesRise : List Node → Type 0
PlacesRise ns = AllPairs (λ v w. IsNotAfter (place_of v) (place_of w)) ns

-- the identifiers in the head of a unit: the one that it declares, and then those of the units that it is for
abbrev pub identifiers_in_head : Unit' → List Identifier
identifiers_in_head (unit.Entity e) = e.identifier ∷ []
identifiers_in_head (unit.Arch a) = a.identifier ∷ a.entity ∷ []
identifiers_in_head (unit.Pack p) = p.identifier ∷ []
identifiers_in_head (unit.Config c) = c.identifier ∷ c.entity ∷ c.arch ∷ []

-- where a unit begins, the identifiers in its head, and its nodes, in the order of the text
abbrev pub places_of_unit : Unit' → List Place
places_of_unit x = place_of_unit x ∷ map (λ identifier. identifier.place) (identifiers_in_head x) ++ map place_of (nodes_of_unit x)

abbrev pub places_of_units : List Unit' → List Place
places_of_units units = flat_map places_of_unit units
