-- How the name of a timing generic splits into its parts (IEEE 1076.4, timing generics).
use Rattle.std.specs.Prelude.{◌≡◌, ◌≢◌, ℕ, ◌+◌, ◌≤◌, ◌==◌, Bool, true, false, List, [], ◌∷◌, ◌++◌, length, Option, Some, None}
use Rattle.std.specs.List.{list_any}
use Rattle.std.specs.Option.{option_map}
use Rattle.vital_nodes.specs.declared.decl.Iface.{Iface}
use Rattle.vital_nodes.specs.declared.decl.Mode.{Mode}
use Rattle.vital_level0.specs.declared.parts.Edge.{Edge}
use Rattle.vital_level0.specs.declared.parts.Edge.TheVariants.{Absent}
use Rattle.vital_level0.specs.declared.parts.Parts.{Parts}
use Rattle.vital_level0.specs.declared.parts.Prefix.{Prefix}
use Rattle.vital_level0.specs.Ports.{number_of, mode_at}
use Rattle.vital_level0.specs.Prefixes.{underscore, word_of, edge_text, is_in, second_port, may_have_condition, most_edges}

abbrev pub holds_underscore : List ℕ → Bool
holds_underscore bytes = list_any (λ byte. byte == underscore) bytes

-- A part between underscores names the port of this number, which has a mode that fits. Of ports with one name it is the first.
pub record IsPort (ports : List Iface) (fits : Mode → Bool) (part : List ℕ) (number : ℕ) : Type 0 where
  pub whole : holds_underscore part ≡ false
  pub named : number_of ports part ≡ Some number
  pub fitting : option_map fits (mode_at ports number) ≡ Some true

-- A port after its underscore.
pub record IsPortText (ports : List Iface) (fits : Mode → Bool) (text : List ℕ) (number : ℕ) : Type 0 where
  pub part : List ℕ
  pub spelled : text ≡ underscore ∷ part
  pub port : IsPort ports fits part number

-- A second port, where the prefix has one.
abbrev pub IsSecond : List Iface → Option (Mode → Bool) → List ℕ → Option ℕ → Type 0
IsSecond ports None text second = (text ≡ []) × (second ≡ None)
IsSecond ports (Some fits) text second = (number : ℕ) × (second ≡ Some number) × IsPortText ports fits text number

-- A condition's name after its underscore, or nothing; and where the name stands if the text begins at a number of bytes.
abbrev pub IsCondition : Bool → ℕ → List ℕ → Option (ℕ × ℕ) → Type 0
IsCondition may_be_there start text None = text ≡ []
IsCondition may_be_there start text (Some range) =
    (may_be_there ≡ true) × (name : List ℕ) × (text ≡ underscore ∷ name) × (range ≡ (start + 1, start + 1 + length name))

-- A text ends in an edge.
abbrev pub EndsInEdge : List ℕ → Type 0
EndsInEdge text = (front : List ℕ) × (edge : Edge) × (edge ≢ Absent) × (text ≡ front ++ edge_text edge)

-- The edges at the end of what stands after the ports: as many of its last parts as are edges, and no more than the most that
-- there may be. A lone one comes first.
pub data AreEdges (most : ℕ) (before : List ℕ) (test reference : Edge) : Type 0 where
  no_edge : test ≡ Absent → reference ≡ Absent → (EndsInEdge before → most ≡ 0) → AreEdges most before test reference
  one_edge : test ≢ Absent → reference ≡ Absent → 1 ≤ most → (EndsInEdge before → most ≡ 1) → AreEdges most before test reference
  two_edges : test ≢ Absent → reference ≢ Absent → 2 ≤ most → AreEdges most before test reference

-- A name splits into parts: it is the word of its prefix, its ports, its condition and its edges, in this order and each after
-- an underscore.
pub record IsSplit (name : List ℕ) (ports : List Iface) (p : Parts) : Type 0 where
  pub first : List ℕ
  pub second : List ℕ
  pub condition : List ℕ
  pub test_edge : Edge
  pub reference_edge : Edge
  pub spelled : name ≡ word_of p.kind ++ first ++ second ++ condition ++ edge_text test_edge ++ edge_text reference_edge
  pub first_port : IsPortText ports is_in first p.first
  pub second_port : IsSecond ports (second_port p.kind) second p.second
  pub condition_name : IsCondition (may_have_condition p.kind) (length (word_of p.kind ++ first ++ second)) condition p.condition
  pub edges : p.edges ≡ test_edge ∷ reference_edge ∷ []
  pub all_edges : AreEdges (most_edges p.kind) condition test_edge reference_edge

-- A name splits, with this prefix.
abbrev pub SplitsAs : List ℕ → List Iface → Prefix → Type 0
SplitsAs name ports kind = (p : Parts) × IsSplit name ports p × (p.kind ≡ kind)

abbrev pub Splits : List ℕ → List Iface → Type 0
Splits name ports = (p : Parts) × IsSplit name ports p

-- No name splits in two ways.
abbrev pub AtMostOneSplitting : Type 0
AtMostOneSplitting = (name : List ℕ) (ports : List Iface) (p q : Parts) → IsSplit name ports p → IsSplit name ports q → p ≡ q
