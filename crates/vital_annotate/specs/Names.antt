-- The generics that an entry is for, by their names.
use Rattle.std.specs.Prelude.{ℕ, List, [], ◌∷◌, ◌++◌, map, take, drop, codes, Option, Some, None}
use Rattle.std.specs.Char.{to_ascii_lowercase}
use Rattle.std.specs.Option.{option_to_list}
use Rattle.vital_sdf.specs.declared.entry.Edge.{Edge}
use Rattle.vital_sdf.specs.declared.entry.Edge.TheVariants as edge
use Rattle.vital_sdf.specs.declared.entry.Port.{Port}
use Rattle.vital_sdf.specs.declared.entry.Timing.{Timing}
use Rattle.vital_sdf.specs.declared.entry.TimingKind.{TimingKind}
use Rattle.vital_sdf.specs.declared.entry.TimingKind.TheVariants as kind
use Rattle.vital_sdf.specs.declared.entry.Triple.{Triple}

-- ---- words of names

-- letters A to Z are small ones
abbrev pub folded : List ℕ → List ℕ
folded bytes = map to_ascii_lowercase bytes

-- words with an underline before each but the first
abbrev pub joined : List (List ℕ) → List ℕ
joined [] = []
joined (w ∷ []) = w
joined (w ∷ v ∷ ws) = w ++ 95 ∷ joined (v ∷ ws)

abbrev pub edge_word : Edge → List ℕ
edge_word edge.Posedge = codes "posedge"
edge_word edge.Negedge = codes "negedge"

abbrev pub edge_or_none : Option Edge → List ℕ
edge_or_none None = codes "noedge"
edge_or_none (Some e) = edge_word e

-- ---- the names that are tried, one after the other, where the words stand before the edges

-- One place for an edge: the name with the edge comes before the one alone.
abbrev pub with_one_edge : List (List ℕ) → Option Edge → List (List ℕ)
with_one_edge words None = joined words ∷ []
with_one_edge words (Some e) = joined (words ++ edge_word e ∷ []) ∷ joined words ∷ []

-- Two places for edges: the name with both comes first, with `noedge` for the one that is absent; where the second is absent, the one with the
-- first alone comes next; the one without edges comes last.
abbrev pub with_two_edges : List (List ℕ) → Option Edge → Option Edge → List (List ℕ)
with_two_edges words None None = joined words ∷ []
with_two_edges words (Some e) None = joined (words ++ edge_word e ∷ codes "noedge" ∷ []) ∷ joined (words ++ edge_word e ∷ []) ∷ joined words ∷ []
with_two_edges words e (Some f) = joined (words ++ edge_or_none e ∷ edge_word f ∷ []) ∷ joined words ∷ []

-- ---- the names for an entry

-- A port is one of the cell itself where its word has one part.
abbrev pub own_name : List (List ℕ) → List ℕ → Option (List ℕ)
own_name [] name = Some name
own_name (l ∷ ls) name = None

abbrev pub own_port : Option Port → Option (List ℕ)
own_port None = None
own_port (Some p) = own_name p.labels p.name

abbrev pub edge_at : Option Port → Option Edge
edge_at None = None
edge_at (Some p) = p.edge

-- The names of a generic for one port.
abbrev pub names_of_port : List ℕ → Option (List ℕ) → Option (List ℕ) → Option Edge → List (List ℕ)
names_of_port prefix None condition e = []
names_of_port prefix (Some port) condition e = with_one_edge (prefix ∷ port ∷ option_to_list condition) e

-- The names of a generic for a path from one port to another.
abbrev pub names_of_path : Option (List ℕ) → Option (List ℕ) → Option (List ℕ) → Option Edge → List (List ℕ)
names_of_path (Some first) (Some second) condition e = with_one_edge (codes "tpd" ∷ first ∷ second ∷ option_to_list condition) e
names_of_path first second condition e = []

-- The names of a generic for a check of one port against another.
abbrev pub names_of_check : List ℕ → Option (List ℕ) → Option (List ℕ) → Option (List ℕ) → Option Edge → Option Edge → List (List ℕ)
names_of_check prefix (Some test) (Some reference) condition e f = with_two_edges (prefix ∷ test ∷ reference ∷ option_to_list condition) e f
names_of_check prefix test reference condition e f = []

abbrev pub path_names : Timing → List (List ℕ)
path_names t = map folded (names_of_path (own_port (Some t.first)) (own_port t.second) t.condition t.first.edge)

-- The labels before an interconnection's port are those of an instance.
abbrev pub wire_names : Timing → List (List ℕ)
wire_names t = map folded (names_of_port (codes "tipd") (Some t.first.name) t.condition t.first.edge)

abbrev pub port_names : List ℕ → Timing → List (List ℕ)
port_names prefix t = map folded (names_of_port prefix (own_port (Some t.first)) t.condition t.first.edge)

abbrev pub check_names : List ℕ → Timing → List (List ℕ)
check_names prefix t = map folded (names_of_check prefix (own_port (Some t.first)) (own_port t.second) t.condition t.first.edge (edge_at t.second))

-- ---- what an entry changes: the names of the generic that it is for, in the order in which they are tried, and the values for it

pub record Change : Type 0 where
  pub names : List (List ℕ)
  pub values : List Triple

abbrev pub one_change : List (List ℕ) → Timing → List Change
one_change names t = record { names = names; values = t.values } ∷ []

-- the first value is for one generic, and the second for another
abbrev pub two_changes : List (List ℕ) → List (List ℕ) → Timing → List Change
two_changes first second t = record { names = first; values = take 1 t.values } ∷ record { names = second; values = drop 1 t.values } ∷ []

abbrev pub changes_of : TimingKind → Timing → List Change
changes_of kind.IoPath t = one_change (path_names t) t
changes_of kind.Port t = one_change (wire_names t) t
changes_of kind.Setup t = one_change (check_names (codes "tsetup") t) t
changes_of kind.Hold t = one_change (check_names (codes "thold") t) t
changes_of kind.Recovery t = one_change (check_names (codes "trecovery") t) t
changes_of kind.Removal t = one_change (check_names (codes "tremoval") t) t
changes_of kind.SetupHold t = two_changes (check_names (codes "tsetup") t) (check_names (codes "thold") t) t
changes_of kind.RecRem t = two_changes (check_names (codes "trecovery") t) (check_names (codes "tremoval") t) t
changes_of kind.Period t = one_change (port_names (codes "tperiod") t) t
changes_of kind.Width t = one_change (port_names (codes "tpw") t) t

abbrev pub changes : Timing → List Change
changes t = changes_of t.kind t
