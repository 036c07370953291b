-- The names that are tried, by the text that they begin with.
use Rattle.std.specs.Prelude.{ℕ, List, [], ◌∷◌, ◌++◌, codes, Option, Some, None}
use Rattle.vital_annotate.specs.Names.{edge_or_none, edge_word, folded}
use Rattle.vital_annotate.specs.declared.names.Edges.{Edges}
use Rattle.vital_annotate.specs.declared.names.Edges.TheVariants as edges

-- a text and a word with an underline before it
abbrev pub with_word : List ℕ → List ℕ → List ℕ
with_word text word = text ++ 95 ∷ word

-- the end of a name that a condition makes
abbrev pub tail : Option (List ℕ) → List ℕ
tail None = []
tail (Some condition) = 95 ∷ folded condition

abbrev pub tried : List ℕ → Edges → List (List ℕ)
tried text edges.NoName = []
tried text (edges.One None) = text ∷ []
tried text (edges.One (Some e)) = with_word text (edge_word e) ∷ text ∷ []
tried text (edges.Two None None) = text ∷ []
tried text (edges.Two (Some e) None) = with_word (with_word text (edge_word e)) (codes "noedge") ∷ with_word text (edge_word e) ∷ text ∷ []
tried text (edges.Two e (Some f)) = with_word (with_word text (edge_or_none e)) (edge_word f) ∷ text ∷ []
