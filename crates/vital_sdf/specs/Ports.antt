-- The ports of delays and timing checks.
use Rattle.std.specs.Prelude.{ℕ, ◌-◌, ◌==◌, if◌then◌else◌, List, [], length, take, slice_index_or, Option, Some, None, Ok}
use Rattle.vital_sdf_lexemes.specs.Kinds.{number}
use Rattle.vital_sdf_lexemes.specs.declared.kinds.Kind.TheVariants as kind
use Rattle.vital_sdf_words.specs.Paths.{parts}
use Rattle.vital_sdf.specs.declared.entry.Edge.{Edge}
use Rattle.vital_sdf.specs.declared.entry.Edge.TheVariants.{Posedge, Negedge}
use Rattle.vital_sdf.specs.declared.entry.Port.{Port}
use Rattle.vital_sdf.specs.Reading.{Reader, ◌>>=◌, ◌>>◌, pure, kind_here, skip, taken, next_token, past_token, spelling_of}

abbrev pub port_of_parts : List (List ℕ) → Option Edge → Port
port_of_parts names e = record { labels = take (length names - 1) names; name = slice_index_or names (length names - 1) []; edge = e }

-- a word as a port, split at the divider that counts here
abbrev pub port_of : Option Edge → Reader Port
port_of e = λ i. Ok (port_of_parts (parts i.divider (spelling_of i.text (next_token i))) e, past_token i)

-- POSEDGE | NEGEDGE
abbrev pub edge_of : ℕ → Option Edge
edge_of k = if k == number kind.PosEdge then Some Posedge else (if k == number kind.NegEdge then Some Negedge else None)

-- ( POSEDGE | NEGEDGE ) WORD
unfoldable pub edge_port : Reader Port
edge_port = taken >>= λ k. port_of (edge_of k)

-- port = WORD | "(" ( POSEDGE | NEGEDGE ) WORD ")"
unfoldable pub port : Reader Port
port = do
  k ← kind_here
  if k == number kind.LeftParenthesis then (do
    skip
    found ← edge_port
    skip
    pure found) else port_of None
