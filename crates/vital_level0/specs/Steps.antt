-- What the steps that split a name give: from the front of it on, and then from its end.
use Rattle.std.specs.Prelude.{ℕ, ◌+◌, ◌-◌, ◌==◌, Bool, true, false, ◌||◌, List, [], ◌∷◌, length, take, drop, Option, Some, None, find, if◌then◌else◌}
use Rattle.std.specs.Option.{option_and_then, option_map, option_map_or}
use Rattle.std.specs.Str.{bytes_eq}
use Rattle.vital_nodes.specs.declared.decl.Iface.{Iface}
use Rattle.vital_nodes.specs.declared.decl.Mode.{Mode}
use Rattle.vital_level0.specs.declared.parts.Edge.{Edge}
use Rattle.vital_level0.specs.declared.parts.Edge.TheVariants.{Absent, Noedge, Posedge, Negedge}
use Rattle.vital_level0.specs.declared.parts.Parts.{Parts}
use Rattle.vital_level0.specs.declared.parts.Prefix.{Prefix}
use Rattle.vital_level0.specs.Ports.{number_of, mode_at}
use Rattle.vital_level0.specs.Prefixes.{prefixes, underscore, word_of, edge_text, is_in, second_port, may_have_condition, most_edges}

-- What stands before the first underscore, and the rest from it on.
abbrev pub front_part : List ℕ → List ℕ
front_part [] = []
front_part (b ∷ bs) = if b == underscore then [] else b ∷ front_part bs

abbrev pub rest_after : List ℕ → List ℕ
rest_after [] = []
rest_after (b ∷ bs) = if b == underscore then b ∷ bs else rest_after bs

-- The prefix of a word.
abbrev pub prefix_of : List ℕ → Option Prefix
prefix_of word = find (λ kind. bytes_eq word (word_of kind)) prefixes

-- The number of the port that a part names, if its mode fits.
abbrev pub if_fitting : List Iface → (Mode → Bool) → ℕ → Option ℕ
if_fitting ports fits number = if option_map_or fits (mode_at ports number) false then Some number else None

abbrev pub port_of : List Iface → (Mode → Bool) → List ℕ → Option ℕ
port_of ports fits part = option_and_then (if_fitting ports fits) (number_of ports part)

-- A port after its underscore at the front of a text, and the rest.
abbrev pub port_at_front : List Iface → (Mode → Bool) → List ℕ → Option (ℕ × List ℕ)
port_at_front ports fits [] = None
port_at_front ports fits (b ∷ bs) =
    if b == underscore then option_map (λ number. (number, rest_after bs)) (port_of ports fits (front_part bs)) else None

-- The second port of a prefix, if it has one, and the rest.
abbrev pub second_at_front : List Iface → Option (Mode → Bool) → List ℕ → Option (Option ℕ × List ℕ)
second_at_front ports None text = Some (None, text)
second_at_front ports (Some fits) text = option_map (λ found. (Some found.0, found.1)) (port_at_front ports fits text)

-- What stands before a text's end, if it ends so.
abbrev pub before_end : List ℕ → List ℕ → Option (List ℕ)
before_end end text =
    if bytes_eq (drop (length text - length end) text) end then Some (take (length text - length end) text) else None

abbrev pub before_edge : Edge → List ℕ → Option (List ℕ × Edge)
before_edge edge text = option_map (λ front. (front, edge)) (before_end (edge_text edge) text)

abbrev pub or_else : {A : Type 0} → Option A → Option A → Option A
or_else None other = other
or_else (Some x) other = Some x

-- The edge that a text ends in, and what stands before it.
abbrev pub edge_at_end : List ℕ → Option (List ℕ × Edge)
edge_at_end text = or_else (before_edge Posedge text) (or_else (before_edge Negedge text) (before_edge Noedge text))

-- The edges that a text ends in, of which there may be so many, and what stands before them.
abbrev pub two_taken : List ℕ → Edge → Option (List ℕ × Edge) → List ℕ × List Edge
two_taken text last None = (text, last ∷ Absent ∷ [])
two_taken text last (Some (front, test)) = (front, test ∷ last ∷ [])

abbrev pub one_taken : ℕ → List ℕ → Option (List ℕ × Edge) → List ℕ × List Edge
one_taken most text None = (text, Absent ∷ Absent ∷ [])
one_taken most text (Some (front, last)) =
    if most == 1 then (front, last ∷ Absent ∷ []) else two_taken front last (edge_at_end front)

abbrev pub edges_taken : ℕ → List ℕ → List ℕ × List Edge
edges_taken most text = if most == 0 then (text, Absent ∷ Absent ∷ []) else one_taken most text (edge_at_end text)

-- Where the condition's name stands behind its underscore, if there is one.
abbrev pub condition_range : ℕ → List ℕ → Option (ℕ × ℕ)
condition_range start [] = None
condition_range start (b ∷ bs) = Some (start + 1, start + 1 + length bs)

abbrev pub is_empty : List ℕ → Bool
is_empty [] = true
is_empty (b ∷ bs) = false

-- The parts, where a text before the edges is left behind the ports.
abbrev pub parts_with : Prefix → ℕ → Option ℕ → ℕ → List ℕ × List Edge → Option Parts
parts_with kind first second start (text, edges) =
    if is_empty text || may_have_condition kind
    then Some (record { kind = kind; first = first; second = second; condition = condition_range start text; edges = edges })
    else None

-- What follows the ports of a name.
abbrev pub after_ports : Prefix → ℕ → ℕ → Option ℕ × List ℕ → Option Parts
after_ports kind total first (second, text) = parts_with kind first second (total - length text) (edges_taken (most_edges kind) text)

abbrev pub after_first : List Iface → Prefix → ℕ → ℕ × List ℕ → Option Parts
after_first ports kind total (first, text) = option_and_then (after_ports kind total first) (second_at_front ports (second_port kind) text)

abbrev pub after_word : List Iface → ℕ → List ℕ → Prefix → Option Parts
after_word ports total text kind = option_and_then (after_first ports kind total) (port_at_front ports is_in text)

-- The parts of a name.
abbrev pub parts_of_name : List Iface → List ℕ → Option Parts
parts_of_name ports name = option_and_then (after_word ports (length name) (rest_after name)) (prefix_of (front_part name))
