-- The numbers of bits in sensitivity lists.
use Rattle.std.proofs.Common.{◌≡◌, ℕ, ◌+◌, ◌<◌, List, [], Option, Some, None, get_or, map, length, refl, ap, ◌∙◌, subst}
use Rattle.std.proofs.lemmas.List.{length-append, length-map}
use Rattle.std.proofs.lemmas.List.Elements.{All-map}
use Rattle.std.proofs.lemmas.List.Quantifiers.{position-Some}
use Rattle.std.specs.Prelude.{All, IfSome}
use Rattle.std.specs.List.{filter_map}
use Rattle.std.specs.Option.{option_and_then}
use Rattle.std.specs.Str.{bytes_eq}
use Rattle.vital_base.specs.declared.place.Place.{Place}
use Rattle.vital_names.specs.Sites.{Cell}
use Rattle.vital_nodes.specs.declared.expr.Reference.{Reference}
use Rattle.vital_nodes.specs.declared.identifier.Identifier.{Identifier}
use Rattle.vital_nodes.specs.declared.stmt.Process.{Process}
use Rattle.vital_objects.specs.Ports.{ports}
use Rattle.vital_objects.specs.Signals.{signals}
use Rattle.vital_typed_cells.specs.Bits.{number_of}
use Rattle.vital_typed_cells.specs.Processes.{bits, number_listed, process, processes, sensitivity}
use Rattle.vital_uses.specs.Statements.{processes as processes_of}
use Rattle.vital_nodes.specs.Names.{plain_identifier}
use Rattle.vital_typed_cells.proofs.Spelled.{all-taken}

below : (names : List (List ℕ)) (name : List ℕ) (o : Option ℕ) → number_of names name ≡ o → IfSome o (λ n. n < length names)
below names name None is = tt
below names name (Some n) is = (position-Some (λ m. bytes_eq m name) names n [] is).0

listed : (names : List (List ℕ)) (o : Option Identifier) → IfSome (option_and_then (λ i. number_of names i.name) o) (λ n. n < length names)
listed names None = tt
listed names (Some i) = below names i.name (number_of names i.name) refl

numbers-below : (names : List (List ℕ)) (rs : List Reference) → All (λ n. n < length names) (filter_map (number_listed names) rs)
numbers-below names rs = all-taken (λ n. n < length names) (number_listed names) (λ r. listed names (plain_identifier r)) rs

bit-count : (cell : Cell) (faults : List Place) → length (bits cell faults) ≡ length (ports cell faults) + length (signals cell)
bit-count cell faults =
    length-append (map (λ p. p.name) (ports cell faults)) (map (λ s. s.name) (signals cell))
    ∙ ap (λ n. n + length (map (λ s. s.name) (signals cell))) (length-map (ports cell faults) (λ p. p.name))
    ∙ ap (λ n. length (ports cell faults) + n) (length-map (signals cell) (λ s. s.name))

bits-of : (cell : Cell) (faults : List Place) (p : Process) → All (λ n. n < length (ports cell faults) + length (signals cell)) (sensitivity (bits cell faults) p)
bits-of cell faults p =
    subst (λ (m : ℕ). All (λ n. n < m) (sensitivity (bits cell faults) p)) (bit-count cell faults) (numbers-below (bits cell faults) p.sensitivity)

pub bits-there : (cell : Cell) (faults : List Place) → All (λ p. All (λ n. n < length (ports cell faults) + length (signals cell)) p.sensitivity) (processes cell faults)
bits-there cell faults = All-map (λ p. All (λ n. n < length (ports cell faults) + length (signals cell)) p.sensitivity) (process cell faults) (processes_of cell.arch)
    (λ k p inside. bits-of cell faults (get_or (processes_of cell.arch) k p))
