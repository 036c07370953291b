-- The signals to which the processes of instances of cells are sensitive, one after another.
use Rattle.std.proofs.Common.{◌≡◌, ℕ, ◌+◌, List, [], ◌∷◌, ◌++◌, map, take, drop, Result, Ok, Err, refl, sym, ap, ◌∙◌}
use Rattle.std.specs.Prelude.{OnOk, slice_get}
use Rattle.std.specs.List.{enumerate_from, filter_map, flat_map}
use Rattle.std.proofs.lemmas.List.{append_assoc, map-append}
use Rattle.vital_cell.specs.Environments.{bit_of}
use Rattle.vital_cell.specs.Execution.{Executed, Process', Wire, all_executed}
use Rattle.vital_kernel.specs.Sensitivities.{sensitivities_of}
use Rattle.vital_kernel.specs.Networks.{NetCell, Network, bits_listed, processes, processes_of, sensitivity}
use Rattle.vital_typed_cells.specs.declared.process.CellProcess.{CellProcess}
use Rattle.vital_typed_cells.specs.declared.wire.WireDelay.{WireDelay}

pub on-ok : {T E P Q : Type 0} (r : Result T E) → (P → Q) → OnOk r P → OnOk r Q
on-ok (Ok x) f p = f p
on-ok (Err e) f p = tt

-- ---- those of an instance

twice : {A B C : Type 0} (f : B → C) (g : A → B) (xs : List A) → map f (map g xs) ≡ map (λ x. f (g x)) xs
twice f g [] = refl
twice {A} {B} {C} f g (x ∷ xs) = ap (λ (cs : List C). f (g x) ∷ cs) (twice f g xs)

abbrev pub of_process : List ℕ → CellProcess → List ℕ
of_process wires p = filter_map (slice_get wires) p.sensitivity

abbrev pub of_wire : NetCell → WireDelay → List ℕ
of_wire c w = filter_map (slice_get c.wires) (bit_of c.tree w.port ∷ [])

pub cell-parts : (c : NetCell)
    → sensitivities_of c
    ≡ (map (of_process c.wires) (take c.tree.processes_before_wires c.tree.processes) ++ map (of_wire c) c.tree.wires)
    ++ map (of_process c.wires) (drop c.tree.processes_before_wires c.tree.processes)
cell-parts c =
    let f = λ (x : Executed). filter_map (slice_get c.wires) (bits_listed c.tree x) in
    let front = take c.tree.processes_before_wires c.tree.processes in
    let back = drop c.tree.processes_before_wires c.tree.processes in
    let before : List Executed = map (λ p. Process' p) front in
    let wires : List Executed = map (λ w. Wire w) c.tree.wires in
    let behind : List Executed = map (λ p. Process' p) back in
    map-append f (before ++ wires) behind
    ∙ ap (λ (ss : List (List ℕ)). ss ++ map f behind) (map-append f before wires)
    ∙ ap (λ (ss : List (List ℕ)). (ss ++ map f wires) ++ map f behind) (twice f (λ p. Process' p) front)
    ∙ ap (λ (ss : List (List ℕ)). (map (of_process c.wires) front ++ ss) ++ map f behind) (twice f (λ w. Wire w) c.tree.wires)
    ∙ ap (λ (ss : List (List ℕ)). (map (of_process c.wires) front ++ map (of_wire c) c.tree.wires) ++ ss) (twice f (λ p. Process' p) back)

-- put one after another
pub cell-put : (c : NetCell) (old first second new : List (List ℕ))
    → first ≡ old ++ map (of_process c.wires) (take c.tree.processes_before_wires c.tree.processes) → second ≡ first ++ map (of_wire c) c.tree.wires
    → new ≡ second ++ map (of_process c.wires) (drop c.tree.processes_before_wires c.tree.processes) → new ≡ old ++ sensitivities_of c
cell-put c old first second new one two three =
    let a = map (of_process c.wires) (take c.tree.processes_before_wires c.tree.processes) in
    let b = map (of_wire c) c.tree.wires in
    let d = map (of_process c.wires) (drop c.tree.processes_before_wires c.tree.processes) in
    three
    ∙ ap (λ (ss : List (List ℕ)). ss ++ d) (two ∙ ap (λ (ss : List (List ℕ)). ss ++ b) one ∙ append_assoc old a b)
    ∙ append_assoc old (a ++ b) d
    ∙ ap (λ (ss : List (List ℕ)). old ++ ss) (sym (cell-parts c))

-- ---- those of a network

numbered : (instance j : ℕ) (c : NetCell) (xs : List Executed)
    → map sensitivity (map (λ x. record { instance = instance; cell = c; number = x.0; executed = x.1 }) (enumerate_from j xs)) ≡ map (λ x. filter_map (slice_get c.wires) (bits_listed c.tree x)) xs
numbered instance j c [] = refl
numbered instance j c (x ∷ xs) = ap (λ (ss : List (List ℕ)). filter_map (slice_get c.wires) (bits_listed c.tree x) ∷ ss) (numbered instance (j + 1) c xs)

from : (k : ℕ) (cells : List NetCell) → map sensitivity (flat_map processes_of (enumerate_from k cells)) ≡ flat_map sensitivities_of cells
from k [] = refl
from k (c ∷ cells) =
    map-append sensitivity (processes_of (k, c)) (flat_map processes_of (enumerate_from (k + 1) cells))
    ∙ ap (λ (ss : List (List ℕ)). ss ++ map sensitivity (flat_map processes_of (enumerate_from (k + 1) cells))) (numbered k 0 c (all_executed c.tree))
    ∙ ap (λ (ss : List (List ℕ)). sensitivities_of c ++ ss) (from (k + 1) cells)

pub of-network : (n : Network) → flat_map sensitivities_of n.cells ≡ map sensitivity (processes n)
of-network n = sym (from 0 n.cells)
