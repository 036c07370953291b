-- No more processes stand before the block of wire delays than there are.
use Rattle.std.proofs.Common.{◌≡◌, ◌≤◌, ℕ, zero, suc, ◌+◌, Bool, List, [], ◌∷◌, ◌++◌, length, Option, Some, None, refl, sym, ap, ◌∙◌, subst, arith}
use Rattle.std.specs.Prelude.{cond, is_some, take}
use Rattle.std.specs.List.{cons_option, count_by, filter_map, flat_map, fold}
use Rattle.std.specs.Option.{option_map_or}
use Rattle.std.proofs.lemmas.List.{length-append, length-map}
use Rattle.std.proofs.lemmas.List.Elements.{filter_map-append}
use Rattle.vital_base.specs.declared.place.Place.{Place}
use Rattle.vital_names.specs.Sites.{Cell}
use Rattle.vital_nodes.specs.declared.stmt.Conc.{Conc}
use Rattle.vital_nodes.specs.declared.stmt.Conc.TheOpen.{Conc-F}
use Rattle.vital_nodes.specs.declared.stmt.Conc.TheViews.{out-Conc}
use Rattle.vital_nodes.specs.declared.stmt.Process.{Process}
use Rattle.vital_nodes.specs.declared.unit.Arch.{Arch}
use Rattle.vital_nodes.specs.Layers.{ConcLayer}
use Rattle.vital_nodes.specs.Nodes.{Node, Concurrent, concurrents, parts_of}
use Rattle.vital_nodes.specs.Walk.{nodes_of, nodes_of_all}
use Rattle.vital_statements.specs.Statements.{process_in as process_stated}
use Rattle.vital_typed_cells.specs.Processes.{before_block, is_process, process as typed_process, processes as typed_processes, processes_before_wires}
use Rattle.vital_uses.specs.Statements.{process, process_in, processes}
use Rattle.vital_nodes.specs.Statements.{concurrent}
use Rattle.vital_nodes.proofs.Values.{WalkLaw}

-- ---- lists

abbrev one_if : {A : Type 0} → (A → Bool) → A → ℕ
one_if test x = cond (test x) 1 0

from-start : {A : Type 0} (test : A → Bool) (n : ℕ) (xs : List A) → fold (λ a x. a + one_if test x) n xs ≡ n + fold (λ a x. a + one_if test x) 0 xs
from-start test n [] = omega arith
from-start test n (x ∷ xs) =
    let here : fold (λ a y. a + one_if test y) (n + one_if test x) xs ≡ (n + one_if test x) + fold (λ a y. a + one_if test y) 0 xs = from-start test (n + one_if test x) xs in
    let alone : fold (λ a y. a + one_if test y) (0 + one_if test x) xs ≡ (0 + one_if test x) + fold (λ a y. a + one_if test y) 0 xs = from-start test (0 + one_if test x) xs in
    omega (arith, here, alone)

one-more : {A : Type 0} (test : A → Bool) (x : A) (xs : List A) → count_by test (x ∷ xs) ≡ one_if test x + count_by test xs
one-more test x xs = let alone : count_by test (x ∷ xs) ≡ (0 + one_if test x) + count_by test xs = from-start test (0 + one_if test x) xs in omega (arith, alone)

taken-count : {A : Type 0} (test : A → Bool) (n : ℕ) (xs : List A) → count_by test (take n xs) ≤ count_by test xs
taken-count test zero xs = omega arith
taken-count test (suc n) [] = omega arith
taken-count test (suc n) (x ∷ xs) =
    let first : count_by test (x ∷ take n xs) ≡ one_if test x + count_by test (take n xs) = one-more test x (take n xs) in
    let second : count_by test (x ∷ xs) ≡ one_if test x + count_by test xs = one-more test x xs in
    let others : count_by test (take n xs) ≤ count_by test xs = taken-count test n xs in
    omega (arith, first, second, others)

-- ---- processes

abbrev found_in : List Node → List Process
found_in vs = filter_map process (filter_map concurrent vs)

found-append : (xs ys : List Node) → length (found_in (xs ++ ys)) ≡ length (found_in xs) + length (found_in ys)
found-append xs ys =
    ap (λ cs. length (filter_map process cs)) (filter_map-append concurrent xs ys)
    ∙ ap length (filter_map-append process (filter_map concurrent xs) (filter_map concurrent ys))
    ∙ length-append (found_in xs) (found_in ys)

same-layer : (l : ConcLayer) → process_stated l ≡ process_in l
same-layer (Conc-F.Process place label p) = refl
same-layer (Conc-F.ComponentInstance place i) = refl
same-layer (Conc-F.Instance place i) = refl
same-layer (Conc-F.Block place label b) = refl
same-layer (Conc-F.Call place name) = refl
same-layer (Conc-F.SignalAssignment place a) = refl

at-least : (o : Option Process) (ps : List Process) → cond (is_some o) 1 0 ≤ length (cons_option o ps)
at-least None ps = omega arith
at-least (Some p) ps = omega arith

node-count : WalkLaw → (c : Conc) → cond (is_process c) 1 0 ≤ length (found_in (nodes_of (Concurrent c)))
node-count law c =
    subst (λ vs. cond (is_process c) 1 0 ≤ length (found_in vs)) (sym (law (Concurrent c)))
    (subst (λ o. cond (is_some o) 1 0 ≤ length (cons_option (process c) (found_in (flat_map nodes_of (parts_of (Concurrent c)))))) (sym (same-layer (out-Conc c)))
    (at-least (process c) (found_in (flat_map nodes_of (parts_of (Concurrent c))))))

all-count : WalkLaw → (cs : List Conc) → count_by is_process cs ≤ length (found_in (nodes_of_all (concurrents cs)))
all-count law [] = omega arith
all-count law (c ∷ cs) =
    let first : cond (is_process c) 1 0 ≤ length (found_in (nodes_of (Concurrent c))) = node-count law c in
    let others : count_by is_process cs ≤ length (found_in (nodes_of_all (concurrents cs))) = all-count law cs in
    let both : length (found_in (nodes_of (Concurrent c) ++ nodes_of_all (concurrents cs))) ≡ length (found_in (nodes_of (Concurrent c))) + length (found_in (nodes_of_all (concurrents cs))) =
    found-append (nodes_of (Concurrent c)) (nodes_of_all (concurrents cs)) in
    let one : count_by is_process (c ∷ cs) ≡ cond (is_process c) 1 0 + count_by is_process cs = one-more is_process c cs in
    omega (arith, first, others, both, one)

counted : WalkLaw → (a : Option Arch) → count_by is_process (before_block (option_map_or (λ b. b.statements) a [])) ≤ length (processes a)
counted law None = omega arith
counted law (Some a) =
    let taken : count_by is_process (before_block a.statements) ≤ count_by is_process a.statements = taken-count is_process _ a.statements in
    let all : count_by is_process a.statements ≤ length (processes (Some a)) = all-count law a.statements in
    omega (arith, taken, all)

pub before-wires : WalkLaw → (cell : Cell) (faults : List Place) → processes_before_wires cell ≤ length (typed_processes cell faults)
before-wires law cell faults =
    subst (λ (n : ℕ). processes_before_wires cell ≤ n) (sym (length-map (processes cell.arch) (typed_process cell faults))) (counted law cell.arch)
