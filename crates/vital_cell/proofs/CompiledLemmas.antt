-- What is compiled of a sound cell stands for it.
use Rattle.std.proofs.Common.{◌≡◌, ◌≤◌, ◌+◌, ℕ, true, List, [], ◌∷◌, ◌++◌, length, map, take, drop, refl, sym, ◌∙◌, ap, subst, append_assoc, arith}
use Rattle.std.specs.Prelude.{All, Bool}
use Rattle.std.specs.List.{AllByRecursion, AllZip, enumerate_from, sum_by}
use Rattle.std.proofs.lemmas.List.{length-append, take-append-le, take_all}
use Rattle.std.proofs.lemmas.List.Elements.{All-drop, All-from_recursion, All-take, recursion_from_All}
use Rattle.std.proofs.lemmas.List.Sums.{sum_by-cons, sum_by_push}
use Rattle.vital_cell.specs.Compiled.{CompiledStands, IsMade, with_drivers}
use Rattle.vital_cell.specs.Programs.{IsProcess}
use Rattle.vital_cell.proofs.CellListLemmas.{all-behind}
use Rattle.vital_cell.proofs.CellNumberLemmas.{process-of-cell, wire-of-cell}
use Rattle.vital_cell.proofs.CellProcessLemmas.{process-stands, sound-in-values, wire-stands}
use Rattle.vital_typed_cells.specs.Fits.{FitsCell}
use Rattle.vital_cell.specs.Environments.{control_of}
use Rattle.vital_cell.specs.Execution.{Executed, Process', Wire, all_executed, drivers_of, first_driver}
use Rattle.vital_machine.specs.declared.program.Process.{Process}
use Rattle.vital_machine.specs.Fits.{StepsAreOfCell}
use Rattle.vital_operands.specs.declared.tree.Control.TheVariants as control
use Rattle.vital_typed_cells.specs.Sound.{IsSound, IsSoundProcess, bit_count, is_sound_wire}
use Rattle.vital_cell.specs.Laws.{KindsSuit, SlotsBegin, StepsKeepKinds, StepsStand}
use Rattle.vital_cell.specs.Values.{scope_of_cell}
use Rattle.vital_timing.specs.declared.delay.Delay.{Delay}
use Rattle.vital_typed_cells.specs.declared.typed_cell.TypedCell.{TypedCell}
use Rattle.vital_typed_cells.specs.PackageWorths.{packages_worth}

-- ---- what is executed in a sound cell

abbrev IsSoundExecuted : TypedCell → Executed → Type 0
IsSoundExecuted c (Wire w) = is_sound_wire c w ≡ true
IsSoundExecuted c (Process' p) = IsSoundProcess c p

all-mapped : {A B : Type 0} (P : B → Type 0) (f : A → B) (xs : List A) → AllByRecursion (λ x. P (f x)) xs → AllByRecursion P (map f xs)
all-mapped P f [] all = tt
all-mapped P f (x ∷ xs) all = (all.0, all-mapped P f xs all.1)

all-sound : (c : TypedCell) → IsSound c → AllByRecursion (IsSoundExecuted c) (all_executed c)
all-sound c sound =
    let n = c.processes_before_wires in
    let before = map (λ p. Process' p) (take n c.processes) in
    let wires = map (λ w. Wire w) c.wires in
    let behind = map (λ p. Process' p) (drop n c.processes) in
    all-behind (IsSoundExecuted c) (before ++ wires) behind
    (all-behind (IsSoundExecuted c) before wires
    (all-mapped (IsSoundExecuted c) (λ p. Process' p) (take n c.processes) (recursion_from_All (IsSoundProcess c) (take n c.processes) (All-take (IsSoundProcess c) n c.processes sound.processes_sound)))
    (all-mapped (IsSoundExecuted c) (λ w. Wire w) c.wires (recursion_from_All (λ w. is_sound_wire c w ≡ true) c.wires sound.wires_joined)))
    (all-mapped (IsSoundExecuted c) (λ p. Process' p) (drop n c.processes) (recursion_from_All (IsSoundProcess c) (drop n c.processes) (All-drop (IsSoundProcess c) n c.processes sound.processes_sound)))

-- ---- one after the other

abbrev checks_of : TypedCell → Bool
checks_of c = control_of (packages_worth c.packages) c.controls control.TimingChecksOn

module _ (stand : StepsStand) (keep : StepsKeepKinds) (suit : KindsSuit) (begin : SlotsBegin) (c : TypedCell) (values : List Delay) (on : Bool) (sound : IsSound c) (fit : FitsCell c values) (is-on : on ≡ checks_of c) where
  one-stands : (number driver : ℕ) (x : Executed) (made : Process) → first_driver c number ≡ driver → IsSoundExecuted c x → IsMade (scope_of_cell c values) (driver, x) made → IsProcess c values on (number, x) made
  one-stands number driver (Wire w) made numbered is-sound is = wire-stands c values on number driver w made is-sound numbered is
  one-stands number driver (Process' p) made numbered is-sound is =
      process-stands stand keep suit begin c values on number driver p made (sound-in-values c values p sound is-sound fit) numbered is-on is

  first-of : (before xs : List Executed) → all_executed c ≡ before ++ xs → first_driver c (length before) ≡ sum_by drivers_of before
  first-of before xs is =
      ap (λ ys. sum_by drivers_of (take (length before) ys)) is
      ∙ ap (sum_by drivers_of) (take-append-le (length before) before xs (omega arith) ∙ take_all (length before) before (omega arith))

  rest-stands : (before xs : List Executed) (ps : List Process) → all_executed c ≡ before ++ xs → AllByRecursion (IsSoundExecuted c) xs
      → AllZip (IsMade (scope_of_cell c values)) (with_drivers (sum_by drivers_of before) xs) ps → AllZip (IsProcess c values on) (enumerate_from (length before) xs) ps
  rest-stands before [] [] is all are = tt
  rest-stands before [] (p ∷ ps) is all are = absurd are
  rest-stands before (x ∷ xs) [] is all are = absurd are
  rest-stands before (x ∷ xs) (p ∷ ps) is all are =
      let here = before ++ x ∷ [] in
      let P : ℕ → Type 0 = λ n. AllZip (IsMade (scope_of_cell c values)) (with_drivers n xs) ps in
      let Q : ℕ → Type 0 = λ n. AllZip (IsProcess c values on) (enumerate_from n xs) ps in
      let long : length here ≡ length before + 1 = length-append before (x ∷ []) in (
        one-stands (length before) (sum_by drivers_of before) x p (first-of before (x ∷ xs) is) all.0 are.0,
        subst Q long (rest-stands here xs ps (is ∙ sym (append_assoc before (x ∷ []) xs)) all.1 (subst P (sym (sum_by_push drivers_of before x)) are.1)),
      )

-- ---- numbers

numbers-by : (c : TypedCell) (values : List Delay) (total n : ℕ) (xs : List Executed) (ps : List Process) → AllByRecursion (IsSoundExecuted c) xs → AllZip (IsMade (scope_of_cell c values)) (with_drivers n xs) ps
    → n + sum_by drivers_of xs ≤ total → AllByRecursion (λ p. StepsAreOfCell total (bit_count c) p.steps) ps
numbers-by c values total n [] [] all are few = tt
numbers-by c values total n [] (p ∷ ps) all are few = absurd are
numbers-by c values total n (x ∷ xs) [] all are few = absurd are
numbers-by c values total n (Wire w ∷ xs) (p ∷ ps) all are few =
    let more : n + 1 + sum_by drivers_of xs ≤ total = omega (arith, sum_by-cons drivers_of (Wire w) xs) in
    (wire-of-cell c values total n w p are.0 (omega arith), numbers-by c values total (n + 1) xs ps all.1 are.1 more)
numbers-by c values total n (Process' q ∷ xs) (p ∷ ps) all are few =
    let more : n + length q.sections.path_delays + sum_by drivers_of xs ≤ total = omega (arith, sum_by-cons drivers_of (Process' q) xs) in
    (process-of-cell c values q total n p.steps all.0 are.0.steps (omega arith), numbers-by c values total (n + length q.sections.path_delays) xs ps all.1 are.1 more)

-- ---- the whole

pub compiled-stands : StepsStand → StepsKeepKinds → KindsSuit → SlotsBegin → CompiledStands
compiled-stands stand keep suit begin c values program sound fit is =
    let total = sum_by drivers_of (all_executed c) in
    let P : ℕ → Type 0 = λ bits. All (λ (p : Process). StepsAreOfCell total bits p.steps) program.processes in
    record {
      processes = rest-stands stand keep suit begin c values program.timing_checks_on sound fit is.checks [] (all_executed c) program.processes refl (all-sound c sound) is.each;
      bits = is.bits;
      numbers =
          subst P (sym is.bits)
          (All-from_recursion (λ (p : Process). StepsAreOfCell total (bit_count c) p.steps) program.processes (numbers-by c values total 0 (all_executed c) program.processes (all-sound c sound) is.each (omega arith)));
      checks = is.checks;
    }
