-- Processes that are put behind others.
use Rattle.std.proofs.Common.{◌≡◌, ◌<◌, ◌+◌, ◌-◌, ℕ, List, [], ◌∷◌, ◌++◌, length, map, take, drop, get_or, sym, ◌∙◌, ap, subst, append-nil, append_assoc, arith}
use Rattle.std.specs.Prelude.{All}
use Rattle.std.specs.List.{AllZip, sum_by}
use Rattle.std.proofs.lemmas.List.{length-drop, map-append, take_all, take_more}
use Rattle.std.proofs.lemmas.List.Elements.{All-nil, All-push}
use Rattle.std.proofs.lemmas.List.Sums.{sum_by-cons, sum_by_push}
use Rattle.vital_cell.specs.Compiled.{AreMade, ArePut, IsMade, IsPut, with_drivers}
use Rattle.vital_cell.specs.declared.processes.Processes.{Processes}
use Rattle.vital_cell.proofs.CellListLemmas.{zip-push}
use Rattle.vital_cell.specs.Execution.{Executed, Process', Wire, all_executed, drivers_of}
use Rattle.vital_machine.specs.declared.program.Process.{Process}
use Rattle.vital_machine.specs.Fits.{IsProcess}
use Rattle.vital_cell.specs.Scopes.{Scope}
use Rattle.vital_typed_cells.specs.declared.process.CellProcess.{CellProcess}
use Rattle.vital_typed_cells.specs.declared.typed_cell.TypedCell.{TypedCell}
use Rattle.vital_typed_cells.specs.declared.wire.WireDelay.{WireDelay}

drivers-push : (n : ℕ) (xs : List Executed) (x : Executed) → with_drivers n (xs ++ x ∷ []) ≡ with_drivers n xs ++ (n + sum_by drivers_of xs, x) ∷ []
drivers-push n [] x =
    let same : n ≡ n + 0 = omega arith in
    ap (λ m. (m, x) ∷ []) same
drivers-push n (y ∷ ys) x =
    let same : (n + drivers_of y) + sum_by drivers_of ys ≡ n + sum_by drivers_of (y ∷ ys) = omega (arith, sum_by-cons drivers_of y ys) in
    ap (λ zs. (n, y) ∷ zs) (drivers-push (n + drivers_of y) ys x ∙ ap (λ m. with_drivers (n + drivers_of y) ys ++ (m, x) ∷ []) same)

pub put-one : (k : Scope) (x : Executed) (old new : Processes) (driver : ℕ) (made : Process) → driver ≡ old.drivers → IsMade k (driver, x) made → IsProcess made
    → new.processes.items ≡ old.processes.items ++ made ∷ [] → new.drivers ≡ old.drivers + drivers_of x → IsPut k x old new
put-one k x old new driver made first is short put more = λ before are.
    let number : driver ≡ 0 + sum_by drivers_of before = first ∙ are.drivers ∙ omega arith in
    let M : ℕ → Type 0 = λ d. IsMade k (d, x) made in
    let P : List Process → Type 0 = λ ps. AllZip (IsMade k) (with_drivers 0 (before ++ x ∷ [])) ps in
    let Q : List (ℕ × Executed) → Type 0 = λ xs. AllZip (IsMade k) xs (old.processes.items ++ made ∷ []) in
    let R : List Process → Type 0 = λ ps. All IsProcess ps in
    record {
      each = subst P (sym put) (subst Q (sym (drivers-push 0 before x)) (zip-push (IsMade k) (with_drivers 0 before) old.processes.items (0 + sum_by drivers_of before, x) made are.each (subst M number is)));
      drivers = more ∙ ap (λ n. n + drivers_of x) are.drivers ∙ sym (sum_by_push drivers_of before x);
      are = subst R (sym put) (All-push IsProcess old.processes.items made are.are short);
    }

pub put-none : (k : Scope) (made : Processes) → ArePut k [] made made
put-none k made = λ before are. let P : List Executed → Type 0 = λ xs. AreMade k xs made in subst P (sym (append-nil before)) are

map-take : {A B : Type 0} (see : A → B) (xs : List A) (i : ℕ) (x : A) → i < length xs → x ≡ get_or xs i x → map see (take (i + 1) xs) ≡ map see (take i xs) ++ see x ∷ []
map-take see xs i x within is =
    ap (map see) (take_more xs i x within ∙ ap (λ y. take i xs ++ y ∷ []) (sym is)) ∙ map-append see (take i xs) (x ∷ [])

pub put-turn : {A : Type 0} (k : Scope) (see : A → Executed) (xs : List A) (i : ℕ) (x : A) (first old new : Processes) → i < length xs → x ≡ get_or xs i x → ArePut k (map see (take i xs)) first old → IsPut k (see x) old new
    → ArePut k (map see (take (i + 1) xs)) first new
put-turn k see xs i x first old new within is so-far put = λ before are.
    let done = map see (take i xs) in
    let P : List Executed → Type 0 = λ ys. AreMade k ys new in
    subst P (append_assoc before done (see x ∷ []) ∙ ap (λ ys. before ++ ys) (sym (map-take see xs i x within is))) (put (before ++ done) (so-far before are))

-- Before the first one.
pub none-made : (k : Scope) (made : Processes) → made.processes.items ≡ [] → made.drivers ≡ 0 → AreMade k [] made
none-made k made none drivers =
    let P : List Process → Type 0 = λ ps. AllZip (IsMade k) [] ps in
    let Q : List Process → Type 0 = λ ps. All IsProcess ps in
    record { each = subst P (sym none) tt; drivers = drivers; are = subst Q (sym none) (All-nil IsProcess) }

-- All that is behind a number of elements.
behind : {A : Type 0} (n : ℕ) (xs : List A) → take (length xs - n) (drop n xs) ≡ drop n xs
behind n xs = take_all (length xs - n) (drop n xs) (omega (arith, length-drop n xs))

-- What a cell executes: the wire delays stand among the processes.
pub all-made : (k : Scope) (c : TypedCell) (processes : List CellProcess) (wires : List WireDelay) (none before joined all : Processes) → processes ≡ c.processes → wires ≡ c.wires → none.processes.items ≡ [] → none.drivers ≡ 0
    → ArePut k (map (λ p. Process' p) (take c.processes_before_wires processes)) none before → ArePut k (map (λ w. Wire w) wires) before joined
    → ArePut k (map (λ p. Process' p) (take (length processes - c.processes_before_wires) (drop c.processes_before_wires processes))) joined all → AreMade k (all_executed c) all
all-made k c processes wires none before joined all processes-are wires-are no-process no-driver first second third =
    let n = c.processes_before_wires in
    let here = map (λ p. Process' p) (take n processes) in
    let R : List CellProcess → Type 0 = λ ps. ArePut k (map (λ p. Process' p) ps) joined all in
    let P : List CellProcess → Type 0 = λ ps. AreMade k (map (λ p. Process' p) (take n ps) ++ map (λ w. Wire w) wires ++ map (λ p. Process' p) (drop n ps)) all in
    let Q : List WireDelay → Type 0 = λ ws. AreMade k (map (λ p. Process' p) (take n c.processes) ++ map (λ w. Wire w) ws ++ map (λ p. Process' p) (drop n c.processes)) all in
    subst Q wires-are (subst P processes-are (subst R (behind n processes) third (here ++ map (λ w. Wire w) wires) (second here (first [] (none-made k none no-process no-driver)))))
