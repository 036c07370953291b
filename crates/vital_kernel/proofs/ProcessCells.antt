-- The instance of a process of a network.
use Rattle.std.proofs.Common.{◌≡◌, ◌∙◌, ℕ, ◌+◌, ◌-◌, ◌≤◌, suc, zero, Bool, true, false, cond, List, [], ◌∷◌, ◌++◌, length, map, Some, refl, ap, sym, subst, arith}
use Rattle.std.specs.List.{enumerate_from, filter, flat_map}
use Rattle.std.specs.Prelude.{All, slice_get}
use Rattle.std.proofs.lemmas.Option.{get_or_from_slice_get, slice_get_within}
use Rattle.vital_cell.specs.Execution.{Executed, all_executed}
use Rattle.vital_kernel.specs.Networks.{NetCell, NetProcess, Network, processes, processes_of}
use Rattle.vital_kernel.specs.Soundness.{IsSoundCell, IsSoundNetwork}

-- what holds of each process of a list
abbrev pub Each : (NetProcess → Type 0) → List NetProcess → Type 0
Each P [] = Unit {0}
Each P (p ∷ ps) = P p × Each P ps

each_append : (P : NetProcess → Type 0) (ps qs : List NetProcess) → Each P ps → Each P qs → Each P (ps ++ qs)
each_append P [] qs h k = k
each_append P (p ∷ ps) qs h k = (h.0, each_append P ps qs h.1 k)

each_weaker : (P Q : NetProcess → Type 0) → ((p : NetProcess) → P p → Q p) → (ps : List NetProcess) → Each P ps → Each Q ps
each_weaker P Q weaker [] h = tt
each_weaker P Q weaker (p ∷ ps) h = (weaker p h.0, each_weaker P Q weaker ps h.1)

each_at : (P : NetProcess → Type 0) (ps : List NetProcess) (k : ℕ) (p : NetProcess) → Each P ps → slice_get ps k ≡ Some p → P p
each_at P [] k p h e = absurd cc
each_at P (q ∷ ps) zero p h e = let same : q ≡ p = cc in subst P same h.0
each_at P (q ∷ ps) (suc k) p h e = each_at P ps k p h.1 e

pub each_filter : (P : NetProcess → Type 0) (test : NetProcess → Bool) (ps : List NetProcess) → Each P ps → Each P (filter test ps)
each_filter P test [] h = tt
each_filter P test (p ∷ ps) h =
    elim (test p) as (λ b. Each P (cond b (p ∷ filter test ps) (filter test ps))) [
      | true ↦ (h.0, each_filter P test ps h.1)
      | false ↦ each_filter P test ps h.1
    ]

-- a process of the instance of a number
abbrev IsOf : ℕ → NetCell → NetProcess → Type 0
IsOf instance cell p = (p.instance ≡ instance) × (p.cell ≡ cell)

all_of : (instance : ℕ) (cell : NetCell) (xs : List (ℕ × Executed))
    → Each (IsOf instance cell) (map (λ x. let it : NetProcess = record { instance = instance; cell = cell; number = x.0; executed = x.1 } in it) xs)
all_of instance cell [] = tt
all_of instance cell (x ∷ xs) = ((refl, refl), all_of instance cell xs)

-- a process of one of these instances, where the first has a number
abbrev IsAmong : ℕ → List NetCell → NetProcess → Type 0
IsAmong first cells p = (first ≤ p.instance) × (slice_get cells (p.instance - first) ≡ Some p.cell)

is_first : (first : ℕ) (c : NetCell) (cs : List NetCell) (p : NetProcess) → IsOf first c p → IsAmong first (c ∷ cs) p
is_first first c cs p (same, cell) =
    let none : p.instance - first ≡ 0 = omega (arith, same) in
    (omega (arith, same), ap (slice_get (c ∷ cs)) none ∙ ap (λ (x : NetCell). Some x) (sym cell))

is_later : (first : ℕ) (c : NetCell) (cs : List NetCell) (p : NetProcess) → IsAmong (first + 1) cs p → IsAmong first (c ∷ cs) p
is_later first c cs p (from, cell) =
    let more : p.instance - first ≡ suc (p.instance - (first + 1)) = omega (arith, from) in
    (omega (arith, from), ap (slice_get (c ∷ cs)) more ∙ cell)

all_among : (first : ℕ) (cells : List NetCell) → Each (IsAmong first cells) (flat_map processes_of (enumerate_from first cells))
all_among first [] = tt
all_among first (c ∷ cs) =
    each_append (IsAmong first (c ∷ cs)) (processes_of (first, c)) (flat_map processes_of (enumerate_from (first + 1) cs))
    (each_weaker (IsOf first c) (IsAmong first (c ∷ cs)) (is_first first c cs) (processes_of (first, c)) (all_of first c (enumerate_from 0 (all_executed c.tree))))
    (each_weaker (IsAmong (first + 1) cs) (IsAmong first (c ∷ cs)) (is_later first c cs) (flat_map processes_of (enumerate_from (first + 1) cs)) (all_among (first + 1) cs))

-- a process of a network is of the instance of its number
pub cell_there : (n : Network) (k : ℕ) (p : NetProcess) → slice_get (processes n) k ≡ Some p → slice_get n.cells p.instance ≡ Some p.cell
cell_there n k p e =
    let among : IsAmong 0 n.cells p = each_at (IsAmong 0 n.cells) (processes n) k p (all_among 0 n.cells) e in
    let same : p.instance - 0 ≡ p.instance = omega arith in
    subst (λ (i : ℕ). slice_get n.cells i ≡ Some p.cell) same among.1

-- what holds of all items holds of the one of a number
pub all_at : {X : Type 0} (P : X → Type 0) (xs : List X) (k : ℕ) (x : X) → All P xs → slice_get xs k ≡ Some x → P x
all_at P xs k x all e = subst P (get_or_from_slice_get xs k x x e) (all k x (slice_get_within xs k x e))

-- the drivers of each process come behind those of the stimuli
pub all_behind : (n : Network) → IsSoundNetwork n → Each (λ p. length n.stimulus_drivers ≤ p.cell.first_driver) (processes n)
all_behind n sound =
    let behind : (p : NetProcess) → IsAmong 0 n.cells p → length n.stimulus_drivers ≤ p.cell.first_driver =
    λ p among. (all_at (IsSoundCell n) n.cells (p.instance - 0) p.cell sound.cells_sound among.1).behind_stimuli in
    each_weaker (IsAmong 0 n.cells) (λ p. length n.stimulus_drivers ≤ p.cell.first_driver) behind (processes n) (all_among 0 n.cells)
