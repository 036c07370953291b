-- The names of the bits of a cell.
use Rattle.std.proofs.Common.{◌≡◌, ℕ, ◌-◌, ◌<◌, ◌≤◌, zero, suc, List, [], ◌∷◌, length, map, get_or, unwrap_or, ap, sym, subst, arith}
use Rattle.std.specs.Prelude.{slice_get}
use Rattle.vital_objects.specs.declared.port.Port.{Port}
use Rattle.vital_objects.specs.declared.signal.Signal.{Signal}
use Rattle.vital_kernel.specs.Activations.{name_of}
use Rattle.vital_typed_cells.specs.Bits.{names_of}
use Rattle.vital_typed_cells.specs.declared.typed_cell.TypedCell.{TypedCell}

pub port_name : (ps : List Port) (ss : List Signal) (k : ℕ) (p : Port) → k < length ps → p ≡ get_or ps k p → unwrap_or (slice_get (names_of ps ss) k) [] ≡ p.name
port_name [] ss k p lt e = absurd (omega (arith, lt))
port_name (q ∷ ps) ss zero p lt e = ap (λ (x : Port). x.name) (sym e)
port_name (q ∷ ps) ss (suc k) p lt e = port_name ps ss k p (omega (arith, lt)) e

own_name : (ss : List Signal) (k : ℕ) (s : Signal) → k < length ss → s ≡ get_or ss k s → unwrap_or (slice_get (map (λ x. x.name) ss) k) [] ≡ s.name
own_name [] k s lt e = absurd (omega (arith, lt))
own_name (q ∷ ss) zero s lt e = ap (λ (x : Signal). x.name) (sym e)
own_name (q ∷ ss) (suc k) s lt e = own_name ss k s (omega (arith, lt)) e

pub signal_name : (ps : List Port) (ss : List Signal) (k : ℕ) (s : Signal) → length ps ≤ k → k - length ps < length ss → s ≡ get_or ss (k - length ps) s
    → unwrap_or (slice_get (names_of ps ss) k) [] ≡ s.name
signal_name [] ss k s le lt e =
    let same : k - 0 ≡ k = omega arith in
    own_name ss k s (omega (arith, lt)) (subst (λ (i : ℕ). s ≡ get_or ss i s) same e)
signal_name (q ∷ ps) ss zero s le lt e = absurd (omega (arith, le))
signal_name (q ∷ ps) ss (suc k) s le lt e =
    let same : suc k - length (q ∷ ps) ≡ k - length ps = omega arith in
    signal_name ps ss k s (omega (arith, le)) (omega (arith, lt)) (subst (λ (i : ℕ). s ≡ get_or ss i s) same e)

-- as code reads them
pub port_at : (c : TypedCell) (ps : List Port) (k : ℕ) (p : Port) → ps ≡ c.ports → k < length ps → p ≡ get_or ps k p → p.name ≡ name_of c k
port_at c ps k p same lt e =
    sym (subst (λ (xs : List Port). unwrap_or (slice_get (names_of xs c.signals) k) [] ≡ p.name) same (port_name ps c.signals k p lt e))

pub signal_at : (c : TypedCell) (ps : List Port) (ss : List Signal) (k : ℕ) (s : Signal) → ps ≡ c.ports → ss ≡ c.signals → length ps ≤ k → k - length ps < length ss → s ≡ get_or ss (k - length ps) s
    → s.name ≡ name_of c k
signal_at c ps ss k s same as_well le lt e =
    sym (subst (λ (xs : List Port). unwrap_or (slice_get (names_of xs c.signals) k) [] ≡ s.name) same
    (subst (λ (xs : List Signal). unwrap_or (slice_get (names_of ps xs) k) [] ≡ s.name) as_well (signal_name ps ss k s le lt e)))
