-- What is kept of the processes of a network, and what contracts see of it.
use Rattle.std.proofs.Common.{◌≡◌, ◌^◌, ◌<◌, ℕ, List, [], length, map, get_or, refl, sym, ◌∙◌, ap, subst}
use Rattle.std.specs.Prelude.{All, IfSome, Some, slice_get}
use Rattle.std.specs.List.{enumerate_from, flat_map}
use Rattle.std.proofs.lemmas.List.{length-map}
use Rattle.std.proofs.lemmas.List.Elements.{All-weaker}
use Rattle.std.proofs.lemmas.Option.{same_Some, slice_get_read}
use Rattle.vital_typed_cells.specs.Fits.{FitsCell}
use Rattle.vital_cell.specs.Variables as variables
use Rattle.vital_machine.specs.declared.effect.Effect.{Effect}
use Rattle.vital_kernel.specs.Networks.{NetCell, NetProcess, Network, lent_cell, processes, processes_of}
use Rattle.vital_kernel.specs.Soundness.{IsSoundCell, IsSoundNetwork}
use Rattle.vital_kernel.specs.declared.network.NetCell.{NetCell as NetCell'}
use Rattle.vital_kernel.proofs.ListLemmas.{all-at, all-mapped, if-some, mapped-at}
use Rattle.vital_kernel.proofs.PlaceLemmas.{all-there}
use Rattle.vital_kernel.specs.declared.instances.Instances.{Instances}
use Rattle.vital_kernel.specs.declared.places.Place.{Place}
use Rattle.vital_kernel.specs.Instances.{AreInstances, AreWired, HasRun, effects_in, states_in, variables_in}
use Rattle.vital_kernel.specs.Kept.{AreKept}
use Rattle.vital_kernel.specs.Places.{IsPlace, IsThere, place_of}
use Rattle.vital_kernel.specs.Processes.{ProcessStates, after, done_by, first_variables, with_slots}
use Rattle.vital_signals.specs.declared.signal.Signal.{Signal}
use Rattle.vital_typed_cells.specs.Sound.{bit_count}

-- ---- the cells of a sound network

pub fits-each : (n : Network) (cells : List NetCell') → map lent_cell cells ≡ n.cells → IsSoundNetwork n → All (λ (c : NetCell'). FitsCell c.cell.now c.values.now) cells
fits-each n cells is sound =
    all-mapped (λ (c : NetCell). FitsCell c.tree c.delays) lent_cell cells
    (subst (λ cs. All (λ (c : NetCell). FitsCell c.tree c.delays) cs) (sym is) (All-weaker (IsSoundCell n) (λ c. FitsCell c.tree c.delays) (λ c s. s.delays) n.cells sound.cells_sound))

pub wired-each : (n : Network) (cells : List NetCell') → map lent_cell cells ≡ n.cells → IsSoundNetwork n → All (λ (c : NetCell'). length c.wires.now ≡ bit_count c.cell.now) cells
wired-each n cells is sound =
    all-mapped (λ (c : NetCell). length c.wires ≡ bit_count c.tree) lent_cell cells
    (subst (λ cs. All (λ (c : NetCell). length c.wires ≡ bit_count c.tree) cs) (sym is) (All-weaker (IsSoundCell n) (λ c. length c.wires ≡ bit_count c.tree) (λ c s. s.wired) n.cells sound.cells_sound))

pub are-wired : (n : Network) (cells : List NetCell) (signals : ℕ) → cells ≡ n.cells → signals ≡ length n.signals → IsSoundNetwork n → AreWired signals cells
are-wired n cells signals is count sound =
    subst (λ cs. AreWired signals cs) (sym is)
    (subst (λ k. AreWired k n.cells) (sym count)
    (record {
      few = sound.few_signals;
      one_each = All-weaker (IsSoundCell n) (λ c. length c.wires ≡ bit_count c.tree) (λ c s. s.wired) n.cells sound.cells_sound;
      there = All-weaker (IsSoundCell n) (λ c. All (λ signal. signal < length n.signals) c.wires) (λ c s. s.signals_there) n.cells sound.cells_sound;
    }))

-- ---- what is kept

pub are-kept : (n : Network) (cells : List NetCell) (places : List Place) (s : Instances) → cells ≡ n.cells → IsSoundNetwork n → places ≡ map place_of (flat_map processes_of (enumerate_from 0 cells)) → length places < 2 ^ 31 → AreInstances cells s → AreKept n places s
are-kept n cells places s is sound placed few are = record {
  sound = sound;
  placed = placed ∙ ap (λ cs. map place_of (flat_map processes_of (enumerate_from 0 cs))) is;
  few = few;
  are = subst (λ cs. AreInstances cs s) is are;
}

pub places-long : (n : Network) (places : List Place) → places ≡ map place_of (processes n) → length places ≡ length (processes n)
places-long n places placed = ap (λ ps. length ps) placed ∙ length-map (processes n) place_of

-- The place of a number is that of the process of the number.
pub place-at : (n : Network) (places : List Place) (k : ℕ) (place : Place) (p : NetProcess) → places ≡ map place_of (processes n) → k < length places → place ≡ get_or places k place → slice_get (processes n) k ≡ Some p → place ≡ place_of p
place-at n places k place p placed within is at =
    let found = mapped-at place_of (processes n) k place (ap (λ ps. slice_get ps k) (sym placed) ∙ slice_get_read places (length places) k place refl within is) in
    sym found.2 ∙ ap place_of (same_Some found.0 p (sym found.1 ∙ at))

pub is-place : (n : Network) (places : List Place) (k : ℕ) (place : Place) → places ≡ map place_of (processes n) → k < length places → place ≡ get_or places k place → IsPlace n.cells place
is-place n places k place placed within is =
    let found = mapped-at place_of (processes n) k place (ap (λ ps. slice_get ps k) (sym placed) ∙ slice_get_read places (length places) k place refl within is) in
    (found.0, all-at (IsThere n.cells) (processes n) k found.0 (all-there n) found.1, sym found.2)

-- ---- what contracts see

state : Network → List (List (List variables.Slot)) → List Effect → ℕ → ProcessStates
state n vs es latest = record { network = n; variables = vs; effects = es; latest = latest }

pub first-state : (n : Network) (cells : List NetCell) (s : Instances) → cells ≡ n.cells → variables_in cells s.instances.items ≡ map first_variables cells → effects_in s.programs.items s.last ≡ [] → s.latest ≡ 0 → states_in n s ≡ record { network = n; variables = map first_variables n.cells; effects = []; latest = 0 }
unfolding state
first-state n cells s is first none latest =
    let variables : variables_in n.cells s.instances.items ≡ map first_variables n.cells = subst (λ cs. variables_in cs s.instances.items ≡ map first_variables cs) is first in
    ap (λ vs. state n vs (effects_in s.programs.items s.last) s.latest) variables
    ∙ ap (λ es. state n (map first_variables n.cells) es s.latest) none
    ∙ ap (λ l. state n (map first_variables n.cells) [] l) latest

pub next-state : (n : Network) (cells : List NetCell) (now : ℕ) (signals : List Signal) (p : NetProcess) (s new : Instances) → cells ≡ n.cells → HasRun now signals p cells s new → new.latest ≡ now → states_in n new ≡ after now signals p (states_in n s)
unfolding state
next-state n cells now signals p s new is ran latest =
    let here : HasRun now signals p n.cells s new = subst (λ cs. HasRun now signals p cs s new) is ran in
    let done = done_by now signals (variables_in n.cells s.instances.items) p in
    ap (λ vs. state n vs (effects_in new.programs.items new.last) new.latest) here.variables
    ∙ ap (λ es. state n (with_slots p done.slots (variables_in n.cells s.instances.items)) es new.latest) here.effects
    ∙ ap (λ l. state n (with_slots p done.slots (variables_in n.cells s.instances.items)) done.effects l) latest

-- What follows for each process of a number.
pub each-process : (n : Network) (places : List Place) (k : ℕ) (place : Place) (P : NetProcess → Type 0) → places ≡ map place_of (processes n) → k < length places → place ≡ get_or places k place → ((p : NetProcess) → IsThere n.cells p → place ≡ place_of p → P p) → IfSome (slice_get (processes n) k) P
each-process n places k place P placed within is then =
    if-some P (slice_get (processes n) k) (λ p at. then p (all-at (IsThere n.cells) (processes n) k p (all-there n) at) (place-at n places k place p placed within is at))
