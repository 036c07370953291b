-- The networks of sound designs, and those of ports alone, are sound.
use Rattle.std.proofs.Common.{◌≡◌, ℕ, zero, suc, ◌+◌, ◌^◌, ◌<◌, ◌≤◌, Bool, true, false, cond, List, [], ◌∷◌, length, take, map, Option, Some, None, refl, sym, ap, subst, ◌∙◌, arith}
use Rattle.std.specs.Prelude.{All}
use Rattle.std.specs.Borrow.{Bor}
use Rattle.std.specs.List.{AllByRecursion, AllZip, cons_option, enumerate_from, filter, filter_map, flat_map, slice_get, sum_by, zip}
use Rattle.std.specs.Option.{option_and_then, option_map}
use Rattle.std.proofs.lemmas.List.{append-nil, length-append, length-map}
use Rattle.std.proofs.lemmas.List.Elements.{All-append, All-from_recursion, recursion_from_All}
use Rattle.std.proofs.lemmas.List.FromFn.{length-enumerate_from}
use Rattle.std.proofs.lemmas.List.Sums.{sum_by-cons}
use Rattle.vital_base.specs.declared.ports.PortBit.{PortBit}
use Rattle.vital_base.specs.declared.watch.Watch.{Watch}
use Rattle.vital_typed_cells.specs.Fits.{FitsCell}
use Rattle.vital_netlist.specs.Designs.{Design, DesignInstance}
use Rattle.vital_netlist.specs.Soundness.{IsSoundDesign, IsWired, driven_signals, placed_cells as trees_of, signal_bit_name}
use Rattle.vital_netlist.specs.declared.design_lists.DesignDriver.{DesignDriver}
use Rattle.vital_kernel.specs.DesignNetworks.{cells_from, driver_count, is_stimulated, network, placed_cell, placed_cells, signal_of, signals_of, stimulus_driver, stimulus_drivers}
use Rattle.vital_kernel.specs.Networks.{NetCell, Network, all_drivers}
use Rattle.vital_kernel.specs.PortNetworks.{port_network, port_signal}
use Rattle.vital_kernel.specs.Soundness.{IsSoundCell, IsSoundNetwork}
use Rattle.vital_kernel.specs.declared.network.NetSignal.{NetSignal}
use Rattle.vital_kernel.proofs.DrivenBits.{as-many-signals}
use Rattle.vital_typed_cells.specs.Sound.{IsSound}
use Rattle.vital_stim.specs.declared.stimuli.StimLine.{StimLine}
use Rattle.vital_timing.specs.declared.delay.Delay.{Delay}
use Rattle.vital_typed_cells.specs.declared.typed_cell.TypedCell.{TypedCell}

-- ---- the trees of the instances of cells

abbrev trees : List (ℕ × TypedCell) → List TypedCell
trees placed = map (λ p. p.1) placed

abbrev tree_of : Design → DesignInstance → Option TypedCell
tree_of d i = option_and_then (slice_get d.cells) i.cell

trees-from : (d : Design) (n : ℕ) (is : List DesignInstance) → trees (filter_map (placed_cell d) (enumerate_from n is)) ≡ filter_map (tree_of d) is
trees-from d n [] = refl
trees-from d n (i ∷ is) = by_tree (tree_of d i) (trees-from d (n + 1) is)
  where
    by_tree : (o : Option TypedCell) → trees (filter_map (placed_cell d) (enumerate_from (n + 1) is)) ≡ filter_map (tree_of d) is → trees (cons_option (option_map (λ tree. (n, tree)) o) (filter_map (placed_cell d) (enumerate_from (n + 1) is))) ≡ cons_option o (filter_map (tree_of d) is)
    by_tree None others = others
    by_tree (Some tree) others = ap (λ (ts : List TypedCell). tree ∷ ts) others

pub trees-are : (d : Design) → trees (placed_cells d) ≡ trees_of d
trees-are d = trees-from d 0 d.instances

pub as-many-placed : (d : Design) → IsSoundDesign d → length d.wiring ≡ length (placed_cells d)
as-many-placed d sound = sound.wired_once ∙ ap (λ (ts : List TypedCell). length ts) (sym (trees-are d)) ∙ length-map (placed_cells d) (λ (p : ℕ × TypedCell). p.1)

-- they are sound
got : {A : Type 0} (P : A → Type 0) (xs : List A) (n : ℕ) (x : A) → AllByRecursion P xs → slice_get xs n ≡ Some x → P x
got P [] n x all is = absurd (cc)
got P (y ∷ xs) zero x all is = let same : y ≡ x = cc in subst P same all.0
got P (y ∷ xs) (suc n) x all is = got P xs n x all.1 is

sound-trees : (cells : List TypedCell) (is : List DesignInstance) → AllByRecursion IsSound cells → AllByRecursion IsSound (filter_map (λ i. option_and_then (slice_get cells) i.cell) is)
sound-trees cells [] sound = tt
sound-trees cells (i ∷ is) sound = by_number i.cell (sound-trees cells is sound)
  where
    by_tree : (o : Option TypedCell) (n : ℕ) → slice_get cells n ≡ o → AllByRecursion IsSound (filter_map (λ j. option_and_then (slice_get cells) j.cell) is) → AllByRecursion IsSound (cons_option o (filter_map (λ j. option_and_then (slice_get cells) j.cell) is))
    by_tree None n here rest = rest
    by_tree (Some tree) n here rest = (got IsSound cells n tree sound here, rest)

    by_number : (o : Option ℕ) → AllByRecursion IsSound (filter_map (λ j. option_and_then (slice_get cells) j.cell) is) → AllByRecursion IsSound (cons_option (option_and_then (slice_get cells) o) (filter_map (λ j. option_and_then (slice_get cells) j.cell) is))
    by_number None rest = rest
    by_number (Some n) rest = by_tree (slice_get cells n) n refl rest

-- ---- how many drivers they have

drivers-from : (d : Design) (ts : List TypedCell) (wiring : List (List ℕ)) → AllByRecursion IsSound ts → AllByRecursion (IsWired d) (zip ts wiring) → length wiring ≡ length ts → length (flat_map driven_signals (zip ts wiring)) ≡ sum_by driver_count ts
drivers-from d [] wiring sound wired same = refl
drivers-from d (t ∷ ts) [] sound wired same = absurd (omega arith)
drivers-from d (t ∷ ts) (w ∷ wiring) sound wired same =
    length-append (driven_signals (t, w)) (flat_map driven_signals (zip ts wiring))
    ∙ ap (λ (n : ℕ). n + length (flat_map driven_signals (zip ts wiring))) (as-many-signals t w sound.0 wired.0.all)
    ∙ ap (λ (n : ℕ). driver_count t + n) (drivers-from d ts wiring sound.1 wired.1 (omega arith))
    ∙ sym (sum_by-cons driver_count t ts)

drivers-of-cells : (d : Design) → IsSoundDesign d → length d.drivers ≡ sum_by driver_count (trees_of d)
drivers-of-cells d sound =
    sym (length-map d.drivers (λ (driver : DesignDriver). driver.signal))
    ∙ ap (λ (ns : List ℕ). length ns) sound.drivers_of_cells
    ∙ drivers-from d (trees_of d) d.wiring (sound-trees d.cells d.instances (recursion_from_All IsSound d.cells sound.cells_sound))
    (recursion_from_All (IsWired d) (zip (trees_of d) d.wiring) sound.wired) sound.wired_once

-- ---- the instances of cells are sound

cells-sound : (n : Network) (d : Design) (first : ℕ) (placed : List (ℕ × TypedCell)) (values : List (List Delay)) (wiring : List (List ℕ))
    → length n.signals ≡ length d.signals → AllByRecursion IsSound (trees placed) → AllZip (λ p delays. FitsCell p.1 delays) placed values → AllByRecursion (IsWired d) (zip (trees placed) wiring)
    → first + sum_by driver_count (trees placed) ≤ length (all_drivers n) → length n.stimulus_drivers ≤ first → AllByRecursion (IsSoundCell n) (cells_from d first placed values wiring)
cells-sound n d first [] values wiring same sound fit wired most behind = tt
cells-sound n d first (p ∷ placed) [] wiring same sound fit wired most behind = tt
cells-sound n d first (p ∷ placed) (v ∷ values) [] same sound fit wired most behind = tt
cells-sound n d first (p ∷ placed) (v ∷ values) (w ∷ wiring) same sound fit wired most behind =
    let sum = sum_by-cons driver_count p.1 (trees placed) in (
      record {
        tree = sound.0;
        delays = fit.0;
        wired = wired.0.all;
        signals_there = subst (λ (count : ℕ). All (λ signal. signal < count) w) (sym same) wired.0.there;
        drivers_there = omega (arith, most, sum);
        behind_stimuli = behind;
      },
      cells-sound n d (first + driver_count p.1) placed values wiring same sound.1 fit.1 wired.1 (omega (arith, most, sum)) (omega (arith, behind)),
    )

-- what is borrowed of delays
pub fit-lent : (placed : List (ℕ × TypedCell)) (values : List (Bor (List Delay))) → AllZip (λ p delays. FitsCell p.1 delays.now) placed values → AllZip (λ p delays. FitsCell p.1 delays) placed (map (λ v. v.now) values)
fit-lent [] [] fit = fit
fit-lent [] (v ∷ values) fit = fit
fit-lent (p ∷ placed) [] fit = fit
fit-lent (p ∷ placed) (v ∷ values) fit = (fit.0, fit-lent placed values fit.1)

pub as-many-values : (placed : List (ℕ × TypedCell)) (values : List (Bor (List Delay))) → AllZip (λ p delays. FitsCell p.1 delays.now) placed values → length values ≡ length placed
as-many-values [] [] fit = refl
as-many-values [] (v ∷ values) fit = absurd fit
as-many-values (p ∷ placed) [] fit = absurd fit
as-many-values (p ∷ placed) (v ∷ values) fit = ap (λ (n : ℕ). suc n) (as-many-values placed values fit.1)

-- ---- the drivers of stimuli drive ports, which are the first signals

stimuli-there : (test : (ℕ × PortBit) → Bool) (most k : ℕ) (ps : List PortBit) → k + length ps ≤ most → AllByRecursion (λ driver. driver.signal < most) (map stimulus_driver (filter test (enumerate_from k ps)))
stimuli-there test most k [] le = tt
stimuli-there test most k (p ∷ ps) le = by_test (test (k, p)) (stimuli-there test most (k + 1) ps (omega (arith, le)))
  where
    by_test : (b : Bool) → AllByRecursion (λ driver. driver.signal < most) (map stimulus_driver (filter test (enumerate_from (k + 1) ps))) → AllByRecursion (λ driver. driver.signal < most) (map stimulus_driver (cond b ((k, p) ∷ filter test (enumerate_from (k + 1) ps)) (filter test (enumerate_from (k + 1) ps))))
    by_test true others = (omega (arith, le), others)
    by_test false others = others

take-short : {A : Type 0} (n : ℕ) (xs : List A) → length (take n xs) ≤ length xs
take-short zero xs = omega arith
take-short (suc n) [] = omega arith
take-short (suc n) (x ∷ xs) = omega (arith, take-short n xs)

few-ports : (d : Design) → IsSoundDesign d → length d.ports ≤ length d.signals
few-ports d sound =
    let front = take (length d.ports) d.signals in
    let same : length d.ports ≡ length front =
    sym (length-map d.ports (λ (p : PortBit). p.name)) ∙ ap (λ (ns : List (List ℕ)). length ns) sound.ports_first ∙ length-map front signal_bit_name in
    omega (arith, same, take-short (length d.ports) d.signals)

-- ---- networks of designs

as-many-signals-there : (d : Design) (watch : Watch) → length (signals_of d watch) ≡ length d.signals
as-many-signals-there d watch = length-map (enumerate_from 0 d.signals) (signal_of d watch) ∙ length-enumerate_from 0 d.signals

pub design-sound : (d : Design) (values : List (List Delay)) (lines : List StimLine) (watch : Watch) → IsSoundDesign d → AllZip (λ p delays. FitsCell p.1 delays) (placed_cells d) values
    → length (stimulus_drivers d.ports lines) + length d.drivers < 2 ^ 31 → IsSoundNetwork (network d values lines watch)
design-sound d values lines watch sound fit few =
    let n = network d values lines watch in
    let stimulated = stimulus_drivers d.ports lines in
    let same : length n.signals ≡ length d.signals = as-many-signals-there d watch in
    let count : length (all_drivers n) ≡ length stimulated + length d.drivers = length-append stimulated d.drivers in
    let cells : AllByRecursion IsSound (trees (placed_cells d)) =
    subst (AllByRecursion IsSound) (sym (trees-are d)) (sound-trees d.cells d.instances (recursion_from_All IsSound d.cells sound.cells_sound)) in
    let wired : AllByRecursion (IsWired d) (zip (trees (placed_cells d)) d.wiring) =
    subst (λ (ts : List TypedCell). AllByRecursion (IsWired d) (zip ts d.wiring)) (sym (trees-are d)) (recursion_from_All (IsWired d) (zip (trees_of d) d.wiring) sound.wired) in
    let sum : length d.drivers ≡ sum_by driver_count (trees (placed_cells d)) =
    drivers-of-cells d sound ∙ ap (λ (ts : List TypedCell). sum_by driver_count ts) (sym (trees-are d)) in
    record {
      few_signals = omega (arith, same, sound.few_signals);
      few_drivers = omega (arith, count, few);
      signals_there =
          All-append (λ (driver : DesignDriver). driver.signal < length n.signals) stimulated d.drivers
          (All-from_recursion (λ (driver : DesignDriver). driver.signal < length n.signals) stimulated (stimuli-there (λ p. is_stimulated lines p.0) (length n.signals) 0 d.ports (omega (arith, few-ports d sound, same))))
          (subst (λ (most : ℕ). All (λ (driver : DesignDriver). driver.signal < most) d.drivers) (sym same) sound.drivers_there);
      cells_sound = All-from_recursion (IsSoundCell n) n.cells (cells-sound n d (length stimulated) (placed_cells d) values d.wiring same cells fit wired (omega (arith, count, sum)) (omega arith));
    }

-- the parts as they are made
abbrev pub made : List NetSignal → List DesignDriver → List DesignDriver → List NetCell → Network
made signals stimulated drivers cells = record { signals = signals; stimulus_drivers = stimulated; cell_drivers = drivers; cells = cells }

pub network-made : (d : Design) (values : List (List Delay)) (lines : List StimLine) (watch : Watch) (signals : List NetSignal) (stimulated drivers : List DesignDriver) (cells : List NetCell) (first : ℕ)
    → signals ≡ signals_of d watch → stimulated ≡ stimulus_drivers d.ports lines → drivers ≡ d.drivers → first ≡ length stimulated → cells ≡ cells_from d first (placed_cells d) values d.wiring
    → made signals stimulated drivers cells ≡ network d values lines watch
network-made d values lines watch signals stimulated drivers cells first are-signals are-stimulated are-drivers is-first are-cells =
    ap (λ (ss : List NetSignal). made ss stimulated drivers cells) are-signals
    ∙ ap (λ (cs : List NetCell). made (signals_of d watch) stimulated drivers cs)
    (are-cells ∙ ap (λ (n : ℕ). cells_from d n (placed_cells d) values d.wiring) (is-first ∙ ap (λ (ds : List DesignDriver). length ds) are-stimulated))
    ∙ ap (λ (ds : List DesignDriver). made (signals_of d watch) ds drivers (network d values lines watch).cells) are-stimulated
    ∙ ap (λ (ds : List DesignDriver). made (signals_of d watch) (stimulus_drivers d.ports lines) ds (network d values lines watch).cells) are-drivers

-- ---- networks of ports alone

every-port : (k : ℕ) (ps : List PortBit) → filter (λ p. true) (enumerate_from k ps) ≡ enumerate_from k ps
every-port k [] = refl
every-port k (p ∷ ps) = ap (λ (qs : List (ℕ × PortBit)). (k, p) ∷ qs) (every-port (k + 1) ps)

pub ports-sound : (ports : List PortBit) → length ports < 2 ^ 31 → IsSoundNetwork (port_network ports)
ports-sound ports few =
    let n = port_network ports in
    let drivers : List DesignDriver = map stimulus_driver (enumerate_from 0 ports) in
    let same : length n.signals ≡ length ports = length-map ports port_signal in
    let all : all_drivers n ≡ drivers = append-nil drivers in
    let count : length drivers ≡ length ports = length-map (enumerate_from 0 ports) stimulus_driver ∙ length-enumerate_from 0 ports in
    let there : AllByRecursion (λ driver. driver.signal < length n.signals) drivers =
    subst (λ (ps : List (ℕ × PortBit)). AllByRecursion (λ driver. driver.signal < length n.signals) (map stimulus_driver ps)) (every-port 0 ports)
    (stimuli-there (λ p. true) (length n.signals) 0 ports (omega (arith, same))) in
    record {
      few_signals = omega (arith, same, few);
      few_drivers = omega (arith, ap (λ (ds : List DesignDriver). length ds) all, count, few);
      signals_there = subst (λ (ds : List DesignDriver). All (λ driver. driver.signal < length n.signals) ds) (sym all) (All-from_recursion (λ (driver : DesignDriver). driver.signal < length n.signals) drivers there);
      cells_sound = All-from_recursion (IsSoundCell n) [] tt;
    }

pub ports-made : (ports : List PortBit) (signals : List NetSignal) (stimulated drivers : List DesignDriver) (cells : List NetCell) → signals ≡ map port_signal ports → stimulated ≡ map stimulus_driver (enumerate_from 0 ports) → drivers ≡ [] → cells ≡ []
    → made signals stimulated drivers cells ≡ port_network ports
ports-made ports signals stimulated drivers cells are-signals are-stimulated no-drivers no-cells =
    ap (λ (ss : List NetSignal). made ss stimulated drivers cells) are-signals
    ∙ ap (λ (ds : List DesignDriver). made (map port_signal ports) ds drivers cells) are-stimulated
    ∙ ap (λ (ds : List DesignDriver). made (map port_signal ports) (map stimulus_driver (enumerate_from 0 ports)) ds cells) no-drivers
    ∙ ap (λ (cs : List NetCell). made (map port_signal ports) (map stimulus_driver (enumerate_from 0 ports)) [] cs) no-cells
