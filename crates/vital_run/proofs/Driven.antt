-- The bits of the ports of a design, and their drivers for stimuli: each line of stimuli is for a port with a driver.
use Rattle.std.proofs.Common.{◌≡◌, ℕ, zero, suc, ◌+◌, ◌<◌, ◌≤◌, true, false, List, [], ◌∷◌, filter, length, map, get_or, refl, sym, ap, subst, ◌∙◌, arith}
use Rattle.std.specs.Prelude.{Bool, ◌==◌, ◌||◌, cond, All}
use Rattle.std.specs.List.{enumerate_from, list_any}
use Rattle.std.proofs.lemmas.Bool.{eq-eqb, eqb-true}
use Rattle.vital_base.specs.declared.ports.PortBit.{PortBit}
use Rattle.vital_base.specs.declared.watch.Watch.{Watch}
use Rattle.vital_kernel.specs.Kernels.{IsDriven}
use Rattle.vital_netlist.specs.Designs.{Design}
use Rattle.vital_netlist.specs.declared.design_lists.DesignDriver.{DesignDriver}
use Rattle.vital_kernel.specs.DesignNetworks.{is_stimulated, network, stimulus_driver, stimulus_drivers}
use Rattle.vital_kernel.specs.Networks.{Network}
use Rattle.vital_kernel.specs.PortNetworks.{port_network}
use Rattle.vital_stim.specs.Stimuli.{Fits}
use Rattle.vital_stim.specs.declared.stimuli.StimLine.{StimLine}
use Rattle.vital_stim.specs.declared.stimuli.Stimuli.{Stimuli}
use Rattle.vital_timing.specs.declared.delay.Delay.{Delay}

-- ---- drivers

-- some driver of these is of a signal
abbrev drives : ℕ → List DesignDriver → Bool
drives port drivers = list_any (λ driver. driver.signal == port) drivers

either : (a b : Bool) → b ≡ true → (a || b) ≡ true
either true b h = refl
either false b h = h

-- of ports from a number on one that a test keeps has a driver
kept_is_driven : (q : ℕ → Bool) (ports : List PortBit) (k port : ℕ) → k ≤ port → port < k + length ports → q port ≡ true
    → drives port (map stimulus_driver (filter (λ p. q p.0) (enumerate_from k ports))) ≡ true
kept_is_driven q [] k port from upto kept = absurd (omega (arith, from, upto))
kept_is_driven q (p ∷ ports) k port from upto kept =
    by_first (k == port) refl (q k) refl (λ above. kept_is_driven q ports (k + 1) port above (omega (arith, upto)) kept)
  where
    by_kept : (here : Bool) → drives port (map stimulus_driver (filter (λ x. q x.0) (enumerate_from (k + 1) ports))) ≡ true
        → drives port (map stimulus_driver (cond here ((k, p) ∷ filter (λ x. q x.0) (enumerate_from (k + 1) ports)) (filter (λ x. q x.0) (enumerate_from (k + 1) ports)))) ≡ true
    by_kept true rest = either (k == port) _ rest
    by_kept false rest = rest

    by_first : (same : Bool) → (k == port) ≡ same → (here : Bool) → q k ≡ here
        → (k + 1 ≤ port → drives port (map stimulus_driver (filter (λ x. q x.0) (enumerate_from (k + 1) ports))) ≡ true)
        → drives port (map stimulus_driver (cond here ((k, p) ∷ filter (λ x. q x.0) (enumerate_from (k + 1) ports)) (filter (λ x. q x.0) (enumerate_from (k + 1) ports)))) ≡ true
    by_first true e true h later = rw e refl
    by_first true e false h later =
        let at : k ≡ port = eqb-true k port e in
        let no : q port ≡ false = subst (λ (i : ℕ). q i ≡ false) at h in
        absurd cc
    by_first false e here h later =
        let apart : k ≡ port → ⊥ = λ same. (let is : (k == port) ≡ true = eq-eqb k port same in cc) in
        by_kept here (later (omega (arith, from, apart)))

-- all of them, where each is kept
all_kept : {A : Type 0} (xs : List A) → filter (λ x. true) xs ≡ xs
all_kept [] = refl
all_kept {A = A} (x ∷ xs) = ap (λ (ys : List A). x ∷ ys) (all_kept xs)

-- the port of a line among some is named by a line
named : (lines : List StimLine) (i : ℕ) (d : StimLine) → i < length lines → is_stimulated lines (get_or lines i d).port ≡ true
named [] i d within = absurd (omega (arith, within))
named (line ∷ lines) zero d within = rw (eq-eqb line.port line.port refl) refl
named (line ∷ lines) (suc i) d within = either _ _ (named lines i d (omega (arith, within)))

-- lines that fit ports, of which those that a line names have drivers
pub lines_are_driven : (n : Network) (stimuli : Stimuli) → n.stimulus_drivers ≡ stimulus_drivers stimuli.ports stimuli.lines → All (Fits stimuli) stimuli.lines
    → All (IsDriven n) stimuli.lines
lines_are_driven n stimuli drivers fit = λ i d within.
    let line = get_or stimuli.lines i d in
    let fits = fit i d within in
    let here = kept_is_driven (is_stimulated stimuli.lines) stimuli.ports 0 line.port (omega arith) (omega (arith, fits.there)) (named stimuli.lines i d within) in
    record { driver = subst (λ (ds : List DesignDriver). drives line.port ds ≡ true) (sym drivers) here; time = omega (arith, fits.in_time) }

-- the same in the network of a design
pub design_is_driven : (d : Design) (n : Network) (stimuli : Stimuli) (values : List (List Delay)) (lines : List StimLine) (watch : Watch) → n ≡ network d values lines watch → lines ≡ stimuli.lines
    → stimuli.ports ≡ d.ports → All (Fits stimuli) stimuli.lines → All (IsDriven n) lines
design_is_driven d n stimuli values lines watch made same ports fit =
    let drivers : n.stimulus_drivers ≡ stimulus_drivers stimuli.ports stimuli.lines =
    ap (λ (x : Network). x.stimulus_drivers) made ∙ ap (stimulus_drivers d.ports) same ∙ ap (λ (ps : List PortBit). stimulus_drivers ps stimuli.lines) (sym ports) in
    subst (λ (ls : List StimLine). All (IsDriven n) ls) (sym same) (lines_are_driven n stimuli drivers fit)

-- the same in the network of ports alone
pub ports_are_driven : (n : Network) (stimuli : Stimuli) (lines : List StimLine) → n ≡ port_network stimuli.ports → lines ≡ stimuli.lines → All (Fits stimuli) stimuli.lines → All (IsDriven n) lines
ports_are_driven n stimuli lines made same fit = subst (λ (ls : List StimLine). All (IsDriven n) ls) (sym same) (λ i d within.
    let line = get_or stimuli.lines i d in
    let fits = fit i d within in
    let kept = kept_is_driven (λ i. true) stimuli.ports 0 line.port (omega arith) (omega (arith, fits.there)) refl in
    let drivers : map stimulus_driver (filter (λ p. true) (enumerate_from 0 stimuli.ports)) ≡ n.stimulus_drivers =
    ap (map stimulus_driver) (all_kept (enumerate_from 0 stimuli.ports)) ∙ sym (ap (λ (x : Network). x.stimulus_drivers) made) in
    record { driver = subst (λ (ds : List DesignDriver). drives line.port ds ≡ true) drivers kept; time = omega (arith, fits.in_time) })
