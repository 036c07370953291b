use Rattle.std.proofs.Common.{◌≡◌, ℕ, ◌<◌, ◌^◌, List, length, map, get_or, sym, ap, subst, ◌∙◌, arith}
use Rattle.std.proofs.lemmas.List.{length-map}
use Rattle.vital_logic.specs.declared.level.Level.{Level}
use Rattle.vital_netlist.specs.declared.design_lists.DesignDriver.{DesignDriver}
use Rattle.vital_kernel.specs.Networks.{all_drivers}
use Rattle.vital_kernel.specs.declared.network.NetSignal.{NetSignal}
use Rattle.vital_signals.specs.SignalStates.{first_signals}
use Rattle.std.specs.Prelude.{IfOk}
use Rattle.vital_kernel.proofs.CycleLemmas.{on_ok_always}
use Rattle.vital_kernel.proofs.StimulusLemmas.{few_drivers_of, signals_there}
use Rattle.vital_kernel.proofs.first.first_signals.Goals as goal

pub signals_of-requires : goal.signals_of-requires
signals_of-requires c = few_drivers_of c.args.network.now c.signals-all.ensures.sound

pub new-requires-clause-few_signals : goal.new-requires-clause-few_signals
new-requires-clause-few_signals c =
    let n = c.args.network.now in
    let is : c.deref.result.now ≡ map (λ (s : NetSignal). s.initial) n.signals = c.deref.ensures.value ∙ c.in_ok-defaults.ensures ∙ ap (map (λ (s : NetSignal). s.initial)) c.signals-all.ensures.signals in
    omega (arith, ap length is, length-map n.signals (λ (s : NetSignal). s.initial), c.signals-all.ensures.sound.few_signals)

pub new-requires-clause-few_drivers : goal.new-requires-clause-few_drivers
new-requires-clause-few_drivers c =
    let n = c.args.network.now in
    let is : c.deref-2.result.now ≡ map (λ (d : DesignDriver). d.signal) (all_drivers n) = c.deref-2.ensures.value ∙ c.in_ok-signals_of.ensures in
    omega (arith, ap length is, length-map (all_drivers n) (λ (d : DesignDriver). d.signal), c.signals-all.ensures.sound.few_drivers)

pub new-requires-clause-there : goal.new-requires-clause-there
new-requires-clause-there c =
    λ k lt.
    let n = c.args.network.now in
    let defaults : c.deref.result.now ≡ map (λ (s : NetSignal). s.initial) n.signals = c.deref.ensures.value ∙ c.in_ok-defaults.ensures ∙ ap (map (λ (s : NetSignal). s.initial)) c.signals-all.ensures.signals in
    let is : c.deref-2.result.now ≡ map (λ (d : DesignDriver). d.signal) (all_drivers n) = c.deref-2.ensures.value ∙ c.in_ok-signals_of.ensures in
    let count : length c.deref.result.now ≡ length n.signals = ap length defaults ∙ length-map n.signals (λ (s : NetSignal). s.initial) in
    subst (λ (xs : List ℕ). get_or xs k 0 < length c.deref.result.now) (sym is)
    (subst (λ (most : ℕ). get_or (map (λ (d : DesignDriver). d.signal) (all_drivers n)) k 0 < most) (sym count)
    (signals_there (all_drivers n) (length n.signals) c.signals-all.ensures.sound.signals_there k (subst (λ (xs : List ℕ). k < length xs) is lt)))

pub new-requires-clause-one_each : goal.new-requires-clause-one_each
new-requires-clause-one_each c =
    let n = c.args.network.now in
    let is : c.deref-2.result.now ≡ map (λ (d : DesignDriver). d.signal) (all_drivers n) = c.deref-2.ensures.value ∙ c.in_ok-signals_of.ensures in
    ap length c.requires ∙ length-map (all_drivers n) (λ (d : DesignDriver). d.initial) ∙ sym (length-map (all_drivers n) (λ (d : DesignDriver). d.signal)) ∙ sym (ap length is)

pub returns-clause-first : goal.returns-clause-first
returns-clause-first c =
    let n = c.args.network.now in
    let defaults : c.deref.result.now ≡ map (λ (s : NetSignal). s.initial) n.signals = c.deref.ensures.value ∙ c.in_ok-defaults.ensures ∙ ap (map (λ (s : NetSignal). s.initial)) c.signals-all.ensures.signals in
    let is : c.deref-2.result.now ≡ map (λ (d : DesignDriver). d.signal) (all_drivers n) = c.deref-2.ensures.value ∙ c.in_ok-signals_of.ensures in
    subst (λ (xs : List Level). IfOk c.new.result (λ s. s ≡ first_signals xs (map (λ (d : DesignDriver). d.signal) (all_drivers n)) c.args.initial.now)) defaults
    (subst (λ (xs : List ℕ). IfOk c.new.result (λ s. s ≡ first_signals c.deref.result.now xs c.args.initial.now)) is c.new.ensures.first)

pub returns-clause-few : goal.returns-clause-few
returns-clause-few c =
    let few : length c.args.initial.now < 2 ^ 31 = omega (arith, ap length c.requires, length-map (all_drivers c.args.network.now) (λ (d : DesignDriver). d.initial), c.signals-all.ensures.sound.few_drivers) in
    on_ok_always c.new.result few
