use Rattle.std.proofs.Common.{◌≡◌, ℕ, Global, List, [], Vec, length, map, get_or, refl, sym, ap, subst, ◌∙◌}
use Rattle.std.specs.List.{flat_map}
use Rattle.std.proofs.lemmas.List.{length-map}
use Rattle.vital_kernel.specs.Triggered.{ListenerState, triggered_by}
use Rattle.vital_kernel.proofs.TriggeredLemmas.{state-made, triggered-is}
use Rattle.vital_kernel.proofs.listeners.Listeners.trigger.Goals as goal
use Rattle.vital_signals.specs.Lists.{AreRising}

pub returns : goal.returns
returns c =
    let raw = c.self.inside.lists.items in
    let lists : List (List ℕ) = map (λ (list : Vec ℕ Global). list.items) raw in
    let sensitivities = c.self.inside.sensitivities.items in
    let events = c.args.events.now in
    let high : c.args.self.now.signals ≡ length lists =
    sym (ap (λ (s : ListenerState). s.signals) c.self.view_is) ∙ sym (length-map raw (λ (list : Vec ℕ Global). list.items)) in
    let rising : AreRising 0 (length lists) events = subst (λ (n : ℕ). AreRising 0 n events) high c.requires in
    let made = c.gather.ensures.listed ∙ ap (λ (ls : List (Vec ℕ Global)). flat_map (λ e. get_or (map (λ list. list.items) ls) e []) events) c.deref.ensures.value in
    let triggered = triggered-is sensitivities lists events c.gather.new.triggered.listed c.order.new.self.listed c.self.invariant.0 rising made c.order.ensures.rising c.order.ensures.same in
    state-made (length raw) (length raw) sensitivities sensitivities c.order.new.self.listed (triggered_by events sensitivities) refl refl triggered
    ∙ ap (λ (s : ListenerState). record s { triggered = triggered_by events s.sensitivities }) c.self.view_is
