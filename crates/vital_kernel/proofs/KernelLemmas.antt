-- The parts of a simulation after a part of its run.
use Rattle.std.proofs.Common.{◌≡◌, ◌∙◌, ℕ, ◌-◌, ◌^◌, ◌<◌, ◌≤◌, Bool, false, true, List, length, map, refl, sym, ap, subst, arith}
use Rattle.std.specs.Prelude.{All}
use Rattle.std.proofs.lemmas.Bool.{false≢true}
use Rattle.vital_agenda.specs.Agendas.{Content}
use Rattle.vital_kernel.specs.Activations.{CanRun, KeepsValues, state_of}
use Rattle.vital_kernel.specs.Handing.{AreLeft}
use Rattle.vital_kernel.specs.Kernels.{AreParts}
use Rattle.vital_kernel.specs.States.{State}
use Rattle.vital_kernel.proofs.CycleLemmas.{as_many_drivers, as_many_signals}
use Rattle.vital_kernel.proofs.StimulusLemmas.{all_left}
use Rattle.vital_kernel.specs.Triggered.{ListenerState}
use Rattle.vital_kernel.specs.Networks.{Network, all_drivers}
use Rattle.vital_kernel.specs.Processes.{ProcessStates}
use Rattle.vital_signals.specs.SignalStates.{AreCurrent, SignalState}
use Rattle.vital_stim.specs.declared.stimuli.StimLine.{StimLine}

-- what is new of the parts
pub record AreNext (n : Network) (numbers : List ℕ) (left : List StimLine) (count : ℕ) (old new : Content) (s t : SignalState) (qs : ProcessStates) (ls ms : ListenerState) : Type 0 where
  pub defaults : t.defaults ≡ s.defaults
  pub signals_of : t.signals_of ≡ s.signals_of
  pub listened : ms.signals ≡ ls.signals
  pub sensitivities : ms.sensitivities ≡ ls.sensitivities
  pub network : qs.network ≡ n
  pub to_hand : AreLeft numbers (length n.stimulus_drivers) new.now left
  pub current : AreCurrent t new.drivers
  pub as_many : length new.drivers ≡ length old.drivers
  pub latest : qs.latest ≤ new.now
  pub delta : count < 2 ^ 64 - 1

pub next_parts : (n : Network) (lines had left : List StimLine) (begun : Bool) (before delta most room : ℕ) (numbers : List ℕ) (old new : Content) (s t : SignalState) (ps qs : ProcessStates) (ls ms : ListenerState)
    → AreParts n lines begun (state_of old before s.signals ps.variables) numbers had most s ps ls → begun ≡ true → room ≡ most → AreNext n numbers left delta old new s t qs ls ms
    → AreParts n lines begun (state_of new delta t.signals qs.variables) numbers left room t qs ms
next_parts n lines had left begun before delta most room numbers old new s t ps qs ls ms h is same next =
    record {
      defaults = next.defaults ∙ h.defaults;
      signals_of = next.signals_of ∙ h.signals_of;
      listened = next.listened ∙ h.listened;
      sensitivities = next.sensitivities ∙ h.sensitivities;
      network = next.network;
      stimulated = h.stimulated;
      driven = h.driven;
      in_order = h.in_order;
      to_hand = next.to_hand;
      current = next.current;
      room = omega (arith, next.as_many, h.room, same);
      latest = next.latest;
      delta = next.delta;
      first = λ e. absurd (false≢true (sym e ∙ is));
    }

-- assignments alone
pub kept_parts : (n : Network) (lines had left : List StimLine) (begun : Bool) (delta most : ℕ) (numbers : List ℕ) (old new : Content) (s : SignalState) (ps qs : ProcessStates) (ls : ListenerState)
    → AreParts n lines begun (state_of old delta s.signals ps.variables) numbers had most s ps ls → begun ≡ true → KeepsValues old new → qs.network ≡ n → qs.latest ≤ new.now → AreLeft numbers (length n.stimulus_drivers) old.now left
    → AreParts n lines begun (state_of new delta s.signals qs.variables) numbers left most s qs ls
kept_parts n lines had left begun delta most numbers old new s ps qs ls h is keeps network latest come =
    next_parts n lines had left begun delta delta most most numbers old new s s ps qs ls ls h is refl (record {
      defaults = refl;
      signals_of = refl;
      listened = refl;
      sensitivities = refl;
      network = network;
      to_hand = subst (λ (t : ℕ). AreLeft numbers (length n.stimulus_drivers) t left) (sym keeps.now) come;
      current = keeps.current s h.current;
      as_many = keeps.as_many;
      latest = latest;
      delta = h.delta;
    })

-- the initial run begins
pub begun_parts : (n : Network) (lines left : List StimLine) (begun : Bool) (delta most : ℕ) (numbers : List ℕ) (old : Content) (s : SignalState) (ps : ProcessStates) (ls : ListenerState)
    → AreParts n lines begun (state_of old delta s.signals ps.variables) numbers left most s ps ls → begun ≡ false → All (λ d. d.signal < length n.signals) (all_drivers n)
    → AreParts n lines true (state_of old delta s.signals ps.variables) numbers lines most s ps ls
begun_parts n lines left begun delta most numbers old s ps ls h is there =
    let zero : old.now ≡ 0 = ap (λ (x : State). x.now) (h.first is).0 in
    record {
      defaults = h.defaults;
      signals_of = h.signals_of;
      listened = h.listened;
      sensitivities = h.sensitivities;
      network = h.network;
      stimulated = h.stimulated;
      driven = h.driven;
      in_order = h.in_order;
      to_hand = subst (λ (t : ℕ). AreLeft numbers (length n.stimulus_drivers) t lines) (sym zero) (all_left n numbers lines h.stimulated there h.driven h.in_order);
      current = h.current;
      room = h.room;
      latest = h.latest;
      delta = h.delta;
      first = λ e. absurd (false≢true (sym e));
    }

-- processes can run
pub can_run : (n : Network) (content : Content) (s : SignalState) (ps : ProcessStates) → s.defaults ≡ map (λ x. x.initial) n.signals → s.signals_of ≡ map (λ x. x.signal) (all_drivers n)
    → AreCurrent s content.drivers → ps.network ≡ n → ps.latest ≤ content.now → content.now ≤ 2 ^ 60 → CanRun n content s ps
can_run n content s ps defaults signals_of current network latest now =
    record {
      network = network;
      later = latest;
      now = now;
      signals = as_many_signals n s content.drivers defaults current;
      drivers = as_many_drivers n s content.drivers signals_of current;
    }
