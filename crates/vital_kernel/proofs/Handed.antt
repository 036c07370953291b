-- The lines of a time, which are handed before the cycle at it.
use Rattle.std.proofs.Common.{◌≡◌, ◌∙◌, ℕ, ◌+◌, ◌≤◌, Bool, List, Some, length, sym, ap, subst, arith}
use Rattle.std.proofs.lemmas.List.{length-append}
use Rattle.vital_agenda.specs.Agendas.{Content, IsAgenda}
use Rattle.vital_agenda.specs.Driver.{AllRise, Driver, next_time, sooner}
use Rattle.vital_kernel.specs.Activations.{state_of}
use Rattle.vital_kernel.specs.Cycles.{cycle_at}
use Rattle.vital_kernel.specs.Handing.{AreLeft, first_time, later_lines, with_lines}
use Rattle.vital_kernel.specs.Kernels.{AreParts, state_with}
use Rattle.vital_kernel.specs.States.{State}
use Rattle.vital_kernel.proofs.ProcessCells.{all_behind}
use Rattle.vital_kernel.proofs.CycleLemmas.{as_many_drivers}
use Rattle.vital_kernel.proofs.Handing.{left_later, left_more, next-with, rise-with}
use Rattle.vital_kernel.proofs.Least.{next_is_above}
use Rattle.vital_kernel.proofs.Lifting.{cycle_with, part_with}
use Rattle.vital_kernel.specs.Networks.{Network}
use Rattle.vital_kernel.specs.Soundness.{IsSoundNetwork}
use Rattle.vital_kernel.specs.Processes.{ProcessStates}
use Rattle.vital_kernel.specs.Triggered.{ListenerState}
use Rattle.vital_signals.specs.SignalStates.{SignalState}
use Rattle.vital_stim.specs.declared.stimuli.StimLine.{StimLine}

-- the drivers for the stimuli are among the drivers
among : (n : Network) (lines : List StimLine) (begun : Bool) (delta most : ℕ) (numbers : List ℕ) (left : List StimLine) (content : Content) (s : SignalState) (ps : ProcessStates) (ls : ListenerState)
    → AreParts n lines begun (state_of content delta s.signals ps.variables) numbers left most s ps ls → length n.stimulus_drivers ≤ length content.drivers
among n lines begun delta most numbers left content s ps ls inv =
    omega (arith, as_many_drivers n s content.drivers inv.signals_of inv.current, length-append n.stimulus_drivers n.cell_drivers)

-- ---- the next cycle, as contracts see it

-- lines can be handed to the drivers
pub can_hand : (n : Network) (lines : List StimLine) (begun : Bool) (delta most : ℕ) (numbers : List ℕ) (left : List StimLine) (content : Content) (s : SignalState) (ps : ProcessStates) (ls : ListenerState)
    → AreParts n lines begun (state_of content delta s.signals ps.variables) numbers left most s ps ls → AreLeft numbers (length content.drivers) content.now left
can_hand n lines begun delta most numbers left content s ps ls inv =
    left_more numbers (length n.stimulus_drivers) (length content.drivers) content.now left (among n lines begun delta most numbers left content s ps ls inv) inv.to_hand

pub next_seen : (n : Network) (lines : List StimLine) (begun : Bool) (delta most : ℕ) (numbers : List ℕ) (left : List StimLine) (content : Content) (s : SignalState) (ps : ProcessStates) (ls : ListenerState) (st : State)
    → AreParts n lines begun (state_of content delta s.signals ps.variables) numbers left most s ps ls → state_with numbers left (state_of content delta s.signals ps.variables) ≡ st
    → sooner (next_time content.drivers) (first_time left) ≡ next_time st.drivers
next_seen n lines begun delta most numbers left content s ps ls st inv view =
    sym (next-with numbers (length content.drivers) content.now left content.drivers (omega arith) (can_hand n lines begun delta most numbers left content s ps ls inv))
    ∙ ap (λ (x : State). next_time x.drivers) view

pub rise_seen : (n : Network) (lines : List StimLine) (begun : Bool) (delta most : ℕ) (numbers : List ℕ) (left : List StimLine) (content : Content) (s : SignalState) (ps : ProcessStates) (ls : ListenerState) (st : State)
    → AreParts n lines begun (state_of content delta s.signals ps.variables) numbers left most s ps ls → state_with numbers left (state_of content delta s.signals ps.variables) ≡ st
    → IsAgenda content → AllRise st.now st.drivers
rise_seen n lines begun delta most numbers left content s ps ls st inv view valid =
    subst (λ (x : State). AllRise x.now x.drivers) view (rise-with numbers (length n.stimulus_drivers) content.now left content.drivers inv.to_hand valid)

-- ---- a cycle after its lines are handed

pub record Handed (n : Network) (time delta before : ℕ) (numbers : List ℕ) (left later : List StimLine) (old new : Content) (s : SignalState) (ps : ProcessStates) : Type 0 where
  pub above : old.now ≤ time
  pub to_hand : AreLeft numbers (length n.stimulus_drivers) (time + 1) later
  pub cycle : cycle_at n time delta (state_with numbers left (state_of old before s.signals ps.variables)) ≡ part_with numbers later (cycle_at n time delta (state_of new before s.signals ps.variables))

pub handed : (n : Network) (lines : List StimLine) (begun : Bool) (time delta before most : ℕ) (numbers : List ℕ) (left later : List StimLine) (old new : Content) (s : SignalState) (ps : ProcessStates) (ls : ListenerState) (st : State)
    → AreParts n lines begun (state_of old before s.signals ps.variables) numbers left most s ps ls → state_with numbers left (state_of old before s.signals ps.variables) ≡ st
    → next_time st.drivers ≡ Some time → AllRise st.now st.drivers → IsSoundNetwork n
    → later ≡ later_lines time left → with_lines numbers later new.drivers ≡ with_lines numbers left old.drivers → new.now ≡ old.now → Handed n time delta before numbers left later old new s ps
handed n lines begun time delta before most numbers left later old new s ps ls st inv view next rising sound rest same now =
    let count = length n.stimulus_drivers in
    let ds = with_lines numbers left old.drivers in
    let next_is : next_time ds ≡ Some time = ap (λ (x : State). next_time x.drivers) view ∙ next in
    let rise : AllRise old.now ds = subst (λ (x : State). AllRise x.now x.drivers) (sym view) rising in
    let left_then : AreLeft numbers count (time + 1) later =
    subst (AreLeft numbers count (time + 1)) (sym rest) (left_later numbers count old.now time left old.drivers (among n lines begun before most numbers left old s ps ls inv) inv.to_hand next_is) in
    let at = λ (t : ℕ) (xs : List Driver). let it : State = record { now = t; delta = before; drivers = xs; signals = s.signals; variables = ps.variables } in it in
    record {
      above = next_is_above old.now time ds rise next_is;
      to_hand = left_then;
      cycle =
          ap (λ (xs : List Driver). cycle_at n time delta (at old.now xs)) (sym same)
          ∙ ap (λ (t : ℕ). cycle_at n time delta (at t (with_lines numbers later new.drivers))) (sym now)
          ∙ cycle_with n numbers count time delta later (state_of new before s.signals ps.variables) left_then (all_behind n sound);
    }
