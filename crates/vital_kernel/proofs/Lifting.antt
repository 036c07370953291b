-- Processes that run before lines are handed, or after that.
use Rattle.std.proofs.Common.{◌≡◌, ◌∙◌, ℕ, ◌+◌, ◌≤◌, List, [], ◌∷◌, map, refl, ap, arith}
use Rattle.std.specs.List.{enumerate_from, filter, fold}
use Rattle.vital_agenda.specs.Driver.{Driver, advance, currents, send}
use Rattle.vital_kernel.specs.Cycles.{Part, activated, all_activated, cycle_at, event_at, is_sensitive_to, new_values, sent, updated, values_at}
use Rattle.vital_kernel.specs.Handing.{AreLeft, with_lines}
use Rattle.vital_kernel.specs.Kernels.{state_with}
use Rattle.vital_kernel.specs.States.{State, values}
use Rattle.vital_kernel.proofs.ProcessCells.{Each, each_filter}
use Rattle.vital_kernel.proofs.Handing.{advance-with, changed-with, currents-with}
use Rattle.vital_logic.specs.declared.level.Level.{Level}
use Rattle.vital_machine.specs.declared.effect.Effect.{Effect}
use Rattle.vital_machine.specs.declared.effect.Effect.TheVariants as effect
use Rattle.vital_kernel.specs.Networks.{NetProcess, Network, all_drivers, processes}
use Rattle.vital_kernel.specs.Processes.{done_by}
use Rattle.vital_signals.specs.Events.{new_values as changed_values, with_values}
use Rattle.vital_signals.specs.Values.{driven, values_driving}
use Rattle.vital_stim.specs.declared.stimuli.StimLine.{StimLine}

abbrev pub part_with : List ℕ → List StimLine → Part → Part
part_with numbers left part = record { state = state_with numbers left part.state; happened = part.happened }

-- the drivers of a process come behind some
abbrev pub IsBehind : ℕ → NetProcess → Type 0
IsBehind count p = count ≤ p.cell.first_driver

-- ---- effects

effect_with : (numbers : List ℕ) (count low now first : ℕ) (left : List StimLine) (ds : List Driver) (e : Effect) → AreLeft numbers count low left → count ≤ first
    → sent now first (with_lines numbers left ds) e ≡ with_lines numbers left (sent now first ds e)
effect_with numbers count low now first left ds (effect.Assign driver s) h le =
    changed-with numbers count low (first + driver) (send now s.kind s.value s.delay) left ds h (omega (arith, le))
effect_with numbers count low now first left ds (effect.Glitch port) h le = refl
effect_with numbers count low now first left ds (effect.Violation test reference violated) h le = refl

effects_with : (numbers : List ℕ) (count low now first : ℕ) (left : List StimLine) (es : List Effect) (ds : List Driver) → AreLeft numbers count low left → count ≤ first
    → fold (sent now first) (with_lines numbers left ds) es ≡ with_lines numbers left (fold (sent now first) ds es)
effects_with numbers count low now first left [] ds h le = refl
effects_with numbers count low now first left (e ∷ es) ds h le =
    ap (λ (xs : List Driver). fold (sent now first) xs es) (effect_with numbers count low now first left ds e h le)
    ∙ effects_with numbers count low now first left es (sent now first ds e) h le

-- ---- processes

activated_with : (numbers : List ℕ) (count low : ℕ) (left : List StimLine) (part : Part) (p : NetProcess) → AreLeft numbers count low left → IsBehind count p
    → activated (part_with numbers left part) p ≡ part_with numbers left (activated part p)
activated_with numbers count low left part p h behind =
    let s = part.state in
    let next = activated part p in
    let es = (done_by s.now s.signals s.variables p).effects in
    ap (λ (ds : List Driver). let it : Part = record { state = record next.state { drivers = ds }; happened = next.happened } in it)
    (effects_with numbers count low s.now p.cell.first_driver left es s.drivers h behind)

pub all_with : (numbers : List ℕ) (count low : ℕ) (left : List StimLine) (ps : List NetProcess) (part : Part) → AreLeft numbers count low left → Each (IsBehind count) ps
    → all_activated ps (part_with numbers left part) ≡ part_with numbers left (all_activated ps part)
all_with numbers count low left [] part h behind = refl
all_with numbers count low left (p ∷ ps) part h behind =
    ap (all_activated ps) (activated_with numbers count low left part p h behind.0)
    ∙ all_with numbers count low left ps (activated part p) h behind.1

-- ---- a cycle

-- signals have the same values by drivers with the same values
values_by : (n : Network) (ds es : List Driver) → currents ds ≡ currents es → values n ds ≡ values n es
values_by n ds es same =
    ap (λ (levels : List Level). map (λ (x : ℕ × Level). driven x.1 (values_driving x.0 (map (λ d. d.signal) (all_drivers n)) levels)) (enumerate_from 0 (map (λ s. s.initial) n.signals))) same

values_with : (n : Network) (numbers : List ℕ) (count time : ℕ) (left : List StimLine) (s : State) → AreLeft numbers count (time + 1) left → values_at n time (state_with numbers left s) ≡ values_at n time s
values_with n numbers count time left s h =
    ap (values n) (advance-with numbers count time left s.drivers h)
    ∙ values_by n (with_lines numbers left (map (advance time) s.drivers)) (map (advance time) s.drivers) (currents-with numbers left (map (advance time) s.drivers))

updated_with : (n : Network) (numbers : List ℕ) (count time delta : ℕ) (left : List StimLine) (s : State) → AreLeft numbers count (time + 1) left
    → updated n time delta (state_with numbers left s) ≡ part_with numbers left (updated n time delta s)
updated_with n numbers count time delta left s h =
    let part = λ (ds : List Driver) (levels : List Level). let it : Part = record {
      state = record s { now = time; delta = delta; drivers = ds; signals = with_values time s.signals levels };
      happened = map (event_at time delta) (changed_values s.signals levels);
    } in it in
    ap (part (map (advance time) (with_lines numbers left s.drivers))) (values_with n numbers count time left s h)
    ∙ ap (λ (ds : List Driver). part ds (values_at n time s)) (advance-with numbers count time left s.drivers h)

-- a cycle that comes before all lines that are left
pub cycle_with : (n : Network) (numbers : List ℕ) (count time delta : ℕ) (left : List StimLine) (s : State) → AreLeft numbers count (time + 1) left → Each (IsBehind count) (processes n)
    → cycle_at n time delta (state_with numbers left s) ≡ part_with numbers left (cycle_at n time delta s)
cycle_with n numbers count time delta left s h behind =
    let ps = filter (is_sensitive_to (new_values n time s)) (processes n) in
    ap (λ (levels : List Level). all_activated (filter (is_sensitive_to (changed_values s.signals levels)) (processes n)) (updated n time delta (state_with numbers left s))) (values_with n numbers count time left s h)
    ∙ ap (all_activated ps) (updated_with n numbers count time delta left s h)
    ∙ all_with numbers count (time + 1) left ps (updated n time delta s) h (each_filter (IsBehind count) (is_sensitive_to (new_values n time s)) (processes n) behind)
