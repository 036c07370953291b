-- What the processes of a cycle keep: the present time and delta number, and that no transaction is pending before the present.
use Rattle.std.proofs.Common.{◌≡◌, ℕ, ◌+◌, List, [], ◌∷◌, map, filter, refl, sym, subst, arith}
use Rattle.std.specs.List.{fold}
use Rattle.vital_agenda.specs.Agendas.{idle_driver}
use Rattle.vital_agenda.specs.Driver.{AllRise, Driver, advance}
use Rattle.vital_base.specs.declared.kind.Kind.TheVariants.{Transport}
use Rattle.vital_machine.specs.declared.effect.Effect.{Effect}
use Rattle.vital_machine.specs.declared.effect.Effect.TheVariants as effect
use Rattle.vital_netlist.specs.declared.design_lists.DesignDriver.{DesignDriver}
use Rattle.vital_stim.specs.declared.stimuli.StimLine.{StimLine}
use Rattle.vital_kernel.specs.Cycles.{Part, activated, after_stimuli, all_activated, cycle_at, driver_of_port, first_drivers, initial_run, is_sensitive_to, new_values, sent, stimulated, updated}
use Rattle.vital_kernel.specs.Networks.{NetProcess, Network, all_drivers, processes}
use Rattle.vital_kernel.specs.States.{State}
use Rattle.vital_kernel.specs.Processes.{done_by}
use Rattle.vital_kernel.proofs.Least.{all_rise_after, all_rise_lower}
use Rattle.vital_kernel.proofs.Sends.{sent_rise}

effect_rises : (now first : ℕ) (ds : List Driver) (e : Effect) → AllRise now ds → AllRise now (sent now first ds e)
effect_rises now first ds (effect.Assign driver s) h = sent_rise (first + driver) now s.delay s.kind s.value ds h
effect_rises now first ds (effect.Glitch port) h = h
effect_rises now first ds (effect.Violation test reference violated) h = h

effects_rise : (now first : ℕ) (es : List Effect) (ds : List Driver) → AllRise now ds → AllRise now (fold (sent now first) ds es)
effects_rise now first [] ds h = h
effects_rise now first (e ∷ es) ds h = effects_rise now first es (sent now first ds e) (effect_rises now first ds e h)

pub record Keeps (now delta : ℕ) (part : Part) : Type 0 where
  pub now_is : part.state.now ≡ now
  pub delta_is : part.state.delta ≡ delta
  pub rise : AllRise now part.state.drivers

-- the effects of a process that runs
abbrev done : Part → NetProcess → List Effect
done part p = (done_by part.state.now part.state.signals part.state.variables p).effects

activated_keeps : (now delta : ℕ) (part : Part) (p : NetProcess) → Keeps now delta part → Keeps now delta (activated part p)
activated_keeps now delta part p h =
    let s = part.state in
    let rise : AllRise s.now s.drivers = subst (λ (t : ℕ). AllRise t s.drivers) (sym h.now_is) h.rise in
    let sent_all : AllRise s.now (activated part p).state.drivers = effects_rise s.now p.cell.first_driver (done part p) s.drivers rise in
    record {
      now_is = h.now_is;
      delta_is = h.delta_is;
      rise = subst (λ (t : ℕ). AllRise t (activated part p).state.drivers) h.now_is sent_all;
    }

all_keep : (now delta : ℕ) (ps : List NetProcess) (part : Part) → Keeps now delta part → Keeps now delta (all_activated ps part)
all_keep now delta [] part h = h
all_keep now delta (p ∷ ps) part h = all_keep now delta ps (activated part p) (activated_keeps now delta part p h)

-- ---- a cycle

pub cycle_keeps : (n : Network) (time delta : ℕ) (s : State) → AllRise time s.drivers → Keeps time delta (cycle_at n time delta s)
cycle_keeps n time delta s h =
    all_keep time delta (filter (is_sensitive_to (new_values n time s)) (processes n)) (updated n time delta s) (record {
      now_is = refl;
      delta_is = refl;
      rise = all_rise_lower time (time + 1) (map (advance time) s.drivers) (omega arith) (all_rise_after time s.drivers h);
    })

-- ---- the initial run

idle_rise : (ds : List DesignDriver) → AllRise 0 (map (λ d. idle_driver d.initial) ds)
idle_rise [] = tt
idle_rise (d ∷ ds) = (tt, idle_rise ds)

stimulated_rise : (n : Network) (lines : List StimLine) (ds : List Driver) → AllRise 0 ds → AllRise 0 (fold (stimulated n) ds lines)
stimulated_rise n [] ds h = h
stimulated_rise n (line ∷ lines) ds h =
    stimulated_rise n lines (stimulated n ds line) (sent_rise (driver_of_port n line.port) 0 line.time Transport line.value ds h)

pub initial_keeps : (n : Network) (lines : List StimLine) → Keeps 0 0 (initial_run n lines)
initial_keeps n lines =
    all_keep 0 0 (processes n) (after_stimuli n lines) (record {
      now_is = refl;
      delta_is = refl;
      rise = stimulated_rise n lines (first_drivers n) (idle_rise (all_drivers n));
    })
