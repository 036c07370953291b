-- What is made of processes and wire delays is what a program is made of.
use Rattle.std.proofs.Common.{◌≡◌, ◌<◌, ◌+◌, ◌*◌, ◌^◌, ℕ, true, List, [], ◌∷◌, length, sym, subst, lit<, arith}
use Rattle.std.specs.Prelude.{All, ◌&&◌}
use Rattle.std.specs.List.{AllZip, enumerate_from, list_all}
use Rattle.std.proofs.lemmas.List.Elements.{All-cons, All-nil}
use Rattle.std.proofs.lemmas.List.FromFn.{length-enumerate_from}
use Rattle.vital_actuals.specs.declared.actual.Path.{Path}
use Rattle.vital_cell.specs.Compiled.{HasSteps, IsMadeProcess, IsMadeWire, IsSoundIn, with_variables}
use Rattle.vital_cell.specs.Short.{HasShort}
use Rattle.vital_cell.proofs.CellProcessLemmas.{begins}
use Rattle.vital_cell.proofs.ScopeLemmas.{as-long}
use Rattle.vital_cell.proofs.ShortLemmas.{delay-short, generic-within, short-within}
use Rattle.vital_cell.proofs.SoundLemmas.{first-holds, second-holds}
use Rattle.vital_machine.specs.declared.program.Process.{Process}
use Rattle.vital_machine.specs.declared.slot.Slot.{Slot}
use Rattle.vital_machine.specs.declared.steps.Executed.{Executed as Steps}
use Rattle.vital_machine.specs.declared.steps.Executed.TheVariants as steps
use Rattle.vital_machine.specs.declared.steps.PathDelayStep.{PathDelayStep}
use Rattle.vital_machine.specs.declared.steps.PathStep.{PathStep}
use Rattle.vital_machine.specs.Fits.{AreShort, HasShortDelays, HasTimes, HaveTimes, IsProcess, most_effects_of}
use Rattle.vital_path_delay.specs.Within.{IsWithin}
use Rattle.vital_sections.specs.declared.path_delay.PathDelay.{PathDelay}
use Rattle.vital_typed_cells.specs.SoundActuals.{is_sound_path}
use Rattle.vital_typed_cells.specs.SoundSections.{are_sound_sections, is_sound_functional}
use Rattle.vital_typed_cells.specs.SoundStatements.{is_sound_check, is_sound_path_delay}
use Rattle.vital_typed_cells.specs.Trees.{is_sound_boolean, is_sound_delay, is_sound_level}
use Rattle.vital_cell.specs.Laws.{SlotsBegin}
use Rattle.vital_cell.specs.Scopes.{Scope}
use Rattle.vital_cell.specs.Sound.{has_state_table, statement_tests, tests}
use Rattle.vital_cell.specs.Steps.{IsCheckStep, IsDelayStep, IsPathStep, delay_of}
use Rattle.vital_timing.specs.declared.delay.Delay.{Delay}
use Rattle.vital_timing.specs.declared.delay.DelayType.{DelayType}
use Rattle.vital_typed_cells.specs.declared.process.CellProcess.{CellProcess}
use Rattle.vital_typed_cells.specs.declared.wire.WireDelay.{WireDelay}

-- ---- delays are short

within-by : (d e : Delay) → d ≡ e → IsWithin (2 ^ 50) e → IsWithin (2 ^ 50) d
within-by d e is within = subst (IsWithin (2 ^ 50)) (sym is) within

paths-within : (k : Scope) (d : DelayType) (ps : List Path) (ss : List PathStep) → HasShort k → list_all (is_sound_path (tests k) d) ps ≡ true → AllZip (IsPathStep k) ps ss → All (λ s. IsWithin (2 ^ 50) s.delay) ss
paths-within k d [] [] short sound are = All-nil (λ (s : PathStep). IsWithin (2 ^ 50) s.delay)
paths-within k d [] (s ∷ ss) short sound are = absurd are
paths-within k d (p ∷ ps) [] short sound are = absurd are
paths-within k d (p ∷ ps) (s ∷ ss) short sound are =
    let here = is_sound_path (tests k) d p in
    let rest = list_all (is_sound_path (tests k) d) ps in
    let delay = is_sound_delay (tests k) d p.delay in
    let condition = is_sound_boolean (tests k) p.condition in
    let is : delay ≡ true = first-holds delay condition (second-holds ((tests k).has_signal p.signal) (delay && condition) (first-holds here rest sound)) in
    All-cons (λ (q : PathStep). IsWithin (2 ^ 50) q.delay) s ss (within-by s.delay (delay_of k p.delay) are.0.delay (short-within (delay_of k p.delay) (delay-short k (tests k) d p.delay short is)))
    (paths-within k d ps ss short (second-holds here rest sound) are.1)

-- What is asked of the paths and of the default of a path delay.
record HasSoundDelays (k : Scope) (d : PathDelay) : Type 0 where
  paths : list_all (is_sound_path (tests k) d.delay_type) d.paths ≡ true
  default_delay : is_sound_delay (tests k) d.delay_type d.default_delay ≡ true

delays-of : (k : Scope) (d : PathDelay) → is_sound_path_delay (statement_tests k) d ≡ true → HasSoundDelays k d
delays-of k d sound =
    let glitch = (statement_tests k).has_glitch_data d.glitch_data in
    let level = is_sound_level (tests k) d.out_temp in
    let paths = list_all (is_sound_path (tests k) d.delay_type) d.paths in
    let default = is_sound_delay (tests k) d.delay_type d.default_delay in
    let controls = is_sound_boolean (tests k) d.x_on && is_sound_boolean (tests k) d.msg_on in
    let behind : (paths && (default && controls)) ≡ true = second-holds level (paths && (default && controls)) (second-holds glitch (level && (paths && (default && controls))) sound) in
    record { paths = first-holds paths (default && controls) behind; default_delay = first-holds default controls (second-holds paths (default && controls) behind) }

delays-within : (k : Scope) (n : ℕ) (ds : List PathDelay) (ss : List PathDelayStep) → HasShort k → list_all (is_sound_path_delay (statement_tests k)) ds ≡ true → AllZip (IsDelayStep k) (enumerate_from n ds) ss → All AreShort ss
delays-within k n [] [] short sound are = All-nil AreShort
delays-within k n [] (s ∷ ss) short sound are = absurd are
delays-within k n (d ∷ ds) [] short sound are = absurd are
delays-within k n (d ∷ ds) (s ∷ ss) short sound are =
    let here = is_sound_path_delay (statement_tests k) d in
    let rest = list_all (is_sound_path_delay (statement_tests k)) ds in
    let has = delays-of k d (first-holds here rest sound) in
    All-cons AreShort s ss (
      paths-within k d.delay_type d.paths s.paths short has.paths are.0.paths,
      within-by s.default_delay (delay_of k d.default_delay) are.0.default_delay (short-within (delay_of k d.default_delay) (delay-short k (tests k) d.delay_type d.default_delay short has.default_delay)),
    )
    (delays-within k (n + 1) ds ss short (second-holds here rest sound) are.1)

steps-within : (k : Scope) (driver : ℕ) (p : CellProcess) (s : Steps) → HasShort k → are_sound_sections (has_state_table k) (statement_tests k) p.sections ≡ true → HasSteps k driver p s → HasShortDelays s
steps-within k driver p (steps.Wire w) short sound has = absurd has
steps-within k driver p (steps.Process s) short sound has =
    let checks = list_all (is_sound_check (statement_tests k)) p.sections.checks in
    let functional = list_all (is_sound_functional (has_state_table k) (tests k)) p.sections.functionality in
    let delays = list_all (is_sound_path_delay (statement_tests k)) p.sections.path_delays in
    delays-within k driver p.sections.path_delays s.path_delays short (second-holds functional delays (second-holds checks (functional && delays) sound)) has.path_delays

-- ---- effects are few

steps-few : (k : Scope) (driver : ℕ) (p : CellProcess) (s : Steps) → HasSteps k driver p s → length p.sections.checks + 3 * length p.sections.path_delays < 2 ^ 32 → most_effects_of s < 2 ^ 32
steps-few k driver p (steps.Wire w) has few = absurd has
steps-few k driver p (steps.Process s) has few =
    let checks : length p.sections.checks ≡ length s.checks = as-long (IsCheckStep k) p.sections.checks s.checks has.checks in
    let delays : length (enumerate_from driver p.sections.path_delays) ≡ length s.path_delays = as-long (IsDelayStep k) (enumerate_from driver p.sections.path_delays) s.path_delays has.path_delays in
    let same : length (enumerate_from driver p.sections.path_delays) ≡ length p.sections.path_delays = length-enumerate_from driver p.sections.path_delays in
    omega arith

-- ---- the whole

pub process-is : SlotsBegin → (v : Scope) (driver : ℕ) (p : CellProcess) (made : Process) → IsSoundIn v p → length p.sections.checks + 3 * length p.sections.path_delays < 2 ^ 32
    → IsMadeProcess v (with_variables v p.variables) driver p made → IsProcess made
process-is law v driver p made sound few is =
    let k = with_variables v p.variables in
    let short : HasShort k = record { generics = sound.short.generics; constants = sound.short.constants; packages = sound.short.packages } in
    record {
      delays = steps-within k driver p made.steps short sound.statements is.steps;
      effects = steps-few k driver p made.steps is.steps few;
      first = (begins law v driver p made sound is).times;
    }

pub wire-is : (k : Scope) (driver : ℕ) (w : WireDelay) (made : Process) → HasShort k → IsMadeWire k driver w made → IsProcess made
wire-is k driver w made short is =
    let P : Steps → Type 0 = λ s. HasShortDelays s in
    let Q : Steps → Type 0 = λ s. most_effects_of s < 2 ^ 32 in
    let R : List Slot → Type 0 = λ slots. HaveTimes 0 slots in
    record {
      delays = subst P (sym is.steps) (short-within _ (generic-within k w.generic short));
      effects = subst Q (sym is.steps) (lit< tt);
      first = subst R (sym is.first) (All-nil (HasTimes 0));
    }
