-- The drivers and bits of what is made of a sound cell are ones of the cell.
use Rattle.std.proofs.Common.{◌≡◌, ◌≤◌, ◌<◌, ◌+◌, ℕ, true, List, [], ◌∷◌, length, sym, ap, subst, arith}
use Rattle.std.specs.Prelude.{All, ◌&&◌, ◌||◌, IfSome}
use Rattle.std.specs.List.{AllZip, enumerate_from, list_all}
use Rattle.std.proofs.lemmas.List.Elements.{All-cons, All-nil}
use Rattle.vital_cell.specs.Compiled.{HasSteps, IsMadeWire}
use Rattle.vital_cell.proofs.BitLemmas.{bit-below, bit-there, output-there}
use Rattle.vital_cell.proofs.SoundLemmas.{first-holds, second-holds}
use Rattle.vital_machine.specs.declared.program.Process.{Process}
use Rattle.vital_machine.specs.declared.steps.CheckKindStep.{CheckKindStep}
use Rattle.vital_machine.specs.declared.steps.CheckKindStep.TheVariants as kind
use Rattle.vital_machine.specs.declared.steps.CheckStep.{CheckStep}
use Rattle.vital_machine.specs.declared.steps.Executed.{Executed as Steps}
use Rattle.vital_machine.specs.declared.steps.Executed.TheVariants as steps
use Rattle.vital_machine.specs.declared.steps.PathDelayStep.{PathDelayStep}
use Rattle.vital_machine.specs.declared.steps.ReferenceStep.{ReferenceStep}
use Rattle.vital_machine.specs.Fits.{CheckIsOfCell, DelayIsOfCell, StepsAreOfCell}
use Rattle.vital_machine.specs.Machine.{reference_of as reference_bit}
use Rattle.vital_sections.specs.declared.path_delay.PathDelay.{PathDelay}
use Rattle.vital_sections.specs.declared.timing_check.ReferenceParts.{ReferenceParts}
use Rattle.vital_sections.specs.declared.timing_check.TimingCheck.{TimingCheck}
use Rattle.vital_sections.specs.declared.timing_check.TimingCheck.TheVariants as check
use Rattle.vital_typed_cells.specs.Named.{is_input_port, is_internal, is_output_port}
use Rattle.vital_typed_cells.specs.Scopes.{actuals_in, in_process, state_tables_in}
use Rattle.vital_typed_cells.specs.Sound.{IsSoundProcess, bit_count}
use Rattle.vital_typed_cells.specs.SoundSections.{is_sound_functional}
use Rattle.vital_typed_cells.specs.SoundStatements.{are_sound_parts, is_sound_check, is_sound_path_delay, is_sound_reference}
use Rattle.vital_cell.specs.Scopes.{bit_of}
use Rattle.vital_cell.specs.Steps.{IsCheckStep, IsDelayStep, IsKind, parts_of, reference_of}
use Rattle.vital_cell.specs.Values.{scope_of_cell, scope_of_process}
use Rattle.vital_timing.specs.declared.delay.Delay.{Delay}
use Rattle.vital_typed_cells.specs.declared.process.CellProcess.{CellProcess}
use Rattle.vital_typed_cells.specs.declared.typed_cell.TypedCell.{TypedCell}
use Rattle.vital_typed_cells.specs.declared.wire.WireDelay.{WireDelay}

module _ (c : TypedCell) (values : List Delay) (p : CellProcess) where
  -- ---- timing checks

  parts-sound : (x : TimingCheck) → is_sound_check (actuals_in c p) x ≡ true → are_sound_parts (actuals_in c p) (parts_of x) ≡ true
  parts-sound (check.SetupHold x) sound = first-holds (are_sound_parts (actuals_in c p) x.parts) _ sound
  parts-sound (check.RecoveryRemoval x) sound = first-holds (are_sound_parts (actuals_in c p) x.parts) _ sound
  parts-sound (check.PeriodPulse x) sound = first-holds (are_sound_parts (actuals_in c p) x.parts) _ sound

  signal-below : (name : List ℕ) (n : ℕ) → n ≡ bit_of (scope_of_process c values p) name → (is_input_port c.ports name || is_internal c.signals name) ≡ true → n < bit_count c
  signal-below name n is there =
      let P : ℕ → Type 0 = λ m. m < bit_count c in
      subst P (sym is) (bit-below c name (bit-there c.ports c.signals name there))

  test-below : (x : TimingCheck) (n : ℕ) → n ≡ bit_of (scope_of_process c values p) (parts_of x).test_signal → is_sound_check (actuals_in c p) x ≡ true → n < bit_count c
  test-below x n is sound =
      signal-below (parts_of x).test_signal n is
      (first-holds ((actuals_in c p).names.has_signal (parts_of x).test_signal) _ (second-holds ((actuals_in c p).has_violation (parts_of x).violation) _ (parts-sound x sound)))

  reference-below : (r : ReferenceParts) (s : ReferenceStep) → s ≡ reference_of (scope_of_process c values p) r → is_sound_reference (actuals_in c p) r ≡ true → s.signal < bit_count c
  reference-below r s is sound =
      signal-below r.ref_signal s.signal (ap (λ q. q.signal) is)
      (first-holds ((actuals_in c p).names.has_signal r.ref_signal) _ (second-holds ((actuals_in c p).has_timing_data r.timing_data) _ sound))

  kind-below : (x : TimingCheck) (q : CheckKindStep) → IsKind (scope_of_process c values p) x q → is_sound_check (actuals_in c p) x ≡ true → IfSome (reference_bit q) (λ bit. bit < bit_count c)
  kind-below (check.SetupHold x) (kind.SetupHold r limits) is sound =
      reference-below x.reference r is.0 (first-holds (is_sound_reference (actuals_in c p) x.reference) _ (second-holds (are_sound_parts (actuals_in c p) x.parts) _ sound))
  kind-below (check.RecoveryRemoval x) (kind.RecoveryRemoval r limits) is sound =
      reference-below x.reference r is.0 (first-holds (is_sound_reference (actuals_in c p) x.reference) _ (second-holds (are_sound_parts (actuals_in c p) x.parts) _ sound))
  kind-below (check.PeriodPulse x) (kind.PeriodPulse limits) is sound = tt
  kind-below (check.SetupHold x) (kind.RecoveryRemoval r limits) is sound = absurd is
  kind-below (check.SetupHold x) (kind.PeriodPulse limits) is sound = absurd is
  kind-below (check.RecoveryRemoval x) (kind.SetupHold r limits) is sound = absurd is
  kind-below (check.RecoveryRemoval x) (kind.PeriodPulse limits) is sound = absurd is
  kind-below (check.PeriodPulse x) (kind.SetupHold r limits) is sound = absurd is
  kind-below (check.PeriodPulse x) (kind.RecoveryRemoval r limits) is sound = absurd is

  checks-of-cell : (xs : List TimingCheck) (ss : List CheckStep) → list_all (is_sound_check (actuals_in c p)) xs ≡ true → AllZip (IsCheckStep (scope_of_process c values p)) xs ss → All (CheckIsOfCell (bit_count c)) ss
  checks-of-cell [] [] sound are = All-nil (CheckIsOfCell (bit_count c))
  checks-of-cell [] (s ∷ ss) sound are = absurd are
  checks-of-cell (x ∷ xs) [] sound are = absurd are
  checks-of-cell (x ∷ xs) (s ∷ ss) sound are =
      let here = first-holds (is_sound_check (actuals_in c p) x) (list_all (is_sound_check (actuals_in c p)) xs) sound in
      All-cons (CheckIsOfCell (bit_count c)) s ss (test-below x s.test are.0.parts.test here, kind-below x s.kind are.0.kind here)
      (checks-of-cell xs ss (second-holds (is_sound_check (actuals_in c p) x) (list_all (is_sound_check (actuals_in c p)) xs) sound) are.1)

  -- ---- path delays

  output-below : (d : PathDelay) (n : ℕ) → n ≡ bit_of (scope_of_process c values p) d.out_signal → is_sound_path_delay (actuals_in c p) d ≡ true → n < bit_count c
  output-below d n is sound =
      let P : ℕ → Type 0 = λ m. m < bit_count c in
      subst P (sym is) (bit-below c d.out_signal (output-there c.ports c.signals d.out_signal (first-holds (is_output_port c.ports d.out_signal) _ sound)))

  delays-of-cell : (total n : ℕ) (ds : List PathDelay) (ss : List PathDelayStep) → list_all (is_sound_path_delay (actuals_in c p)) ds ≡ true → AllZip (IsDelayStep (scope_of_process c values p)) (enumerate_from n ds) ss
      → n + length ds ≤ total → All (DelayIsOfCell total (bit_count c)) ss
  delays-of-cell total n [] [] sound are few = All-nil (DelayIsOfCell total (bit_count c))
  delays-of-cell total n [] (s ∷ ss) sound are few = absurd are
  delays-of-cell total n (d ∷ ds) [] sound are few = absurd are
  delays-of-cell total n (d ∷ ds) (s ∷ ss) sound are few =
      let rest = list_all (is_sound_path_delay (actuals_in c p)) ds in
      let is : s.driver ≡ n = are.0.driver in
      let below : s.driver < total = omega arith in
      All-cons (DelayIsOfCell total (bit_count c)) s ss (below, output-below d s.out_signal are.0.out_signal (first-holds (is_sound_path_delay (actuals_in c p) d) rest sound))
      (delays-of-cell total (n + 1) ds ss (second-holds (is_sound_path_delay (actuals_in c p) d) rest sound) are.1 (omega arith))

  -- ---- the statements of the process

  pub process-of-cell : (total driver : ℕ) (s : Steps) → IsSoundProcess c p → HasSteps (scope_of_process c values p) driver p s → driver + length p.sections.path_delays ≤ total → StepsAreOfCell total (bit_count c) s
  process-of-cell total driver (steps.Wire w) sound has few = absurd has
  process-of-cell total driver (steps.Process s) sound has few =
      let checks = list_all (is_sound_check (actuals_in c p)) p.sections.checks in
      let functional = list_all (is_sound_functional (state_tables_in (in_process c p)) (actuals_in c p).names) p.sections.functionality in
      let delays = list_all (is_sound_path_delay (actuals_in c p)) p.sections.path_delays in (
        checks-of-cell p.sections.checks s.checks (first-holds checks (functional && delays) sound.statements_typed) has.checks,
        delays-of-cell total driver p.sections.path_delays s.path_delays (second-holds functional delays (second-holds checks (functional && delays) sound.statements_typed)) has.path_delays few,
      )

-- ---- a wire delay

pub wire-of-cell : (c : TypedCell) (values : List Delay) (total driver : ℕ) (w : WireDelay) (made : Process) → IsMadeWire (scope_of_cell c values) driver w made → driver < total → StepsAreOfCell total (bit_count c) made.steps
wire-of-cell c values total driver w made is below = let P : Steps → Type 0 = λ s. StepsAreOfCell total (bit_count c) s in subst P (sym is.steps) below
