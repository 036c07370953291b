-- What is found of the parts of a call is what the call does.
use Rattle.std.proofs.Common.{◌≡◌, ℕ, List, map, take, ap, sym, ◌∙◌}
use Rattle.std.specs.Prelude.{Option}
use Rattle.std.specs.List.{enumerate_from}
use Rattle.vital_machine.specs.declared.slot.Slot.{Slot}
use Rattle.vital_machine.specs.declared.steps.CheckKindStep.{CheckKindStep}
use Rattle.vital_machine.specs.declared.steps.CheckKindStep.TheVariants as kind
use Rattle.vital_machine.specs.declared.steps.RecoveryStep.{RecoveryStep}
use Rattle.vital_machine.specs.declared.steps.ReferenceStep.{ReferenceStep}
use Rattle.vital_machine.specs.declared.steps.StateTableStep.{StateTableStep}
use Rattle.vital_machine.specs.Machine.{Call, changed, check_of, held_by, period, put, recovery, recovery_limits, state_table}
use Rattle.vital_machine.specs.Seen.{Seen, bit}
use Rattle.vital_machine.specs.Slots.{levels_at, with_levels}
use Rattle.vital_machine.specs.Trees.{vector}
use Rattle.vital_machine.specs.TruthTables.{fitted}
use Rattle.vital_logic.specs.declared.level.Level.{Level}
use Rattle.vital_table.specs.Matches.{first_row}
use Rattle.vital_table.specs.Results.{result_at}
use Rattle.vital_timing_checks.specs.declared.limits.PulseLimits.{PulseLimits}
use Rattle.vital_timing_checks.specs.declared.limits.RecoveryLimits.{RecoveryLimits}

-- ---- state tables

-- The variables after a call, by the inputs, the inputs before and the results before.
abbrev looked_up : StateTableStep → List Slot → List Level → List Level → List Level → List Slot
looked_up call slots new old before =
    changed call.previous_data_in (with_levels new)
    (put call.result (map (λ r. result_at call.table (first_row call.table old new (take call.table.states before)) r.0 r.1) (enumerate_from 0 before)) slots)

pub state_table-done : (s : Seen) (call : StateTableStep) (new old before results : List Level) (row : Option ℕ) (mid after : List Slot) → new ≡ fitted call.table.inputs (vector s call.data_in) → old ≡ fitted call.table.inputs (levels_at s.slots call.previous_data_in) → before ≡ fitted call.table.results (held_by call.result s.slots) → row ≡ first_row call.table old new (take call.table.states before) → results ≡ map (λ r. result_at call.table row r.0 r.1) (enumerate_from 0 before) → mid ≡ put call.result results s.slots → after ≡ changed call.previous_data_in (with_levels new) mid → after ≡ state_table s call
state_table-done s call new old before results row mid after new-is old-is before-is row-is results-are mid-is after-is =
    after-is
    ∙ ap (changed call.previous_data_in (with_levels new)) mid-is
    ∙ ap (λ ls. changed call.previous_data_in (with_levels new) (put call.result ls s.slots)) (results-are ∙ ap (λ o. map (λ r. result_at call.table o r.0 r.1) (enumerate_from 0 before)) row-is)
    ∙ ap (λ ls. looked_up call s.slots ls old before) new-is
    ∙ ap (λ ls. looked_up call s.slots (fitted call.table.inputs (vector s call.data_in)) ls before) old-is
    ∙ ap (λ ls. looked_up call s.slots (fitted call.table.inputs (vector s call.data_in)) (fitted call.table.inputs (levels_at s.slots call.previous_data_in)) ls) before-is

-- ---- timing checks

pub recovery-is : (s : Seen) (c : Call) (k : CheckKindStep) (r : ReferenceStep) (step : RecoveryStep) (limits : RecoveryLimits) (l : Level) (held : Slot) → k ≡ kind.RecoveryRemoval r step → l ≡ bit s r.signal → limits ≡ recovery_limits s step → recovery c l r limits held ≡ check_of s c k held
recovery-is s c k r step limits l held is by limits-are =
    ap (λ x. recovery c x r limits held) by ∙ ap (λ x. recovery c (bit s r.signal) r x held) limits-are ∙ ap (λ x. check_of s c x held) (sym is)

pub period-is : (s : Seen) (c : Call) (k : CheckKindStep) (limits : PulseLimits) (held : Slot) → k ≡ kind.PeriodPulse limits → period c limits held ≡ check_of s c k held
period-is s c k limits held is = ap (λ x. check_of s c x held) (sym is)
