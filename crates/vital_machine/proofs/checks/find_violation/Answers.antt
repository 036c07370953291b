use Rattle.std.proofs.Common.{ap, ◌∙◌, arith}
use Rattle.std.specs.Prelude.{Option}
use Rattle.vital_machine.specs.declared.slot.Slot.{Slot}
use Rattle.vital_machine.specs.Machine.{called, check_of}
use Rattle.vital_machine.specs.Seen.{Seen}
use Rattle.vital_machine.proofs.ChangeLemmas.{changed-at, given-at}
use Rattle.vital_machine.proofs.StepLemmas.{period-is, recovery-is}
use Rattle.vital_machine.proofs.TimeLemmas.{times-set}
use Rattle.vital_timing_checks.specs.declared.violated.Violated.{Violated}
use Rattle.vital_machine.proofs.checks.find_violation.Goals as goal

pub returns-in-SetupHold-clause-times : goal.returns-in-SetupHold-clause-times
returns-in-SetupHold-clause-times c later le =
    times-set c.args.call.now later c.args.slots.now c.args.number c.check_setup_hold.new.slot le c.requires (c.check_setup_hold.ensures.times later le)

pub returns-in-RecoveryRemoval-clause-slots : goal.returns-in-RecoveryRemoval-clause-slots
returns-in-RecoveryRemoval-clause-slots c =
    let s : Seen = record { inputs = c.args.inputs.now; slots = c.args.slots.now } in
    let call = called c.args.call in
    changed-at c.args.number (λ held. (check_of s call c.args.kind.now held).0) c.args.slots.now _ c.check_recovery.new.slot (omega arith)
    (c.check_recovery.ensures.slot
    ∙ ap (λ (p : Slot × Option Violated). p.0) (recovery-is s call c.args.kind.now c.in-RecoveryRemoval.reference c.in-RecoveryRemoval.step c.recovery_limits-limits.result c.bit-level-in-RecoveryRemoval.result _ c.in-RecoveryRemoval.is c.bit-level-in-RecoveryRemoval.ensures c.recovery_limits-limits.ensures))

pub returns-in-RecoveryRemoval-clause-found : goal.returns-in-RecoveryRemoval-clause-found
returns-in-RecoveryRemoval-clause-found c =
    let s : Seen = record { inputs = c.args.inputs.now; slots = c.args.slots.now } in
    let call = called c.args.call in
    given-at c.args.number (check_of s call c.args.kind.now) c.args.slots.now _ c.check_recovery.result (omega arith)
    (c.check_recovery.ensures.found
    ∙ ap (λ (p : Slot × Option Violated). p.1) (recovery-is s call c.args.kind.now c.in-RecoveryRemoval.reference c.in-RecoveryRemoval.step c.recovery_limits-limits.result c.bit-level-in-RecoveryRemoval.result _ c.in-RecoveryRemoval.is c.bit-level-in-RecoveryRemoval.ensures c.recovery_limits-limits.ensures))

pub returns-in-RecoveryRemoval-clause-times : goal.returns-in-RecoveryRemoval-clause-times
returns-in-RecoveryRemoval-clause-times c later le =
    times-set c.args.call.now later c.args.slots.now c.args.number c.check_recovery.new.slot le c.requires (c.check_recovery.ensures.times later le)

pub returns-in-PeriodPulse-clause-slots : goal.returns-in-PeriodPulse-clause-slots
returns-in-PeriodPulse-clause-slots c =
    let s : Seen = record { inputs = c.args.inputs.now; slots = c.args.slots.now } in
    changed-at c.args.number (λ held. (check_of s (called c.args.call) c.args.kind.now held).0) c.args.slots.now _ c.check_period.new.slot (omega arith)
    (c.check_period.ensures.slot ∙ ap (λ (p : Slot × Option Violated). p.0) (period-is s (called c.args.call) c.args.kind.now c.in-PeriodPulse.limits _ c.in-PeriodPulse.is))

pub returns-in-PeriodPulse-clause-found : goal.returns-in-PeriodPulse-clause-found
returns-in-PeriodPulse-clause-found c =
    let s : Seen = record { inputs = c.args.inputs.now; slots = c.args.slots.now } in
    given-at c.args.number (check_of s (called c.args.call) c.args.kind.now) c.args.slots.now _ c.check_period.result (omega arith)
    (c.check_period.ensures.found ∙ ap (λ (p : Slot × Option Violated). p.1) (period-is s (called c.args.call) c.args.kind.now c.in-PeriodPulse.limits _ c.in-PeriodPulse.is))

pub returns-in-PeriodPulse-clause-times : goal.returns-in-PeriodPulse-clause-times
returns-in-PeriodPulse-clause-times c later le =
    times-set c.args.call.now later c.args.slots.now c.args.number c.check_period.new.slot le c.requires (c.check_period.ensures.times later le)
