use Rattle.std.proofs.Common.{ℕ, ◌≤◌}
use Rattle.vital_timing_checks.specs.PeriodPulses.{NoneAbove}
use Rattle.vital_value_rows.proofs.checks.period_pulse.Given as goal

abbrev pub invariant-loop-call : goal.invariant-loop-call
invariant-loop-call l = (now : ℕ) → l.last ≤ now → NoneAbove now l.check
