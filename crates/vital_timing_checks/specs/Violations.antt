-- When a test of a check finds a violation (IEEE 1076.4, package VITAL_Timing).
use Rattle.std.specs.Prelude.{ℕ, ◌-◌, nat_lt, Option, Some, None, if◌then◌else◌}
use Rattle.std.specs.Option.{option_and_then}
use Rattle.vital_timing_checks.specs.declared.violated.LimitTest.{LimitTest}
use Rattle.vital_timing_checks.specs.declared.violated.Violated.{Violated}

-- An observed time is a violation exactly where it is below the limit.
abbrev pub violated : LimitTest → ℕ → Option Violated
violated test observed =
    if nat_lt observed test.limit then Some (record { kind = test.kind; observed = observed; limit = test.limit }) else None

-- The observed time is that from an earlier time until now. A time that isn't known is never tested.
abbrev pub violated_since : LimitTest → Option ℕ → ℕ → Option Violated
violated_since test since now = option_and_then (λ time. violated test (now - time)) since
