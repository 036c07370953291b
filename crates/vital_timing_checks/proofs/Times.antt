-- What isn't above now isn't above a later time.
use Rattle.std.specs.Prelude.{ℕ, ◌≤◌, Option, IfSome}
use Rattle.std.proofs.Common.{arith}
use Rattle.std.proofs.lemmas.Option.{IfSome_then}
use Rattle.vital_timing_checks.specs.declared.timing_data.TimingData.{TimingData}
use Rattle.vital_timing_checks.specs.TimingSteps.{NoneAbove}

pub time_later : (since : Option ℕ) (now later : ℕ) → IfSome since (λ time. time ≤ now) → now ≤ later → IfSome since (λ time. time ≤ later)
time_later since now later known le = IfSome_then since known (λ time at. omega (arith, at, le))

pub kept_later : (kept : TimingData) (now later : ℕ) → NoneAbove now kept → now ≤ later → NoneAbove later kept
kept_later kept now later known le =
    (time_later kept.test_time now later known.0 le, IfSome_then kept.edge known.1 (λ edge at. omega (arith, at, le)))
