-- Delays whose times stay within a limit.
use Rattle.std.specs.Prelude.{ℕ, ◌≤◌}
use Rattle.vital_timing.specs.declared.delay.Delay.{Delay}
use Rattle.vital_timing.specs.declared.delay.Delay.TheVariants as delay

-- No time of a delay is above a limit.
abbrev pub IsWithin : ℕ → Delay → Type 0
IsWithin limit (delay.One time) = time ≤ limit
IsWithin limit (delay.Two tr01 tr10) = (tr01 ≤ limit) × (tr10 ≤ limit)
IsWithin limit (delay.Six tr01 tr10 tr0z trz1 tr1z trz0) =
    (tr01 ≤ limit) × (tr10 ≤ limit) × (tr0z ≤ limit) × (trz1 ≤ limit) × (tr1z ≤ limit) × (trz0 ≤ limit)
