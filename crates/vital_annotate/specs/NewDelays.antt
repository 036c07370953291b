-- What a value makes of a time, as it is kept.
use Rattle.std.specs.Prelude.{◌≡◌, ◌^◌, false, nat_lt, ℤ}
use Rattle.vital_annotate.specs.Delays.{at_least_zero, is_negative}
use Rattle.vital_annotate.specs.Delays as spec
use Rattle.vital_annotate.specs.declared.delays.NewDelay.{NewDelay}
use Rattle.vital_annotate.specs.declared.delays.NewTime.{NewTime}

-- It is of a result: whether that is negative and whether it is above 2^50 fs, and, where it is not, the time that it becomes.
pub record IsNewTime (z : ℤ) (s : NewTime) : Type 0 where
  pub negative : s.is_negative ≡ is_negative z
  pub large : s.is_large ≡ nat_lt (2 ^ 50) (at_least_zero z)
  pub time : s.is_large ≡ false → s.time ≡ at_least_zero z

-- It is of a new delay: whether a result is negative and whether one is above 2^50 fs, and, where none is, the delay.
pub record IsNewDelay (new : spec.Changed) (c : NewDelay) : Type 0 where
  pub negative : c.is_negative ≡ new.is_negative
  pub large : c.is_large ≡ new.is_large
  pub delay : c.is_large ≡ false → c.delay ≡ new.delay
