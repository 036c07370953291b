-- Delays and their types (IEEE 1076.4, package VITAL_Timing).
use Rattle.std.specs.Prelude.{ℕ}
use Rattle.vital_timing.specs.declared.delay.Delay.{Delay}
use Rattle.vital_timing.specs.declared.delay.Delay.TheVariants as delay
use Rattle.vital_timing.specs.declared.delay.DelayType.{DelayType}
use Rattle.vital_timing.specs.declared.delay.DelayType.TheVariants.{One, Two, Six}

-- How many times a delay of a type has.
abbrev pub time_count : DelayType → ℕ
time_count One = 1
time_count Two = 2
time_count Six = 6

-- The type of a delay.
abbrev pub type_of : Delay → DelayType
type_of (delay.One time) = One
type_of (delay.Two tr01 tr10) = Two
type_of (delay.Six tr01 tr10 tr0z trz1 tr1z trz0) = Six
