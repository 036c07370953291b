-- Times of at most 2^50 femtoseconds.
use Rattle.std.specs.Prelude.{ℕ, ◌^◌, Bool, ◌&&◌, nat_le}
use Rattle.vital_timing.specs.declared.delay.Delay.{Delay}
use Rattle.vital_timing.specs.declared.delay.Delay.TheVariants as delay

abbrev pub is_short : ℕ → Bool
is_short t = nat_le t (2 ^ 50)

abbrev pub are_short : Delay → Bool
are_short (delay.One t) = is_short t
are_short (delay.Two tr01 tr10) = is_short tr01 && is_short tr10
are_short (delay.Six tr01 tr10 tr0z trz1 tr1z trz0) =
    is_short tr01 && is_short tr10 && is_short tr0z && is_short trz1 && is_short tr1z && is_short trz0
