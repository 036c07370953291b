-- Time literals: a number and a unit of type TIME (IEEE 1076-1993, 3.1.3.1 and 13.4.1).
use Rattle.std.specs.Prelude.{ℕ, ◌*◌, ◌/◌, ◌+◌, ◌^◌, ◌==◌, List, [], length, filter, drop, take, position, Option, Some, None, nat_le, codes, Bool, if◌then◌else◌, ◌-◌, ◌∷◌}
use Rattle.std.specs.Char.{is_ascii_digit}
use Rattle.std.specs.Option.{option_map_or}
use Rattle.std.specs.Str.{bytes_eq}
use Rattle.std.specs.Str.Parse.{digits_value}
use Rattle.vital_timing.specs.declared.time_literal.UnitOfTime.{UnitOfTime}
use Rattle.vital_timing.specs.declared.time_literal.UnitOfTime.TheVariants.{Femtosecond, Picosecond, Nanosecond, Microsecond, Millisecond, Second, Minute, Hour}

-- How many femtoseconds a unit is worth (IEEE 1076-1993, 14.2).
abbrev pub femtoseconds : UnitOfTime → ℕ
femtoseconds Femtosecond = 1
femtoseconds Picosecond = 1_000
femtoseconds Nanosecond = 1_000_000
femtoseconds Microsecond = 1_000_000_000
femtoseconds Millisecond = 1_000_000_000_000
femtoseconds Second = 1_000_000_000_000_000
femtoseconds Minute = 60_000_000_000_000_000
femtoseconds Hour = 3_600_000_000_000_000_000

-- The unit of a name as identifiers keep it, in small letters.
abbrev pub unit_named : List ℕ → Option UnitOfTime
unit_named name =
    if bytes_eq name (codes "fs") then Some Femtosecond
    else if bytes_eq name (codes "ps") then Some Picosecond
    else if bytes_eq name (codes "ns") then Some Nanosecond
    else if bytes_eq name (codes "us") then Some Microsecond
    else if bytes_eq name (codes "ms") then Some Millisecond
    else if bytes_eq name (codes "sec") then Some Second
    else if bytes_eq name (codes "min") then Some Minute
    else if bytes_eq name (codes "hr") then Some Hour
    else None

-- The digits of a number. Underscores and the point count for nothing.
abbrev pub digits_of : List ℕ → List ℕ
digits_of number = filter is_ascii_digit number

-- What stands behind the first point of a number: nothing where it has none.
abbrev pub is_point : ℕ → Bool
is_point b = b == 46

abbrev pub behind_point : List ℕ → List ℕ
behind_point number = option_map_or (λ at. drop (at + 1) number) (position is_point number) []

-- What a number of a unit is worth in femtoseconds, truncated to a whole number of them: all digits as one number, times the worth
-- of the unit, divided by ten for each digit behind the point.
abbrev pub literal_femtoseconds : List ℕ → UnitOfTime → ℕ
literal_femtoseconds number unit = (digits_value 10 (digits_of number) * femtoseconds unit) / 10 ^ length (digits_of (behind_point number))

-- The same, if it is at most 2^50 fs.
abbrev pub literal_time : List ℕ → UnitOfTime → Option ℕ
literal_time number unit =
    if nat_le (literal_femtoseconds number unit) 1_125_899_906_842_624 then Some (literal_femtoseconds number unit) else None

-- ---- how it is worked out

-- What stands before the first point: all of a number that has none.
abbrev pub before_point : List ℕ → List ℕ
before_point number = option_map_or (λ at. take at number) (position is_point number) number

-- What digits behind a point are worth, where one is worth so much and so much is carried from behind them.
abbrev pub carried : ℕ → List ℕ → ℕ → ℕ
carried worth [] carry = carry
carried worth (b ∷ bs) carry = if is_ascii_digit b then ((b - 48) * worth + carried worth bs carry) / 10 else carried worth bs carry
