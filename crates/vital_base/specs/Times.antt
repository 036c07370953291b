-- Times, as whole numbers of femtoseconds.
use Rattle.std.specs.Prelude.{ℕ, ◌*◌, ◌&&◌, Bool, List, length, Option, Some, None, nat_le, codes, if◌then◌else◌}
use Rattle.std.specs.Char.{is_ascii_digit}
use Rattle.std.specs.List.{list_all}
use Rattle.std.specs.Str.{bytes_eq}
use Rattle.std.specs.Str.Parse.{digits_value}
use Rattle.vital_base.specs.declared.time.TimeUnit.{TimeUnit}
use Rattle.vital_base.specs.declared.time.TimeUnit.TheVariants.{Femtosecond, Picosecond, Nanosecond, Microsecond, Millisecond}

-- How many femtoseconds a unit is worth (IEEE 1076-1993, 3.1.3.1).
abbrev pub femtoseconds : TimeUnit → ℕ
femtoseconds Femtosecond = 1
femtoseconds Picosecond = 1_000
femtoseconds Nanosecond = 1_000_000
femtoseconds Microsecond = 1_000_000_000
femtoseconds Millisecond = 1_000_000_000_000

-- The unit that these letters name, small letters alone.
abbrev pub unit_named : List ℕ → Option TimeUnit
unit_named letters =
    if bytes_eq letters (codes "fs") then Some Femtosecond
    else if bytes_eq letters (codes "ps") then Some Picosecond
    else if bytes_eq letters (codes "ns") then Some Nanosecond
    else if bytes_eq letters (codes "us") then Some Microsecond
    else if bytes_eq letters (codes "ms") then Some Millisecond
    else None

-- Are these 1 to 19 decimal digits?
abbrev pub is_number : List ℕ → Bool
is_number digits = nat_le 1 (length digits) && nat_le (length digits) 19 && list_all is_ascii_digit digits

-- The number that 1 to 19 decimal digits spell; nothing where these aren't such digits. Leading zeros count as digits.
abbrev pub number_of : List ℕ → Option ℕ
number_of digits = if is_number digits then Some (digits_value 10 digits) else None

-- So many of a unit, in femtoseconds; nothing where that is above 2^60 fs.
abbrev pub time_of : ℕ → TimeUnit → Option ℕ
time_of number unit =
    if nat_le (number * femtoseconds unit) 1_152_921_504_606_846_976 then Some (number * femtoseconds unit) else None
