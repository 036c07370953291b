-- The femtoseconds that numbers of an SDF file mean (IEEE 1497).
use Rattle.std.specs.Prelude.{ℕ, ◌*◌, ◌^◌, ◌==◌, Bool, List, filter, length, ℤ, pos, negsuc, neg_ℤ, ◌+ℤ◌, if◌then◌else◌}
use Rattle.std.specs.Char.{is_ascii_digit}
use Rattle.std.specs.Int.{int_div_euclid, int_max, int_min}
use Rattle.std.specs.List.{after_first}
use Rattle.std.specs.Str.Parse.{digits_value, starts_with_minus}

abbrev pub is_point : ℕ → Bool
is_point byte = byte == 46

-- The natural number that all digits of a number write together, those before its point and those behind it.
abbrev pub all_digits : List ℕ → ℕ
all_digits number = digits_value 10 (filter is_ascii_digit number)

-- How many digits stand behind the point. A number without a point has none there.
abbrev pub count_behind_point : List ℕ → ℕ
count_behind_point number = length (filter is_ascii_digit (after_first is_point number))

abbrev pub signed : Bool → ℕ → ℤ
signed is_negative n = if is_negative then neg_ℤ (pos n) else pos n

-- The whole number nearest to n / d, or to -n / d; half way between two of them the greater one: floor(v + 1/2) of the exact
-- value v, which is floor((2 n + d) / (2 d)) or floor((-2 n + d) / (2 d)).
abbrev pub nearest : Bool → ℕ → ℕ → ℤ
nearest is_negative n d = int_div_euclid (signed is_negative (2 * n) +ℤ pos d) (pos (2 * d))

-- Not below -2^60 and not above 2^60.
abbrev pub clipped : ℤ → ℤ
clipped z = int_max (negsuc 1_152_921_504_606_846_975) (int_min z (pos 1_152_921_504_606_846_976))

-- The femtoseconds of a number of units that are worth ten to this power femtoseconds. A number is `+`, `-` or no sign, and
-- then digits, digits with `.` and digits, or `.` and digits, however many. Other bytes count for nothing.
abbrev pub femtoseconds : List ℕ → ℕ → ℤ
femtoseconds number power =
    clipped (nearest (starts_with_minus number) (all_digits number * 10 ^ power) (10 ^ count_behind_point number))
