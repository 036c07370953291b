-- Numbers while they are read.
use Rattle.std.specs.Prelude.{◌≡◌, ℕ, ◌+◌, ◌-◌, ◌*◌, ◌/◌, ◌%◌, ◌^◌, ◌&&◌, Bool, true, false, not, List, min, nat_lt, ℤ, if◌then◌else◌}
use Rattle.std.specs.List.{list_any}
use Rattle.vital_sdf_words.specs.Decimals.{all_digits, clipped, count_behind_point, is_point, nearest}
use Rattle.vital_sdf_words.specs.declared.reading.Reading.{Reading as Reading'}

-- Not above ten times 2^60.
abbrev pub capped : ℕ → ℕ
capped n = min 11_529_215_046_068_469_760 n

-- How many digits at the end of these bytes don't count: those behind the point past this power and one more place.
abbrev pub uncounted : ℕ → List ℕ → ℕ
uncounted power bytes = count_behind_point bytes - (power + 1)

-- These bytes of a number are read.
pub record Reads (power : ℕ) (bytes : List ℕ) (reading : Reading') : Type 0 where
  pub tenths : reading.tenths ≡ capped (all_digits bytes / 10 ^ uncounted power bytes)
  pub places : reading.places ≡ (power + 1) - count_behind_point bytes
  pub behind : reading.is_behind_point ≡ list_any is_point bytes
  pub more : reading.has_more ≡ nat_lt 0 (all_digits bytes % 10 ^ uncounted power bytes)

-- So many tenths are n / d without what stands behind them, and it is known whether anything does.
pub record IsCut (n d tenths : ℕ) (has_more : Bool) : Type 0 where
  pub tenths_are : tenths ≡ capped (n * 10 / d)
  pub more : has_more ≡ nat_lt 0 (n * 10 % d)

-- How many tenths are added before the last of them is cut off.
abbrev pub half : Bool → Bool → ℕ
half is_negative has_more = if is_negative && not has_more then 4 else 5

-- The whole number that is nearest to n / d, or the one whose negative is nearest to -n / d.
abbrev pub magnitude : Bool → ℕ → ℕ → ℕ
magnitude true n d = (2 * n + d - 1) / (2 * d)
magnitude false n d = (2 * n + d) / (2 * d)

-- The femtoseconds of a number of units that are worth ten to this power femtoseconds, or of its negative.
abbrev pub rounded : Bool → List ℕ → ℕ → ℤ
rounded is_negative number power =
    clipped (nearest is_negative (all_digits number * 10 ^ power) (10 ^ count_behind_point number))
