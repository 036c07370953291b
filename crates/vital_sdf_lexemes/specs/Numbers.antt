-- The form of a number (IEEE 1497, the numbers of an SDF file).
use Rattle.std.specs.Prelude.{ℕ, Bool, true, false, ◌&&◌, ◌||◌, ◌==◌, if◌then◌else◌, List, [], ◌∷◌}
use Rattle.std.specs.Char.{is_ascii_digit}
use Rattle.std.specs.List.{list_all}

-- One digit or more.
abbrev pub are_digits : List ℕ → Bool
are_digits [] = false
are_digits (b ∷ bytes) = is_ascii_digit b && list_all is_ascii_digit bytes

-- Digits, if any, and behind them either nothing, or a point and one digit or more.
abbrev pub ends_number : List ℕ → Bool
ends_number [] = true
ends_number (b ∷ bytes) = if b == 46 then are_digits bytes else is_ascii_digit b && ends_number bytes

-- A number without a sign: digits with optionally a point and digits, or a point and digits.
abbrev pub is_unsigned : List ℕ → Bool
is_unsigned [] = false
is_unsigned (b ∷ bytes) = ends_number (b ∷ bytes)

-- A number: optionally `+` or `-`, then one without a sign.
abbrev pub is_number : List ℕ → Bool
is_number [] = false
is_number (b ∷ bytes) = if b == 43 || b == 45 then is_unsigned bytes else is_unsigned (b ∷ bytes)
