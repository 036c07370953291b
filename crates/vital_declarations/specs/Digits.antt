-- The digits of literals, read from the left.
use Rattle.std.specs.Prelude.{ℕ, zero, suc, ◌-◌, List, [], ◌∷◌, filter, min, nat_le, Option, Some, None, if◌then◌else◌}
use Rattle.std.specs.Char.{digit_value, is_ascii_digit}
use Rattle.vital_declarations.specs.declared.number.Digits.{Digits as Digits'}

-- The digits of a literal, without underscores.
abbrev pub digits_of : List ℕ → List ℕ
digits_of literal = filter is_ascii_digit literal

-- Digits behind so many zeros.
abbrev pub behind_zeros : ℕ → List ℕ → List ℕ
behind_zeros zero digits = digits
behind_zeros (suc n) digits = 48 ∷ behind_zeros n digits

-- The digits that are still to come.
abbrev pub shown : Digits' → List ℕ
shown d = behind_zeros d.zeros (digits_of d.literal.now)

-- The value of the first digit, and the others.
abbrev pub split_digit : List ℕ → Option (ℕ × List ℕ)
split_digit [] = None
split_digit (c ∷ cs) = Some (digit_value c, cs)

-- How much greater a number is than another one that it is not less than; at most so much.
abbrev pub gap_to : ℕ → ℕ → ℕ → Option ℕ
gap_to most upper lower = if nat_le lower upper then Some (min most (upper - lower)) else None
