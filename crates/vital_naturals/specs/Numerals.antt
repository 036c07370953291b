-- Decimal numerals of natural numbers of any size (IEEE 1076-1993, 13.4.1).
use Rattle.std.specs.Prelude.{ℕ, zero, suc, ◌+◌, List, [], ◌∷◌, filter, map}
use Rattle.std.specs.Char.{is_ascii_digit}
use Rattle.std.specs.Int.Digits.{digits_of}
use Rattle.std.specs.Str.Parse.{digits_value}

-- The number that an integer literal writes, however long it is. Underscores count for nothing.
abbrev pub number : List ℕ → ℕ
number literal = digits_value 10 (filter is_ascii_digit literal)

-- The decimal numeral of a number, as ASCII: its digits with no zero before them, and for zero that alone.
abbrev pub numeral : ℕ → List ℕ
numeral zero = 48 ∷ []
numeral (suc n) = map (λ d. 48 + d) (digits_of 10 (suc n))
