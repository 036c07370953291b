-- The characters of a text, one byte each (IEEE 1076-1993, 13.1).
use Rattle.std.specs.Prelude.{ℕ, Bool, ◌&&◌, ◌||◌, ◌==◌, nat_le}
use Rattle.std.specs.Char.{is_ascii_alphabetic, is_ascii_digit, to_ascii_lowercase}

-- a letter: A to Z or a to z
abbrev pub is_letter : ℕ → Bool
is_letter b = is_ascii_alphabetic b

-- a digit: 0 to 9
abbrev pub is_digit : ℕ → Bool
is_digit b = is_ascii_digit b

-- a letter or a digit
abbrev pub is_letter_or_digit : ℕ → Bool
is_letter_or_digit b = is_letter b || is_digit b

-- a graphic character: 0x20 to 0x7E or 0xA0 to 0xFF
abbrev pub is_graphic : ℕ → Bool
is_graphic b = (nat_le 0x20 b && nat_le b 0x7E) || (nat_le 0xA0 b && nat_le b 0xFF)

-- a space, or one of the format effectors tab, LF, VT, FF and CR
abbrev pub is_blank : ℕ → Bool
is_blank b = b == 32 || (nat_le 9 b && nat_le b 13)

-- the lower case of a letter A to Z, and every other byte as it is
abbrev pub lower_case : ℕ → ℕ
lower_case b = to_ascii_lowercase b
