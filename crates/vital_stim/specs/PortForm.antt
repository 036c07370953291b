-- How a stimulus names a port.
use Rattle.std.specs.Prelude.{ℕ, ◌-◌, Bool, false, true, not, ◌==◌, ◌&&◌, ◌||◌, List, [], ◌∷◌, length, take, drop, codes, if◌then◌else◌}
use Rattle.std.specs.Char.{is_ascii_digit}
use Rattle.std.specs.List.{list_all, list_any, before_first, after_first}
use Rattle.std.specs.Str.{bytes_eq}
use Rattle.vital_identifiers.specs.Identifiers.{is_basic_identifier}

-- Decimal digits, with no leading 0 unless it is the only digit.
abbrev pub is_plain_decimal : List ℕ → Bool
is_plain_decimal [] = false
is_plain_decimal (first ∷ others) = list_all is_ascii_digit (first ∷ others) && (not (first == 48) || length others == 0)

abbrev pub is_opening : ℕ → Bool
is_opening byte = byte == 40

-- What follows an opening parenthesis: a plain decimal, and the parenthesis that closes it.
abbrev pub is_index : List ℕ → Bool
is_index bytes = is_plain_decimal (take (length bytes - 1) bytes) && bytes_eq (drop (length bytes - 1) bytes) (codes ")")

-- A port is a basic identifier, alone or followed at once by an index in parentheses.
abbrev pub is_port : List ℕ → Bool
is_port bytes =
    is_basic_identifier (before_first is_opening bytes)
    && (if list_any is_opening bytes then is_index (after_first is_opening bytes) else true)
