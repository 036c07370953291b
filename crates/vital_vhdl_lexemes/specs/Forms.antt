-- The forms of lexemes and separators, each a test of a whole list of bytes (IEEE 1076-1993, 13.2 to 13.8).
use Rattle.std.specs.Prelude.{ℕ, Bool, true, false, not, ◌&&◌, ◌||◌, ◌==◌, nat_lt, if◌then◌else◌, List, [], ◌∷◌, length, map, Option, Some, None, unwrap_or}
use Rattle.std.specs.List.{list_all}
use Rattle.std.specs.Str.{bytes_eq}
use Rattle.vital_vhdl_lexemes.specs.Bytes.{is_letter, is_digit, is_letter_or_digit, is_graphic, is_blank, lower_case}
use Rattle.vital_vhdl_lexemes.specs.Delimiters.{delimiters}
use Rattle.vital_vhdl_lexemes.specs.ReservedWords.{reserved_words}
use Rattle.vital_vhdl_lexemes.specs.declared.kinds.Kind.{Kind}
use Rattle.vital_vhdl_lexemes.specs.declared.kinds.Kind.TheVariants as kind

-- The list begins with a byte of the class.
abbrev pub begins : (ℕ → Bool) → List ℕ → Bool
begins class [] = false
begins class (b ∷ bytes) = class b

-- The list begins with a byte of the class, or with an underline and a byte of the class right after it.
abbrev pub continues : (ℕ → Bool) → List ℕ → Bool
continues class [] = false
continues class (b ∷ bytes) = class b || (b == 95 && begins class bytes)

-- Each byte is of the class, or is an underline with a byte of the class right after it.
abbrev pub are_underlined : (ℕ → Bool) → List ℕ → Bool
are_underlined class [] = true
are_underlined class (b ∷ bytes) = continues class (b ∷ bytes) && are_underlined class bytes

-- A basic identifier: a letter, then letters or digits, each after at most one underline (13.3.1).
abbrev pub is_basic_identifier : List ℕ → Bool
is_basic_identifier bytes = begins is_letter bytes && are_underlined is_letter_or_digit bytes

-- An integer: digits, each but the first after at most one underline (13.4.1).
abbrev pub is_integer : List ℕ → Bool
is_integer bytes = begins is_digit bytes && are_underlined is_digit bytes

-- The rest of a number: up to a point as in an integer, and after a point an integer.
abbrev pub ends_number : List ℕ → Bool
ends_number [] = true
ends_number (b ∷ bytes) =
    if b == 46 then is_integer bytes else continues is_digit (b ∷ bytes) && ends_number bytes

-- A number: an integer, and optionally a point and an integer (13.4.1).
abbrev pub is_number : List ℕ → Bool
is_number bytes = begins is_digit bytes && ends_number bytes

-- What stands behind an opening mark: graphic bytes, with the mark itself doubled among them, and the closing mark.
abbrev pub closes : ℕ → List ℕ → Bool
closes mark [] = false
closes mark (b ∷ []) = b == mark
closes mark (b ∷ c ∷ bytes) =
    if b == mark then c == mark && closes mark bytes else is_graphic b && closes mark (c ∷ bytes)

-- An extended identifier: `\`, one or more graphic bytes with a backslash doubled, `\` (13.3.2).
abbrev pub is_extended_identifier : List ℕ → Bool
is_extended_identifier [] = false
is_extended_identifier (b ∷ bytes) = b == 92 && (nat_lt 1 (length bytes) && closes 92 bytes)

-- A string literal: `"`, graphic bytes with a quotation mark doubled, `"` (13.6).
abbrev pub is_string_literal : List ℕ → Bool
is_string_literal [] = false
is_string_literal (b ∷ bytes) = b == 34 && closes 34 bytes

-- A tick: an apostrophe alone.
abbrev pub is_tick : List ℕ → Bool
is_tick bytes = bytes_eq bytes (39 ∷ [])

-- A character literal: `'`, one graphic byte, `'` (13.5).
abbrev pub is_character_literal : List ℕ → Bool
is_character_literal (a ∷ b ∷ c ∷ []) = a == 39 && is_graphic b && c == 39
is_character_literal _ = false

-- A separator: a blank byte, or a comment of `--` and any bytes without LF (13.2, 13.8).
abbrev pub is_separator : List ℕ → Bool
is_separator [] = false
is_separator (b ∷ []) = is_blank b
is_separator (a ∷ b ∷ bytes) = a == 45 && b == 45 && list_all (λ c. not (c == 10)) bytes

-- The kind that a table gives to the bytes.
abbrev pub kind_in : List (List ℕ × Kind) → List ℕ → Option Kind
kind_in [] bytes = None
kind_in (entry ∷ table) bytes = if bytes_eq entry.0 bytes then Some entry.1 else kind_in table bytes

-- The kind of a basic identifier: in lower case it is a reserved word, or it is none (13.3.1, 13.9).
unfoldable pub word_kind : List ℕ → Kind
word_kind bytes = unwrap_or (kind_in reserved_words (map lower_case bytes)) kind.Identifier

-- Whether an apostrophe after a token of this kind is a tick: after an identifier that is not reserved, an extended
-- identifier and a right parenthesis.
abbrev pub takes_tick : Option Kind → Bool
takes_tick (Some kind.Identifier) = true
takes_tick (Some kind.ExtendedIdentifier) = true
takes_tick (Some kind.RightParenthesis) = true
takes_tick _ = false

-- The kind of a lexeme that is all of these bytes, where `before` is the kind of the token before it. None: the bytes are
-- no lexeme there.
unfoldable pub lexeme_kind : Option Kind → List ℕ → Option Kind
lexeme_kind before bytes =
    if is_basic_identifier bytes then Some (word_kind bytes)
    else (if is_extended_identifier bytes then Some kind.ExtendedIdentifier
    else (if is_number bytes then Some kind.Number
    else (if is_string_literal bytes then Some kind.StringLiteral
    else (if is_tick bytes && takes_tick before then Some kind.Tick
    else (if is_character_literal bytes && not (takes_tick before) then Some kind.CharacterLiteral
    else kind_in delimiters bytes)))))
