-- Basic identifiers (IEEE 1076-1993, 13.3.1).
use Rattle.std.specs.Prelude.{ℕ, Bool, false, ◌==◌, ◌&&◌, nat_lt, List, [], ◌∷◌, length}
use Rattle.std.specs.Char.{is_ascii_alphabetic, is_ascii_alphanumeric}
use Rattle.std.specs.List.{list_all, slice_split}
use Rattle.std.specs.Str.{str_to_ascii_lowercase}

abbrev pub is_underscore : ℕ → Bool
is_underscore byte = byte == 95

-- One letter or digit, or more.
abbrev pub is_run : List ℕ → Bool
is_run bytes = nat_lt 0 (length bytes) && list_all is_ascii_alphanumeric bytes

abbrev pub begins_with_letter : List ℕ → Bool
begins_with_letter [] = false
begins_with_letter (first ∷ others) = is_ascii_alphabetic first

-- A basic identifier: runs of letters and digits with one underscore between each two, the first byte a letter. A reserved
-- word is one here.
abbrev pub is_basic_identifier : List ℕ → Bool
is_basic_identifier bytes = begins_with_letter bytes && list_all is_run (slice_split is_underscore bytes)

-- A name in small letters: two spellings of a basic identifier that fold alike are one identifier.
abbrev pub folded : List ℕ → List ℕ
folded = str_to_ascii_lowercase
