-- The parts of a stimulus file: its lines, and the fields of a line.
use Rattle.std.specs.Prelude.{ℕ, Bool, ◌==◌, ◌||◌, nat_lt, true, List, [], ◌∷◌, length, filter, drop, if◌then◌else◌}
use Rattle.std.specs.List.{slice_split, before_first, position_or_len}

-- LF ends a line.
abbrev pub is_line_end : ℕ → Bool
is_line_end byte = byte == 10

-- Space, tab and CR part the fields.
unfoldable pub is_blank : ℕ → Bool
is_blank byte = byte == 32 || byte == 9 || byte == 13

-- The lines of a text. What follows its last LF is a line too, and may be empty.
abbrev pub lines_of : List ℕ → List (List ℕ)
lines_of text = slice_split is_line_end text

-- The fields of a line: what stands between its blanks and is not empty.
abbrev pub fields_of : List ℕ → List (List ℕ)
fields_of line = filter (λ piece. nat_lt 0 (length piece)) (slice_split is_blank line)

-- What stands before the first blank.
abbrev pub field_of : List ℕ → List ℕ
field_of line = before_first is_blank line

-- The first blank and what follows it.
abbrev pub after_field : List ℕ → List ℕ
after_field line = drop (position_or_len is_blank line) line

-- A line without the blanks that it begins with.
abbrev pub after_blanks : List ℕ → List ℕ
after_blanks [] = []
after_blanks (byte ∷ others) = if is_blank byte then after_blanks others else byte ∷ others

abbrev pub is_empty_or_begins_with : ℕ → List ℕ → Bool
is_empty_or_begins_with byte [] = true
is_empty_or_begins_with byte (first ∷ others) = first == byte

-- A line is passed over where its first byte other than blank is #, and where it has none.
abbrev pub is_passed_over : List ℕ → Bool
is_passed_over line = is_empty_or_begins_with 35 (after_blanks line)
