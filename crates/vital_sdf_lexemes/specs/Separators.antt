-- Separators: blanks and comments (IEEE 1497, comments and white space). Each definition speaks of the text that is left.
use Rattle.std.specs.Prelude.{ℕ, Bool, false, ◌+◌, ◌&&◌, ◌||◌, ◌==◌, if◌then◌else◌, List, [], ◌∷◌, Option, Some, None, option_map}
use Rattle.vital_sdf_lexemes.specs.Bytes.{is_blank}

-- A comment begins here: `//` or `/*`.
abbrev pub begins_comment : List ℕ → Bool
begins_comment (a ∷ b ∷ bytes) = a == 47 && (b == 47 || b == 42)
begins_comment _ = false

-- How many bytes stand before the next LF, or before the end where none is left.
abbrev pub line_length : List ℕ → ℕ
line_length [] = 0
line_length (b ∷ bytes) = if b == 10 then 0 else 1 + line_length bytes

-- How many bytes there are up to and with the next `*/`, if there is one.
abbrev pub closed_length : List ℕ → Option ℕ
closed_length (a ∷ b ∷ bytes) =
    if a == 42 && b == 47 then Some 2 else option_map (λ n. 1 + n) (closed_length (b ∷ bytes))
closed_length _ = None

-- How many bytes a separator has that begins here: a blank, `//` with what is left of its line, or `/*` with what there is up to
-- and with the next `*/`.
abbrev pub separator_length : List ℕ → Option ℕ
separator_length [] = None
separator_length (a ∷ []) = if is_blank a then Some 1 else None
separator_length (a ∷ b ∷ bytes) =
    if is_blank a then Some 1
    else (if a == 47 && b == 47 then Some (2 + line_length bytes)
    else (if a == 47 && b == 42 then option_map (λ n. 2 + n) (closed_length bytes)
    else None))
