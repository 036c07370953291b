-- Words (IEEE 1497, identifiers, numbers and keywords of an SDF file).
use Rattle.std.specs.Prelude.{ℕ, Bool, true, ◌+◌, not, ◌||◌, ◌==◌, if◌then◌else◌, List, [], ◌∷◌}
use Rattle.vital_sdf_lexemes.specs.Bytes.{is_word_byte}
use Rattle.vital_sdf_lexemes.specs.Separators.{begins_comment}

-- A word goes no further here: the text ends, the byte is none that a word may have as it stands, or a comment begins.
abbrev pub ends_word : List ℕ → Bool
ends_word [] = true
ends_word (b ∷ bytes) = not (is_word_byte b) || begins_comment (b ∷ bytes)

-- How many bytes the word has that begins here, 0 where none does. A backslash takes the next byte with it, whatever that is, and
-- at the end of the text it is a byte of the word by itself.
abbrev pub word_length : List ℕ → ℕ
word_length [] = 0
word_length (a ∷ []) = if ends_word (a ∷ []) then 0 else 1
word_length (a ∷ b ∷ bytes) =
    if a == 92 then 2 + word_length bytes
    else (if ends_word (a ∷ b ∷ bytes) then 0
    else 1 + word_length (b ∷ bytes))
