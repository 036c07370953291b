-- Lexemes (IEEE 1497, the characters and operators of an SDF file). Each definition speaks of the text that is left.
use Rattle.std.specs.Prelude.{ℕ, ◌+◌, ◌==◌, if◌then◌else◌, List, [], ◌∷◌, take, Option, Some, None, option_map}
use Rattle.vital_sdf_lexemes.specs.WordKinds.{word_kind}
use Rattle.vital_sdf_lexemes.specs.Words.{word_length}
use Rattle.vital_sdf_lexemes.specs.declared.kinds.Kind.{Kind}
use Rattle.vital_sdf_lexemes.specs.declared.kinds.Kind.TheVariants as kind

-- How many bytes there are up to and with the next `"`, if one stands before the next LF.
abbrev pub quoted_length : List ℕ → Option ℕ
quoted_length [] = None
quoted_length (b ∷ bytes) =
    if b == 34 then Some 1
    else (if b == 10 then None
    else option_map (λ n. 1 + n) (quoted_length bytes))

-- The word of so many bytes, where it has any: its kind and how many they are.
abbrev pub word_of : Option Kind → List ℕ → ℕ → Option (Kind × ℕ)
word_of before bytes count = if count == 0 then None else Some (word_kind before (take count bytes), count)

-- The lexeme that begins here: its kind, and how many bytes it has. It is a parenthesis, a colon, a string or a word, and `before`
-- is the kind of the token before it, if there is one.
abbrev pub lexeme : Option Kind → List ℕ → Option (Kind × ℕ)
lexeme before [] = None
lexeme before (b ∷ bytes) =
    if b == 40 then Some (kind.LeftParenthesis, 1)
    else (if b == 41 then Some (kind.RightParenthesis, 1)
    else (if b == 58 then Some (kind.Colon, 1)
    else (if b == 34 then option_map (λ n. (kind.Text, 1 + n)) (quoted_length bytes)
    else word_of before (b ∷ bytes) (word_length (b ∷ bytes)))))
