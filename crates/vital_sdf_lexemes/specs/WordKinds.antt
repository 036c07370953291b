-- The kinds of words (IEEE 1497, keywords, numbers and identifiers of an SDF file).
use Rattle.std.specs.Prelude.{ℕ, if◌then◌else◌, List, [], ◌∷◌, map, Option, Some, None, unwrap_or}
use Rattle.std.specs.Char.{to_ascii_lowercase}
use Rattle.std.specs.Str.{bytes_eq}
use Rattle.vital_sdf_lexemes.specs.Keywords.{keywords}
use Rattle.vital_sdf_lexemes.specs.Numbers.{is_number}
use Rattle.vital_sdf_lexemes.specs.declared.kinds.Kind.{Kind}
use Rattle.vital_sdf_lexemes.specs.declared.kinds.Kind.TheVariants as kind

-- The kind that a table gives to the bytes.
abbrev pub kind_in : List (List ℕ × Kind) → List ℕ → Option Kind
kind_in [] bytes = None
kind_in (entry ∷ table) bytes = if bytes_eq entry.0 bytes then Some entry.1 else kind_in table bytes

-- The kind of the keyword that a word is, ignoring case, if it is one.
unfoldable pub keyword : List ℕ → Option Kind
keyword word = kind_in keywords (map to_ascii_lowercase word)

-- The kind of a word that is no keyword where it stands.
abbrev pub plain_kind : List ℕ → Kind
plain_kind word = if is_number word then kind.Number else kind.Word

-- The kind of a word, where `before` is the kind of the token before it: directly after a left parenthesis a keyword is that
-- keyword. Any other word is a number or a plain word.
abbrev pub word_kind : Option Kind → List ℕ → Kind
word_kind (Some kind.LeftParenthesis) word = unwrap_or (keyword word) (plain_kind word)
word_kind _ word = plain_kind word
