-- What identifiers are named (IEEE 1076-1993, 13.3).
use Rattle.std.specs.Prelude.{◌≡◌, ℕ, ◌==◌, true, if◌then◌else◌, List, map, Option, Some, None, ◌⊎◌}
use Rattle.vital_vhdl_lexemes.specs.Bytes.{lower_case}
use Rattle.vital_vhdl_lexemes.specs.Forms.{is_basic_identifier, is_extended_identifier, kind_in}
use Rattle.vital_vhdl_lexemes.specs.Kinds.{number}
use Rattle.vital_vhdl_lexemes.specs.ReservedWords.{reserved_words}
use Rattle.vital_vhdl_lexemes.specs.declared.kinds.Kind.TheVariants as kind

-- a basic identifier without capitals that is no reserved word (13.3.1, 13.9)
pub record IsBasicName (name : List ℕ) : Type 0 where
  pub basic : is_basic_identifier name ≡ true
  pub folded : map lower_case name ≡ name
  pub not_reserved : kind_in reserved_words name ≡ None

-- such an identifier, or an extended one (13.3.2)
abbrev pub IsIdentifierName : List ℕ → Type 0
IsIdentifierName name = IsBasicName name ⊎ (is_extended_identifier name ≡ true)

-- What a token of this kind with these bytes is named, if it is an identifier: in a basic identifier capitals count for nothing,
-- and an extended one is named as it stands.
unfoldable pub name_of : ℕ → List ℕ → Option (List ℕ)
name_of k bytes =
    if k == number kind.Identifier then Some (map lower_case bytes)
    else (if k == number kind.ExtendedIdentifier then Some bytes else None)

-- what a token of this kind with these bytes is named, if it is an identifier, is well formed
abbrev pub IsNamedWell : ℕ → List ℕ → Type 0
IsNamedWell k bytes = (name : List ℕ) → name_of k bytes ≡ Some name → IsIdentifierName name
