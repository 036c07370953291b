-- What each token of a text is named, if it is an identifier, is well formed.
use Rattle.std.proofs.Common.{◌≡◌, ℕ, Bool, true, not, ◌&&◌, ◌||◌, eqb, cond, List, [], ◌∷◌, map, Option, Some, None, refl, ap, sym, subst, ◌∙◌, inl, inr, arith}
use Rattle.std.specs.Prelude.{nat_le, slice_range, slice_index_or, All, unwrap_or}
use Rattle.std.specs.List.{list_all}
use Rattle.std.specs.Str.{bytes_eq}
use Rattle.std.proofs.lemmas.Bool.{and_parts, cond_both, leb-true, ne_eqb}
use Rattle.vital_vhdl_lexemes.specs.Bytes.{is_letter, is_letter_or_digit, lower_case}
use Rattle.vital_vhdl_lexemes.specs.Delimiters.{delimiters}
use Rattle.vital_vhdl_lexemes.specs.Forms.{begins, continues, are_underlined, is_basic_identifier, is_extended_identifier, is_number, is_string_literal, is_tick, is_character_literal, takes_tick, kind_in, word_kind, lexeme_kind}
use Rattle.vital_vhdl_lexemes.specs.Kinds.{number}
use Rattle.vital_lex.specs.Pieces.{Lexes}
use Rattle.vital_vhdl_lexemes.specs.Vhdl.{vhdl}
use Rattle.vital_vhdl_lexemes.proofs.TokenLexemes.{token_lexemes}
use Rattle.vital_vhdl_lexemes.specs.ReservedWords.{reserved_words}
use Rattle.vital_vhdl_lexemes.specs.declared.kinds.Kind.{Kind}
use Rattle.vital_vhdl_lexemes.specs.declared.kinds.Kind.TheVariants as kind
use Rattle.vital_lex.specs.declared.token_list.Token.{Token}
use Rattle.vital_nodes.specs.IdentifierNames.{IsBasicName, IsIdentifierName, IsNamedWell, name_of}
use Rattle.vital_shapes.specs.Reading.{no_token}
use Rattle.vital_vhdl.specs.Cursors.{HasName, HaveNames}

-- ---- lower case

lower_case-twice : (b : ℕ) → lower_case (lower_case b) ≡ lower_case b
lower_case-twice b = grind arith

map-twice : (bytes : List ℕ) → map lower_case (map lower_case bytes) ≡ map lower_case bytes
map-twice [] = refl
map-twice (b ∷ bytes) = ap (λ (x : ℕ). x ∷ map lower_case (map lower_case bytes)) (lower_case-twice b) ∙ ap (λ (xs : List ℕ). lower_case b ∷ xs) (map-twice bytes)

is_letter-lower : (b : ℕ) → is_letter (lower_case b) ≡ is_letter b
is_letter-lower b = grind arith

is_letter_or_digit-lower : (b : ℕ) → is_letter_or_digit (lower_case b) ≡ is_letter_or_digit b
is_letter_or_digit-lower b = grind arith

underline-lower : (b : ℕ) → eqb (lower_case b) 95 ≡ eqb b 95
underline-lower b = grind arith

-- Of a class that does not part small letters from capitals, bytes begin with one where they do in lower case.
module _ (class : ℕ → Bool) (same : (b : ℕ) → class (lower_case b) ≡ class b) where
  begins-lower : (bytes : List ℕ) → begins class (map lower_case bytes) ≡ begins class bytes
  begins-lower [] = refl
  begins-lower (b ∷ bytes) = same b

  continues-lower : (bytes : List ℕ) → continues class (map lower_case bytes) ≡ continues class bytes
  continues-lower [] = refl
  continues-lower (b ∷ bytes) =
      ap (λ (x : Bool). x || (eqb (lower_case b) 95 && begins class (map lower_case bytes))) (same b)
      ∙ ap (λ (x : Bool). class b || (x && begins class (map lower_case bytes))) (underline-lower b)
      ∙ ap (λ (x : Bool). class b || (eqb b 95 && x)) (begins-lower bytes)

  are_underlined-lower : (bytes : List ℕ) → are_underlined class (map lower_case bytes) ≡ are_underlined class bytes
  are_underlined-lower [] = refl
  are_underlined-lower (b ∷ bytes) =
      ap (λ (x : Bool). x && are_underlined class (map lower_case bytes)) (continues-lower (b ∷ bytes))
      ∙ ap (λ (x : Bool). continues class (b ∷ bytes) && x) (are_underlined-lower bytes)

is_basic_identifier-lower : (bytes : List ℕ) → is_basic_identifier (map lower_case bytes) ≡ is_basic_identifier bytes
is_basic_identifier-lower bytes =
    ap (λ (x : Bool). x && are_underlined is_letter_or_digit (map lower_case bytes)) (begins-lower is_letter is_letter-lower bytes)
    ∙ ap (λ (x : Bool). begins is_letter bytes && x) (are_underlined-lower is_letter_or_digit is_letter_or_digit-lower bytes)

-- ---- kinds that are no identifier

abbrev is_other : Kind → Bool
is_other k = nat_le 2 (number k)

-- the kind, if there is one, is no identifier's
abbrev IsOther : Option Kind → Type 0
IsOther o = (k : Kind) → o ≡ Some k → is_other k ≡ true

some_other : (j : Kind) → is_other j ≡ true → IsOther (Some j)
some_other j other k is = let same : j ≡ k = cc in subst (λ (x : Kind). is_other x ≡ true) same other

kind_in-other : (table : List (List ℕ × Kind)) (bytes : List ℕ) → list_all (λ entry. is_other entry.1) table ≡ true → IsOther (kind_in table bytes)
kind_in-other [] bytes others k is = absurd cc
kind_in-other (entry ∷ table) bytes others k is =
    let parts = and_parts (is_other entry.1) _ others in
    cond_both (bytes_eq entry.0 bytes) (Some entry.1) (kind_in table bytes) IsOther (λ _. some_other entry.1 parts.0) (λ _. kind_in-other table bytes parts.1) k is

named_other : (bytes : List ℕ) (k : Kind) → is_other k ≡ true → IsNamedWell (number k) bytes
unfolding name_of
named_other bytes k other name is =
    let above = leb-true 2 (number k) other in
    let none : name_of (number k) bytes ≡ None = rw (ne_eqb (number k) 0 (omega arith), ne_eqb (number k) 1 (omega arith)) refl in
    absurd cc

-- ---- lexemes

-- what the bytes are named by the kind, if there is one, is well formed
abbrev IsNamed : List ℕ → Option Kind → Type 0
IsNamed bytes o = (k : Kind) → o ≡ Some k → IsNamedWell (number k) bytes

well_basic : (bytes : List ℕ) → IsBasicName (map lower_case bytes) → IsNamedWell (number kind.Identifier) bytes
unfolding name_of
well_basic bytes basic name is = let same : map lower_case bytes ≡ name = cc in subst IsIdentifierName same (inl basic)

well_extended : (bytes : List ℕ) → is_extended_identifier bytes ≡ true → IsNamedWell (number kind.ExtendedIdentifier) bytes
unfolding name_of
well_extended bytes extended name is = let same : bytes ≡ name = cc in subst IsIdentifierName same (inr extended)

named_word : (bytes : List ℕ) → is_basic_identifier bytes ≡ true → (found : Option Kind) → found ≡ kind_in reserved_words (map lower_case bytes)
    → IsOther found → (k : Kind) → unwrap_or found kind.Identifier ≡ k → IsNamedWell (number k) bytes
named_word bytes basic None is others k same =
    subst (λ (x : Kind). IsNamedWell (number x) bytes) same
    (well_basic bytes (record { basic = is_basic_identifier-lower bytes ∙ basic; folded = map-twice bytes; not_reserved = sym is }))
named_word bytes basic (Some j) is others k same = subst (λ (x : Kind). IsNamedWell (number x) bytes) same (named_other bytes j (others j refl))

named_basic : (bytes : List ℕ) → is_basic_identifier bytes ≡ true → IsNamed bytes (Some (word_kind bytes))
unfolding word_kind
named_basic bytes basic k is =
    let reserved = kind_in reserved_words (map lower_case bytes) in
    let same : unwrap_or reserved kind.Identifier ≡ k = cc in
    named_word bytes basic reserved refl (kind_in-other reserved_words (map lower_case bytes) refl) k same

named_extended : (bytes : List ℕ) → is_extended_identifier bytes ≡ true → IsNamed bytes (Some kind.ExtendedIdentifier)
named_extended bytes extended k is =
    let same : kind.ExtendedIdentifier ≡ k = cc in subst (λ (x : Kind). IsNamedWell (number x) bytes) same (well_extended bytes extended)

named_rest : (bytes : List ℕ) (o : Option Kind) → IsOther o → IsNamed bytes o
named_rest bytes o others k is = named_other bytes k (others k is)

other_quotes : (before : Option Kind) (bytes : List ℕ)
    → IsOther (cond (is_tick bytes && takes_tick before) (Some kind.Tick) (cond (is_character_literal bytes && not (takes_tick before)) (Some kind.CharacterLiteral) (kind_in delimiters bytes)))
other_quotes before bytes =
    cond_both (is_tick bytes && takes_tick before) _ _ IsOther (λ _. some_other kind.Tick refl) (λ _.
    cond_both (is_character_literal bytes && not (takes_tick before)) _ _ IsOther (λ _. some_other kind.CharacterLiteral refl) (λ _. kind_in-other delimiters bytes refl))

named_lexeme : (before : Option Kind) (bytes : List ℕ) → IsNamed bytes (lexeme_kind before bytes)
unfolding lexeme_kind
named_lexeme before bytes =
    cond_both (is_basic_identifier bytes) _ _ (IsNamed bytes) (named_basic bytes) (λ _.
    cond_both (is_extended_identifier bytes) _ _ (IsNamed bytes) (named_extended bytes) (λ _.
    named_rest bytes _ (
    cond_both (is_number bytes) _ _ IsOther (λ _. some_other kind.Number refl) (λ _.
    cond_both (is_string_literal bytes) _ _ IsOther (λ _. some_other kind.StringLiteral refl) (λ _. other_quotes before bytes)))))

-- ---- texts

-- the tokens of a text have names
pub names_of_text : (text : List ℕ) (tokens : List Token) → Lexes vhdl text tokens → HaveNames text tokens
names_of_text text tokens lexed = λ i d inside.
    let t : Token = slice_index_or tokens i d in
    let this = token_lexemes text tokens lexed i d inside in
    let bytes = slice_range text t.start t.end in
    subst (λ (k : ℕ). IsNamedWell k bytes) (sym this.3) (named_lexeme this.0 bytes this.1 this.2)

-- and so has the token past the end, which is no identifier
pub named_past_end : (text : List ℕ) → HasName text no_token
unfolding name_of
named_past_end text name is = let none : None ≡ Some name = is in absurd cc
