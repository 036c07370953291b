-- What a lexeme may be, by its first byte.
use Rattle.std.proofs.Common.{◌≡◌, ℕ, Bool, true, false, not, ◌&&◌, ◌||◌, cond, eqb, List, [], ◌∷◌, length, refl, ap, ◌∙◌, arith, Option, Some, None}
use Rattle.std.specs.Prelude.{nat_lt}
use Rattle.std.proofs.lemmas.Bool.{and_left, and_right, or_parts}
use Rattle.std.proofs.lemmas.Bool.Decides.{nat_tests}
use Rattle.vital_vhdl_lexemes.specs.Bytes.{is_letter, is_digit}
use Rattle.vital_vhdl_lexemes.specs.Delimiters.{delimiters}
use Rattle.vital_vhdl_lexemes.specs.Finding.{begins_word_or_literal}
use Rattle.vital_vhdl_lexemes.specs.Forms.{closes, is_basic_identifier, is_number, is_extended_identifier, is_string_literal, is_tick, is_character_literal, kind_in, word_kind, takes_tick, lexeme_kind}
use Rattle.vital_vhdl_lexemes.specs.declared.kinds.Kind.{Kind}
use Rattle.vital_vhdl_lexemes.specs.declared.kinds.Kind.TheVariants as kind
use Rattle.vital_vhdl_lexemes.proofs.Tables.{other_byte, kind_in-other}

-- the tests of all forms in their order
abbrev by_forms : Bool → Bool → Bool → Bool → Bool → Bool → Kind → Option Kind → Option Kind
by_forms identifier extended number string tick character word other =
    cond identifier (Some word) (cond extended (Some kind.ExtendedIdentifier) (cond number (Some kind.Number) (cond string (Some kind.StringLiteral) (cond tick (Some kind.Tick) (cond character (Some kind.CharacterLiteral) other)))))

no_character : (b : ℕ) (w : List ℕ) → eqb b 39 ≡ false → is_character_literal (b ∷ w) ≡ false
no_character b [] other = refl
no_character b (c ∷ []) other = refl
no_character b (c ∷ d ∷ []) other = and_left (eqb b 39 && _) _ (and_left (eqb b 39) _ other)
no_character b (c ∷ d ∷ e ∷ w) other = refl

letter_no_digit : (b : ℕ) → is_letter b ≡ true → is_digit b ≡ false
letter_no_digit b letter = grind (arith, nat_tests)

digit_no_letter : (b : ℕ) → is_digit b ≡ true → is_letter b ≡ false
digit_no_letter b digit = grind (arith, nat_tests)

and_true : (b : Bool) → (b && true) ≡ b
and_true true = refl
and_true false = refl

module _ (before : Option Kind) (w : List ℕ) where
  no_tick : (b : ℕ) → eqb b 39 ≡ false → (is_tick (b ∷ w) && takes_tick before) ≡ false
  no_tick b other = and_left (is_tick (b ∷ w)) (takes_tick before) (and_left (eqb b 39) _ other)

  no_character_here : (b : ℕ) → eqb b 39 ≡ false → (is_character_literal (b ∷ w) && not (takes_tick before)) ≡ false
  no_character_here b other = and_left (is_character_literal (b ∷ w)) (not (takes_tick before)) (no_character b w other)

  pub at_letter : (b : ℕ) → is_letter b ≡ true → lexeme_kind before (b ∷ w) ≡ cond (is_basic_identifier (b ∷ w)) (Some (word_kind (b ∷ w))) None
  unfolding lexeme_kind
  at_letter b letter =
      let extended : is_extended_identifier (b ∷ w) ≡ false = and_left (eqb b 92) _ (other_byte is_letter b 92 letter refl) in
      let number : is_number (b ∷ w) ≡ false = and_left (is_digit b) _ (letter_no_digit b letter) in
      let string : is_string_literal (b ∷ w) ≡ false = and_left (eqb b 34) _ (other_byte is_letter b 34 letter refl) in
      let apostrophe = other_byte is_letter b 39 letter refl in
      let tick = no_tick b apostrophe in
      let character = no_character_here b apostrophe in
      let other = kind_in-other is_letter delimiters b w refl letter in
      λ i. by_forms (is_basic_identifier (b ∷ w)) (extended i) (number i) (string i) (tick i) (character i) (word_kind (b ∷ w)) (other i)

  pub at_digit : (b : ℕ) → is_digit b ≡ true → lexeme_kind before (b ∷ w) ≡ cond (is_number (b ∷ w)) (Some kind.Number) None
  unfolding lexeme_kind
  at_digit b digit =
      let identifier : is_basic_identifier (b ∷ w) ≡ false = and_left (is_letter b) _ (digit_no_letter b digit) in
      let extended : is_extended_identifier (b ∷ w) ≡ false = and_left (eqb b 92) _ (other_byte is_digit b 92 digit refl) in
      let string : is_string_literal (b ∷ w) ≡ false = and_left (eqb b 34) _ (other_byte is_digit b 34 digit refl) in
      let apostrophe = other_byte is_digit b 39 digit refl in
      let tick = no_tick b apostrophe in
      let character = no_character_here b apostrophe in
      let other = kind_in-other is_digit delimiters b w refl digit in
      λ i. by_forms (identifier i) (extended i) (is_number (b ∷ w)) (string i) (tick i) (character i) (word_kind (b ∷ w)) (other i)

  pub at_backslash : lexeme_kind before (92 ∷ w) ≡ cond (nat_lt 1 (length w) && closes 92 w) (Some kind.ExtendedIdentifier) None
  unfolding lexeme_kind
  at_backslash =
      let character = no_character_here 92 refl in
      λ i. by_forms false (nat_lt 1 (length w) && closes 92 w) false false false (character i) (word_kind (92 ∷ w)) None

  pub at_quotation_mark : lexeme_kind before (34 ∷ w) ≡ cond (closes 34 w) (Some kind.StringLiteral) None
  unfolding lexeme_kind
  at_quotation_mark =
      let character = no_character_here 34 refl in
      λ i. by_forms false false false (closes 34 w) false (character i) (word_kind (34 ∷ w)) None

  pub at_tick : takes_tick before ≡ true → lexeme_kind before (39 ∷ w) ≡ cond (is_tick (39 ∷ w)) (Some kind.Tick) None
  unfolding lexeme_kind
  at_tick ticks =
      let tick : (is_tick (39 ∷ w) && takes_tick before) ≡ is_tick (39 ∷ w) = ap (λ t. is_tick (39 ∷ w) && t) ticks ∙ and_true (is_tick (39 ∷ w)) in
      let character : (is_character_literal (39 ∷ w) && not (takes_tick before)) ≡ false = and_right _ _ (ap not ticks) in
      λ i. by_forms false false false false (tick i) (character i) (word_kind (39 ∷ w)) None

  pub at_character : takes_tick before ≡ false → lexeme_kind before (39 ∷ w) ≡ cond (is_character_literal (39 ∷ w)) (Some kind.CharacterLiteral) None
  unfolding lexeme_kind
  at_character ticks =
      let tick : (is_tick (39 ∷ w) && takes_tick before) ≡ false = and_right _ _ ticks in
      let character : (is_character_literal (39 ∷ w) && not (takes_tick before)) ≡ is_character_literal (39 ∷ w) = ap (λ t. is_character_literal (39 ∷ w) && not t) ticks ∙ and_true (is_character_literal (39 ∷ w)) in
      λ i. by_forms false false false false (tick i) (character i) (word_kind (39 ∷ w)) None

  pub at_other : (b : ℕ) → begins_word_or_literal b ≡ false → lexeme_kind before (b ∷ w) ≡ kind_in delimiters (b ∷ w)
  unfolding lexeme_kind
  at_other b none =
      let no_39 = or_parts (is_letter b || is_digit b || eqb b 92 || eqb b 34) (eqb b 39) none in
      let no_34 = or_parts (is_letter b || is_digit b || eqb b 92) (eqb b 34) no_39.0 in
      let no_92 = or_parts (is_letter b || is_digit b) (eqb b 92) no_34.0 in
      let no_class = or_parts (is_letter b) (is_digit b) no_92.0 in
      let identifier : is_basic_identifier (b ∷ w) ≡ false = and_left (is_letter b) _ no_class.0 in
      let extended : is_extended_identifier (b ∷ w) ≡ false = and_left (eqb b 92) _ no_92.1 in
      let number : is_number (b ∷ w) ≡ false = and_left (is_digit b) _ no_class.1 in
      let string : is_string_literal (b ∷ w) ≡ false = and_left (eqb b 34) _ no_34.1 in
      let tick = no_tick b no_39.1 in
      let character = no_character_here b no_39.1 in
      λ i. by_forms (identifier i) (extended i) (number i) (string i) (tick i) (character i) (word_kind (b ∷ w)) (kind_in delimiters (b ∷ w))
