-- A lexeme by what its first byte allows.
use Rattle.std.proofs.Common.{◌≡◌, ℕ, ◌+◌, ◌<◌, ◌≤◌, Bool, true, false, ◌&&◌, cond, eqb, List, [], ◌∷◌, length, get_or, refl, ap, sym, ◌∙◌, ⊎_elim, arith, Option, Some, None}
use Rattle.std.specs.Prelude.{slice_range, is_some, nat_lt}
use Rattle.std.proofs.lemmas.Bool.{and_left, and_right, and_from, cond-false, cond-true, cases_lt, lt-ltb, le-ltb, eq-eqb, ne_eqb, cases_Bool, false≢true}
use Rattle.std.proofs.lemmas.List.Edits.{length-between}
use Rattle.vital_vhdl_lexemes.specs.Bytes.{is_letter, is_digit, is_graphic}
use Rattle.vital_vhdl_lexemes.specs.Delimiters.{delimiters}
use Rattle.vital_vhdl_lexemes.specs.Finding.{begins_word_or_literal}
use Rattle.vital_vhdl_lexemes.specs.Forms.{closes, is_basic_identifier, is_number, is_tick, is_character_literal, kind_in, word_kind, takes_tick, lexeme_kind}
use Rattle.vital_vhdl_lexemes.specs.LexiconLaws.{moves, nothing}
use Rattle.vital_vhdl_lexemes.specs.Longest.{IsLongest, NoneFits, IsLexeme, is_lexeme}
use Rattle.vital_vhdl_lexemes.specs.declared.kinds.Kind.{Kind}
use Rattle.vital_vhdl_lexemes.specs.declared.kinds.Kind.TheVariants as kind
use Rattle.vital_vhdl_lexemes.proofs.FirstBytes.{at_letter, at_digit, at_backslash, at_quotation_mark, at_tick, at_character, at_other}
use Rattle.vital_vhdl_lexemes.proofs.Ranges.{range-none, range-head, range-one}
use Rattle.vital_vhdl_lexemes.proofs.Tables.{kind_in-long}

module _ (before : Option Kind) (text : List ℕ) (at : ℕ) (inside : at < length text) where
  -- what the first byte allows, of the bytes after it
  module _ (after : List ℕ → Option Kind) (first : (w : List ℕ) → lexeme_kind before (get_or text at 0 ∷ w) ≡ after w) where
    kind_at : (end : ℕ) → at < end → end ≤ length text → lexeme_kind before (slice_range text at end) ≡ after (slice_range text (at + 1) end)
    kind_at end forward within = ap (lexeme_kind before) (range-head text at end forward within) ∙ first _

    pub lexeme_from : (end : ℕ) (k : Kind) → at < end → end ≤ length text → after (slice_range text (at + 1) end) ≡ Some k → ((more : ℕ) → end < more → more ≤ length text → after (slice_range text (at + 1) more) ≡ None) → IsLexeme before text at end k
    lexeme_from end k forward within fits longer = record {
      longest = record {
        forward = omega arith;
        within = within;
        passes = ap is_some (kind_at end forward within ∙ fits);
        longest = λ more above more_within. ap is_some (kind_at more (omega arith) more_within ∙ longer more above more_within);
      };
      kind_is = kind_at end forward within ∙ fits;
    }

    pub none_from : ((end : ℕ) → at < end → end ≤ length text → after (slice_range text (at + 1) end) ≡ None) → NoneFits (is_lexeme before) text at
    none_from none = λ end above within.
        ⊎_elim
        (λ forward. ap is_some (kind_at end forward within ∙ none end forward within))
        (λ back. let here : end ≡ at = omega arith in ap (λ e. is_lexeme before (slice_range text at e)) here ∙ ap (is_lexeme before) (range-none text at) ∙ ap is_some (nothing before))
        (cases_lt at end)

  -- bytes of a test that the first byte is in
  module _ (test : List ℕ → Bool) (kind_of : List ℕ → Kind) (first : (w : List ℕ) → lexeme_kind before (get_or text at 0 ∷ w) ≡ cond (test (get_or text at 0 ∷ w)) (Some (kind_of (get_or text at 0 ∷ w))) None) where
    tested : (end : ℕ) → at < end → end ≤ length text → (t : Bool) → test (slice_range text at end) ≡ t → test (get_or text at 0 ∷ slice_range text (at + 1) end) ≡ t
    tested end forward within t is_t = ap test (sym (range-head text at end forward within)) ∙ is_t

    lexeme_by : (end : ℕ) → at < end → IsLongest test text at end → (found : Kind) → found ≡ kind_of (slice_range text at end) → IsLexeme before text at end found
    lexeme_by end forward longest found found_is =
        lexeme_from (λ w. cond (test (get_or text at 0 ∷ w)) (Some (kind_of (get_or text at 0 ∷ w))) None) first end found forward longest.within
        (cond-true (test (get_or text at 0 ∷ slice_range text (at + 1) end)) _ None (tested end forward longest.within true longest.passes) ∙ ap (λ w. Some (kind_of w)) (sym (range-head text at end forward longest.within)) ∙ ap Some (sym found_is))
        (λ more above within. cond-false (test (get_or text at 0 ∷ slice_range text (at + 1) more)) (Some (kind_of (get_or text at 0 ∷ slice_range text (at + 1) more))) None (tested more (omega arith) within false (longest.longest more above within)))

  pub word_found : (end : ℕ) → is_letter (get_or text at 0) ≡ true → IsLongest is_basic_identifier text at end → (found : Kind) → found ≡ word_kind (slice_range text at end) → IsLexeme before text at end found
  word_found end letter longest found found_is = lexeme_by is_basic_identifier word_kind (λ w. at_letter before w _ letter) end (moves is_basic_identifier text at end refl longest) longest found found_is

  pub number_found : (end : ℕ) → is_digit (get_or text at 0) ≡ true → IsLongest is_number text at end → IsLexeme before text at end kind.Number
  number_found end digit longest = lexeme_by is_number (λ _. kind.Number) (λ w. at_digit before w _ digit) end (moves is_number text at end refl longest) longest kind.Number refl

  -- an extended identifier, which has something between its marks
  module _ (mark : get_or text at 0 ≡ 92) where
    extended : (w : List ℕ) → lexeme_kind before (get_or text at 0 ∷ w) ≡ cond (nat_lt 1 (length w) && closes 92 w) (Some kind.ExtendedIdentifier) None
    extended w = ap (λ b. lexeme_kind before (b ∷ w)) mark ∙ at_backslash before w

    none_extended : ((end : ℕ) → at + 2 < end → end ≤ length text → closes 92 (slice_range text (at + 1) end) ≡ false) → NoneFits (is_lexeme before) text at
    none_extended unclosed = none_from (λ w. cond (nat_lt 1 (length w) && closes 92 w) (Some kind.ExtendedIdentifier) None) extended (λ end forward within.
        let w = slice_range text (at + 1) end in
        cond-false (nat_lt 1 (length w) && closes 92 w) (Some kind.ExtendedIdentifier) None
        (⊎_elim
        (λ long. and_right (nat_lt 1 (length w)) _ (unclosed end long within))
        (λ short. and_left (nat_lt 1 (length w)) _ (le-ltb 1 (length w) (omega (arith, length-between text (at + 1) end within))))
        (cases_lt (at + 2) end)))

    pub extended_unclosed : NoneFits (closes 92) text (at + 1) → NoneFits (is_lexeme before) text at
    extended_unclosed unclosed = none_extended (λ end long within. unclosed end (omega arith) within)

    pub extended_empty : IsLongest (closes 92) text (at + 1) (at + 2) → NoneFits (is_lexeme before) text at
    extended_empty longest = none_extended (λ end long within. longest.longest end long within)

    -- nothing at all closes nothing
    extended_long : (end : ℕ) → (end ≡ at + 2 → ⊥) → IsLongest (closes 92) text (at + 1) end → at + 2 < end
    extended_long end more longest =
        let some = moves (closes 92) text (at + 1) end refl longest in
        omega arith

    pub extended_found : (end : ℕ) → (end ≡ at + 2 → ⊥) → IsLongest (closes 92) text (at + 1) end → IsLexeme before text at end kind.ExtendedIdentifier
    extended_found end more longest =
        let long = extended_long end more longest in
        lexeme_from (λ w. cond (nat_lt 1 (length w) && closes 92 w) (Some kind.ExtendedIdentifier) None) extended end kind.ExtendedIdentifier (omega arith) longest.within
        (let w = slice_range text (at + 1) end in cond-true (nat_lt 1 (length w) && closes 92 w) (Some kind.ExtendedIdentifier) None (and_from (nat_lt 1 (length w)) _ (lt-ltb 1 (length w) (omega (arith, length-between text (at + 1) end longest.within))) longest.passes))
        (λ more above within. let w = slice_range text (at + 1) more in cond-false (nat_lt 1 (length w) && closes 92 w) (Some kind.ExtendedIdentifier) None (and_right (nat_lt 1 (length w)) _ (longest.longest more above within)))

  module _ (mark : get_or text at 0 ≡ 34) where
    string : (w : List ℕ) → lexeme_kind before (get_or text at 0 ∷ w) ≡ cond (closes 34 w) (Some kind.StringLiteral) None
    string w = ap (λ b. lexeme_kind before (b ∷ w)) mark ∙ at_quotation_mark before w

    pub string_unclosed : NoneFits (closes 34) text (at + 1) → NoneFits (is_lexeme before) text at
    string_unclosed unclosed = none_from (λ w. cond (closes 34 w) (Some kind.StringLiteral) None) string (λ end forward within. cond-false (closes 34 (slice_range text (at + 1) end)) (Some kind.StringLiteral) None (unclosed end (omega arith) within))

    pub string_found : (end : ℕ) → IsLongest (closes 34) text (at + 1) end → IsLexeme before text at end kind.StringLiteral
    string_found end longest =
        let forward : at + 1 ≤ end = longest.forward in
        lexeme_from (λ w. cond (closes 34 w) (Some kind.StringLiteral) None) string end kind.StringLiteral (omega arith) longest.within
        (cond-true (closes 34 (slice_range text (at + 1) end)) (Some kind.StringLiteral) None longest.passes)
        (λ more above within. cond-false (closes 34 (slice_range text (at + 1) more)) (Some kind.StringLiteral) None (longest.longest more above within))

  module _ (mark : get_or text at 0 ≡ 39) where
    pub tick_found : takes_tick before ≡ true → IsLexeme before text at (at + 1) kind.Tick
    tick_found ticks =
        lexeme_from (λ w. cond (is_tick (39 ∷ w)) (Some kind.Tick) None) (λ w. ap (λ b. lexeme_kind before (b ∷ w)) mark ∙ at_tick before w ticks) (at + 1) kind.Tick (omega arith) (omega arith)
        (ap (λ w. cond (is_tick (39 ∷ w)) (Some kind.Tick) None) (range-none text (at + 1)))
        (λ more above within. ap (λ w. cond (is_tick (39 ∷ w)) (Some kind.Tick) None) (range-head text (at + 1) more above within))

    character : takes_tick before ≡ false → (w : List ℕ) → lexeme_kind before (get_or text at 0 ∷ w) ≡ cond (is_character_literal (39 ∷ w)) (Some kind.CharacterLiteral) None
    character ticks w = ap (λ b. lexeme_kind before (b ∷ w)) mark ∙ at_character before w ticks

    -- three bytes are a character literal or none, and no others are one
    character_long : (end : ℕ) → at + 3 < end → end ≤ length text → is_character_literal (39 ∷ slice_range text (at + 1) end) ≡ false
    character_long end long within =
        ap (λ w. is_character_literal (39 ∷ w)) (range-head text (at + 1) end (omega arith) within ∙ ap (λ w. get_or text (at + 1) 0 ∷ w) (range-head text (at + 1 + 1) end (omega arith) within ∙ ap (λ w. get_or text (at + 1 + 1) 0 ∷ w) (range-head text (at + 1 + 1 + 1) end (omega arith) within)))

    character_short : (end : ℕ) → at < end → end < at + 3 → end ≤ length text → is_character_literal (39 ∷ slice_range text (at + 1) end) ≡ false
    character_short end forward short within =
        ⊎_elim
        (λ two. let is_two : end ≡ at + 1 + 1 = omega arith in ap (λ e. is_character_literal (39 ∷ slice_range text (at + 1) e)) is_two ∙ ap (λ w. is_character_literal (39 ∷ w)) (range-one text (at + 1) (omega arith)))
        (λ one. let is_one : end ≡ at + 1 = omega arith in ap (λ e. is_character_literal (39 ∷ slice_range text (at + 1) e)) is_one ∙ ap (λ w. is_character_literal (39 ∷ w)) (range-none text (at + 1)))
        (cases_lt (at + 1) end)

    character_three : at + 2 < length text → is_character_literal (39 ∷ slice_range text (at + 1) (at + 3)) ≡ (is_graphic (get_or text (at + 1) 0) && eqb (get_or text (at + 2) 0) 39)
    character_three long =
        let next : at + 1 + 1 ≡ at + 2 = omega arith in
        let last : at + 1 + 1 + 1 ≡ at + 3 = omega arith in
        ap (λ w. is_character_literal (39 ∷ w))
        (range-head text (at + 1) (at + 3) (omega arith) (omega arith) ∙ ap (λ w. get_or text (at + 1) 0 ∷ w)
        (ap (λ e. slice_range text (at + 1 + 1) e) (sym last) ∙ range-one text (at + 1 + 1) (omega arith) ∙ ap (λ n. get_or text n 0 ∷ []) next))

    pub character_found : takes_tick before ≡ false → at + 2 < length text → is_graphic (get_or text (at + 1) 0) ≡ true → get_or text (at + 2) 0 ≡ 39 → IsLexeme before text at (at + 3) kind.CharacterLiteral
    character_found ticks long graphic closed =
        lexeme_from (λ w. cond (is_character_literal (39 ∷ w)) (Some kind.CharacterLiteral) None) (character ticks) (at + 3) kind.CharacterLiteral (omega arith) (omega arith)
        (cond-true (is_character_literal (39 ∷ slice_range text (at + 1) (at + 3))) (Some kind.CharacterLiteral) None (character_three long ∙ and_from _ _ graphic (eq-eqb _ 39 closed)))
        (λ more above within. cond-false (is_character_literal (39 ∷ slice_range text (at + 1) more)) (Some kind.CharacterLiteral) None (character_long more above within))

    pub no_character : takes_tick before ≡ false → (at + 2 < length text → is_graphic (get_or text (at + 1) 0) ≡ true → get_or text (at + 2) 0 ≡ 39 → ⊥) → NoneFits (is_lexeme before) text at
    no_character ticks other =
        none_from (λ w. cond (is_character_literal (39 ∷ w)) (Some kind.CharacterLiteral) None) (character ticks)
        (λ end forward within. cond-false (is_character_literal (39 ∷ slice_range text (at + 1) end)) (Some kind.CharacterLiteral) None
        (⊎_elim
        (λ short. character_short end forward short within)
        (λ three_or_more.
        ⊎_elim
        (λ long. character_long end long within)
        (λ three.
        let is_three : end ≡ at + 3 = omega arith in
        let room : at + 2 < length text = omega arith in
        ap (λ e. is_character_literal (39 ∷ slice_range text (at + 1) e)) is_three ∙ character_three room
        ∙ ⊎_elim
        (λ graphic. and_right (is_graphic (get_or text (at + 1) 0)) _ (ne_eqb _ 39 (other room graphic)))
        (λ plain. and_left (is_graphic (get_or text (at + 1) 0)) _ plain)
        (cases_Bool (is_graphic (get_or text (at + 1) 0))))
        (cases_lt (at + 3) end))
        (cases_lt end (at + 3))))

  module _ (none : begins_word_or_literal (get_or text at 0) ≡ false) where
    delimiter_long : (end : ℕ) → at + 2 < end → end ≤ length text → kind_in delimiters (get_or text at 0 ∷ slice_range text (at + 1) end) ≡ None
    delimiter_long end long within = kind_in-long 3 delimiters (get_or text at 0 ∷ slice_range text (at + 1) end) refl (omega (arith, length-between text (at + 1) end within))

    delimiter_two : at + 1 < length text → slice_range text (at + 1) (at + 2) ≡ get_or text (at + 1) 0 ∷ []
    delimiter_two more = let next : at + 1 + 1 ≡ at + 2 = omega arith in ap (λ e. slice_range text (at + 1) e) (sym next) ∙ range-one text (at + 1) more

    pub compound_found : (k : Kind) → at + 1 < length text → kind_in delimiters (get_or text at 0 ∷ get_or text (at + 1) 0 ∷ []) ≡ Some k → IsLexeme before text at (at + 2) k
    compound_found k more fits =
        lexeme_from (λ w. kind_in delimiters (get_or text at 0 ∷ w)) (λ w. at_other before w _ none) (at + 2) k (omega arith) (omega arith)
        (ap (λ w. kind_in delimiters (get_or text at 0 ∷ w)) (delimiter_two more) ∙ fits)
        delimiter_long

    module _ (not_compound : at + 1 < length text → kind_in delimiters (get_or text at 0 ∷ get_or text (at + 1) 0 ∷ []) ≡ None) where
      delimiter_more : (end : ℕ) → at + 1 < end → end ≤ length text → kind_in delimiters (get_or text at 0 ∷ slice_range text (at + 1) end) ≡ None
      delimiter_more end more within =
          ⊎_elim
          (λ long. delimiter_long end long within)
          (λ two. let is_two : end ≡ at + 2 = omega arith in ap (λ e. kind_in delimiters (get_or text at 0 ∷ slice_range text (at + 1) e)) is_two ∙ ap (λ w. kind_in delimiters (get_or text at 0 ∷ w)) (delimiter_two (omega arith)) ∙ not_compound (omega arith))
          (cases_lt (at + 2) end)

      pub delimiter_found : (k : Kind) → kind_in delimiters (get_or text at 0 ∷ []) ≡ Some k → IsLexeme before text at (at + 1) k
      delimiter_found k fits =
          lexeme_from (λ w. kind_in delimiters (get_or text at 0 ∷ w)) (λ w. at_other before w _ none) (at + 1) k (omega arith) (omega arith)
          (ap (λ w. kind_in delimiters (get_or text at 0 ∷ w)) (range-none text (at + 1)) ∙ fits)
          delimiter_more

      pub no_delimiter : kind_in delimiters (get_or text at 0 ∷ []) ≡ None → NoneFits (is_lexeme before) text at
      no_delimiter not_single =
          none_from (λ w. kind_in delimiters (get_or text at 0 ∷ w)) (λ w. at_other before w _ none)
          (λ end forward within.
          ⊎_elim
          (λ more. delimiter_more end more within)
          (λ one. let is_one : end ≡ at + 1 = omega arith in ap (λ e. kind_in delimiters (get_or text at 0 ∷ slice_range text (at + 1) e)) is_one ∙ ap (λ w. kind_in delimiters (get_or text at 0 ∷ w)) (range-none text (at + 1)) ∙ not_single)
          (cases_lt (at + 1) end))
