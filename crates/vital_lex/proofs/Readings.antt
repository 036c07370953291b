-- A lexer's next piece.
use Rattle.std.proofs.Common.{◌≡◌, ℕ, ◌<◌, ◌≤◌, [], ◌∷◌, ◌++◌, length, List, None, refl, ap, sym, subst, ◌∙◌, arith, Option, Some, Global, Vec}
use Rattle.std.specs.Vec.{vec_len}
use Rattle.std.proofs.lemmas.List.{length-map, map_push}
use Rattle.vital_lex.specs.Lexicon.{Lexicon, IsLexicon, Parted, last, more}
use Rattle.vital_lex.specs.Nesting.{nesting}
use Rattle.vital_lex.specs.Outcome.{IsRefused}
use Rattle.vital_lex.specs.Pieces.{Lexeme, IsNext, Row, separator, lexeme, token_of, last_kind}
use Rattle.vital_lex.specs.Reading.{IsReading}
use Rattle.vital_lex.specs.declared.faults.TextFault.TheVariants as fault
use Rattle.vital_lex.specs.declared.lexer.Lexer.{Lexer}
use Rattle.vital_lex.specs.declared.token_list.Token.{Token}
use Rattle.vital_lex.proofs.Limits.{last_kind-push, nesting-push, within_nesting, within_push}
use Rattle.vital_lex.proofs.Steps.{next_moves}

-- Separators behind a row of pieces belong to it.
module _ {Kind : Type 0} (lexicon : Lexicon Kind) (laws : IsLexicon lexicon) (text : List ℕ) where
  past_row : (lexemes : List (Lexeme Kind)) {at end : ℕ} → Parted lexicon text at end → Row lexicon text at lexemes → Row lexicon text end lexemes
  past_row lexemes (last inside none) row = row
  past_row lexemes (more found rest) row = past_row lexemes rest (separator row found)

  pub parted_inside : {at end : ℕ} → Parted lexicon text at end → (at ≤ end) × (end ≤ length text) × (lexicon.separator text end ≡ None)
  parted_inside (last inside none) = (omega arith, inside, none)
  parted_inside {at} {end} (more {next = next} found rest) =
      let here = laws.separator_moves text at next found in
      let later = parted_inside rest in
      (omega (arith, here.0, later.0), later.1, later.2)

module _ {Kind : Type 0} (lexicon : Lexicon Kind) (laws : IsLexicon lexicon) (lexer : Lexer Kind) (r : IsReading lexicon lexer) where
  pub depth_limit : lexer.nesting ≤ 64
  depth_limit = let h = within_nesting lexicon lexer.room r.lexemes r.read.reaches.within in omega (arith, r.read.nesting_is)

  -- separators
  pub past : (end : ℕ) → Parted lexicon lexer.text.now lexer.at end → IsReading lexicon (record lexer { at = end })
  past end parted = record {
    size = r.size;
    inside = (parted_inside lexicon laws lexer.text.now parted).1;
    lexemes = r.lexemes;
    read = record {
      reaches = record { row = past_row lexicon laws lexer.text.now r.lexemes parted r.read.reaches.row; within = r.read.reaches.within };
      tokens_are = r.read.tokens_are;
      before_is = r.read.before_is;
      nesting_is = r.read.nesting_is;
    };
  }

  -- a lexeme
  module _ (separated : lexicon.separator lexer.text.now lexer.at ≡ None) (k : Kind) (end : ℕ) (found : lexicon.lexeme lexer.before lexer.text.now lexer.at ≡ Some (k, end)) where
    abbrev the_lexeme : Lexeme Kind
    the_lexeme = record { kind = k; start = lexer.at; end = end }

    stands : IsNext lexicon lexer.text.now r.lexemes the_lexeme
    stands = record {
      no_separator = separated;
      lexeme = ap (λ b. lexicon.lexeme b lexer.text.now lexer.at) (sym r.read.before_is) ∙ found;
    }

    token_count : vec_len lexer.tokens ≡ length r.lexemes
    token_count = lexer.tokens.ok.0 ∙ ap length r.read.tokens_are ∙ length-map r.lexemes (token_of lexicon)

    pub refused_full : vec_len lexer.tokens ≡ lexer.room → IsRefused lexicon lexer.text.now lexer.room (fault.TooManyTokens lexer.at)
    refused_full full = (r.lexemes, the_lexeme, refl, r.read.reaches, stands, sym token_count ∙ full)

    module _ (depth : ℕ) (depth_is : depth ≡ lexicon.nesting_after lexer.before lexer.nesting k) (not_full : vec_len lexer.tokens ≡ lexer.room → ⊥) where
      depth_here : nesting lexicon (r.lexemes ++ the_lexeme ∷ []) ≡ depth
      depth_here =
          nesting-push lexicon r.lexemes the_lexeme ∙ ap (λ n. lexicon.nesting_after (last_kind r.lexemes) n k) (sym r.read.nesting_is)
          ∙ ap (λ b. lexicon.nesting_after b lexer.nesting k) (sym r.read.before_is) ∙ sym depth_is

      room_left : length r.lexemes < lexer.room
      room_left = let differ : length r.lexemes ≡ lexer.room → ⊥ = λ e. not_full (token_count ∙ e) in omega (arith, differ, r.read.reaches.within.few)

      pub refused_deep : 64 < depth → IsRefused lexicon lexer.text.now lexer.room (fault.TooDeep lexer.at)
      refused_deep deep =
          let one_more = laws.nests_one lexer.before lexer.nesting k in
          (r.lexemes, the_lexeme, refl, r.read.reaches, stands, room_left, omega (arith, depth_here, depth_limit, depth_is, one_more))

      pub taken : depth ≤ 64 → (tokens : Vec Token Global) → tokens.items ≡ lexer.tokens.items ++ token_of lexicon the_lexeme ∷ [] → IsReading lexicon (record { text = lexer.text; room = lexer.room; at = end; tokens = tokens; before = Some k; nesting = depth }) × (lexer.at < end)
      taken shallow tokens pushed =
          let forward = next_moves lexicon laws lexer.text.now r.lexemes the_lexeme stands in (
            record {
              size = r.size;
              inside = forward.1;
              lexemes = r.lexemes ++ the_lexeme ∷ [];
              read = record {
                reaches = record {
                  row = lexeme r.read.reaches.row stands;
                  within = within_push lexicon lexer.room r.lexemes the_lexeme r.read.reaches.within room_left (omega (arith, depth_here));
                };
                tokens_are = pushed ∙ ap (λ ts. ts ++ token_of lexicon the_lexeme ∷ []) r.read.tokens_are ∙ sym (map_push (token_of lexicon) r.lexemes the_lexeme);
                before_is = sym (last_kind-push r.lexemes the_lexeme);
                nesting_is = sym depth_here;
              };
            },
            forward.0,
          )
