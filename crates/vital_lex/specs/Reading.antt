-- What a lexer has read.
use Rattle.std.specs.Prelude.{◌≡◌, ◌≤◌, List, length, map, Option, ℕ}
use Rattle.vital_lex.specs.Lexicon.{Lexicon}
use Rattle.vital_lex.specs.Nesting.{nesting}
use Rattle.vital_lex.specs.Outcome.{Reaches}
use Rattle.vital_lex.specs.Pieces.{Lexeme, last_kind, token_of}
use Rattle.vital_lex.specs.declared.lexer.Lexer.{Lexer}

-- A lexer has read its text up to `at`, within the limits: these are the lexemes, and it knows their tokens, the kind of
-- the last one and the nesting after them.
pub record HasRead {Kind : Type 0} (lexicon : Lexicon Kind) (lexer : Lexer Kind) (lexemes : List (Lexeme Kind)) : Type 0 where
  pub reaches : Reaches lexicon lexer.text.now lexer.room lexer.at lexemes
  pub tokens_are : lexer.tokens.items ≡ map (token_of lexicon) lexemes
  pub before_is : lexer.before ≡ last_kind lexemes
  pub nesting_is : lexer.nesting ≡ nesting lexicon lexemes

-- The text is not too long, and is read up to `at`.
pub record IsReading {Kind : Type 0} (lexicon : Lexicon Kind) (lexer : Lexer Kind) : Type 0 where
  pub size : length lexer.text.now ≤ 16777216
  pub inside : lexer.at ≤ length lexer.text.now
  pub lexemes : List (Lexeme Kind)
  pub read : HasRead lexicon lexer lexemes
