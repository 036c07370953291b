-- A position in a text.
use Rattle.std.specs.Prelude.{◌≡◌, ℕ, ◌+◌, ◌≤◌, List, length}
use Rattle.vital_lex.specs.Places.{line_of, column_of}
use Rattle.vital_lex.specs.declared.text_position.TextPosition.{TextPosition}

-- The position is that of its offset in this text, which is not too long.
pub record IsPosition (text : List ℕ) (p : TextPosition) : Type 0 where
  pub size : length text ≤ 16777216
  pub inside : p.offset ≤ length text
  pub line_is : p.line ≡ line_of text p.offset
  pub column_is : p.column ≡ column_of text p.offset
  pub line_bound : p.line ≤ 1 + p.offset
  pub column_bound : p.column ≤ 1 + p.offset
