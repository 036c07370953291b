use Rattle.std.proofs.Common.{◌≡◌, ◌-◌, None, length}
use Rattle.vital_lex.specs.Reading.{IsReading}
use Rattle.vital_lex.proofs.lexer.lex.Given as goal

abbrev pub invariant-loop-lexer : goal.invariant-loop-lexer
invariant-loop-lexer g l = record {
  text_is : l.lexer.text.now ≡ l.text;
  room_is : l.lexer.room ≡ l.room;
  reading : IsReading g.L.Lexicon.lexicon l.lexer;
  separated : g.L.Lexicon.lexicon.separator l.lexer.text.now l.lexer.at ≡ None;
}

abbrev pub decreases-loop-lexer : goal.decreases-loop-lexer
decreases-loop-lexer g l = length l.text - l.lexer.at
