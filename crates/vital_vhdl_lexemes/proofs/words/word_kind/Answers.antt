use Rattle.std.proofs.Common.{refl}
use Rattle.vital_vhdl_lexemes.proofs.WordTables.{by_letter}
use Rattle.vital_vhdl_lexemes.proofs.words.word_kind.Goals as goal

pub returns : goal.returns
returns c =
    by_letter (λ entry. (entry.0.now, entry.1)) _ c.places-start.result.0 c.places-start.result.1 c.args.word.now c.to_ascii_lowercase-letter.result _ refl c.requires.some c.requires.letter c.to_ascii_lowercase-letter.ensures.value c.places-start.ensures.own c.kind_in.ensures
