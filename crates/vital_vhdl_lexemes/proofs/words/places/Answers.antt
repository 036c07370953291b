use Rattle.std.proofs.Common.{refl}
use Rattle.vital_vhdl_lexemes.specs.ReservedWords.{reserved_words}
use Rattle.vital_vhdl_lexemes.specs.declared.words.TheConstants.{STARTS}
use Rattle.vital_vhdl_lexemes.proofs.WordTables.{starts_of, of_letter}
use Rattle.vital_vhdl_lexemes.proofs.words.places.Goals as goal

pub returns : goal.returns
returns c =
    let starts = starts_of STARTS reserved_words refl c.args.letter c.requires in
    record { in_order = starts.in_order; within = starts.within; own = λ rest. of_letter STARTS reserved_words c.args.letter _ rest starts refl }
