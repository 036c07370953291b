use Rattle.std.proofs.Common.{refl}
use Rattle.vital_sdf_lexemes.specs.Keywords.{keywords}
use Rattle.vital_sdf_lexemes.specs.declared.keywords.TheConstants.{STARTS}
use Rattle.vital_sdf_lexemes.proofs.KeywordTables.{starts_of, of_letter}
use Rattle.vital_sdf_lexemes.proofs.keywords.places.Goals as goal

pub returns : goal.returns
returns c =
    let starts = starts_of STARTS keywords refl c.args.letter c.requires in
    record { in_order = starts.in_order; within = starts.within; own = λ rest. of_letter STARTS keywords c.args.letter _ rest starts refl }
