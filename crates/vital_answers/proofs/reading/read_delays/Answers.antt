use Rattle.std.proofs.Common.{Err, ap}
use Rattle.vital_sdf_lexemes.specs.Sdf.{sdf}
use Rattle.vital_sdf_lexemes.specs.SdfLaws.{sdf_is_lexicon}
use Rattle.vital_answers.proofs.FilesRead.{inside}
use Rattle.vital_answers.proofs.reading.read_delays.Goals as goal

pub text_refusal-requires-clause-inside : goal.text_refusal-requires-clause-inside
text_refusal-requires-clause-inside c =
    inside sdf sdf_is_lexicon c.args.text.now c.args.room c.in-Err-Lex.fault (c.in-Err-Lex.ensures.lexical c.in-Err-Lex.fault (ap Err c.in-Err-Lex.field-0-is))
