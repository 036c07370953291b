use Rattle.std.proofs.Common.{◌∙◌, ap, ◌+◌, ◌%◌, ◌/◌}
use Rattle.vital_sdf_words.proofs.NearestLemmas.{nearest-of}
use Rattle.vital_sdf_words.proofs.reading.nearest.Goals as goal

pub returns-clause-nearest : goal.returns-clause-nearest
returns-clause-nearest c = λ n d some is. ap (λ h. c.args.tenths / 10 + (c.args.tenths % 10 + h) / 10) c.half.ensures.half ∙ nearest-of c.args.is_negative c.args.has_more n d c.args.tenths some is
