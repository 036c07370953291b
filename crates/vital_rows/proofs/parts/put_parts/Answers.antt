use Rattle.std.proofs.Common.{sym, ◌∙◌}
use Rattle.std.proofs.lemmas.Bool.{false≢true}
use Rattle.vital_rows.proofs.parts.put_parts.Goals as goal

pub put_part-requires-clause-to_come : goal.put_part-requires-clause-to_come
put_part-requires-clause-to_come c = λ begun. absurd (false≢true (sym c.requires.unbegun ∙ begun))
