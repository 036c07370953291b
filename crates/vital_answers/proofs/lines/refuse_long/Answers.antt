use Rattle.vital_answers.proofs.lines.refuse_long.Goals as goal

pub returns : goal.returns
returns g c = rw c.as_slice.ensures at c.end_with.ensures
