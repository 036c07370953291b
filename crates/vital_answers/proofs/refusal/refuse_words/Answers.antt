use Rattle.vital_answers.proofs.refusal.refuse_words.Goals as goal

pub returns : goal.returns
returns g c = rw c.printed_usage.ensures at c.end_with.ensures
