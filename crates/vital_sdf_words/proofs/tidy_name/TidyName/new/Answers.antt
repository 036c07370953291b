use Rattle.vital_sdf_words.proofs.TidyLemmas.{added-all}
use Rattle.vital_sdf_words.proofs.tidy_name.TidyName.new.Goals as goal

pub returns : goal.returns
returns c = λ rest. rw c.new.ensures.items (added-all rest)
