use Rattle.std.proofs.Common.{[], ◌++◌, ◌∙◌, ap, append-nil}
use Rattle.vital_sdf_words.specs.Conditions.{tidied}
use Rattle.vital_sdf_words.proofs.conditions.quoted_condition_name.Goals as goal

pub returns : goal.returns
returns c = c.finish.ensures ∙ c.in_ok-extend.ensures [] ∙ c.new-name.ensures (c.args.text.now ++ []) ∙ ap tidied (append-nil c.args.text.now)
