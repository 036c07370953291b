use Rattle.std.proofs.Common.{◌∙◌, sym, ap}
use Rattle.std.specs.Option.{option_copied}
use Rattle.vital_words.proofs.Refused.{refused_for}
use Rattle.vital_words.proofs.refusal.refusal.Goals as goal

pub returns-in-Some : goal.returns-in-Some
returns-in-Some c =
    refused_for c.args.rules.now c.loop-rule.rule-index _ c.args.earlier.now c.args.word.now c.in-Some.value.now c.refusal_of.result c.loop-rule-test.true (sym c.value_in.ensures ∙ ap option_copied c.in-Some.is) c.refusal_of.ensures ∙ c.loop-rule.invariant
