use Rattle.std.proofs.Common.{◌≡◌, drop}
use Rattle.vital_words.specs.Refusals.{refusal}
use Rattle.vital_words.proofs.refusal.refusal.Given as goal

abbrev pub invariant-loop-rule : goal.invariant-loop-rule
invariant-loop-rule l = refusal (drop l.rule-index l.rules) l.earlier l.word ≡ refusal l.rules l.earlier l.word
