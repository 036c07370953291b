use Rattle.std.proofs.Common.{◌≡◌, drop}
use Rattle.vital_words.specs.Jobs.{file_in}
use Rattle.vital_words.proofs.job.file_in.Given as goal

abbrev pub invariant-loop-rule : goal.invariant-loop-rule
invariant-loop-rule l = file_in (drop l.rule-index l.rules) l.word ≡ file_in l.rules l.word
