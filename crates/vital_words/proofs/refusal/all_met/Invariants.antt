use Rattle.std.proofs.Common.{◌≡◌, drop}
use Rattle.std.specs.List.{list_all}
use Rattle.vital_words.specs.Refusals.{is_met}
use Rattle.vital_words.proofs.refusal.all_met.Given as goal

abbrev pub invariant-loop-rule : goal.invariant-loop-rule
invariant-loop-rule l = list_all (is_met l.words) (drop l.rule-index l.rules) ≡ list_all (is_met l.words) l.rules
