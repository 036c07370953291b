use Rattle.std.proofs.Common.{◌≡◌, drop}
use Rattle.vital_run.specs.Selves.{behind_last}
use Rattle.vital_run.proofs.self_run.last_text.Given as goal

abbrev pub invariant-loop-at : goal.invariant-loop-at
invariant-loop-at l = behind_last l.line (drop l.at l.text) ≡ behind_last l.text l.text
