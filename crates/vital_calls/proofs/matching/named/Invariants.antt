use Rattle.std.proofs.Common.{◌≡◌, drop}
use Rattle.vital_calls.specs.Formals.{all_lent}
use Rattle.vital_calls.specs.Matching.{named}
use Rattle.vital_calls.proofs.matching.named.Given as goal

abbrev pub invariant-loop-formal : goal.invariant-loop-formal
invariant-loop-formal l = named l.name (all_lent (drop l.formal-index l.formals)) ≡ named l.name (all_lent l.formals)
