use Rattle.std.proofs.Common.{◌≡◌, drop}
use Rattle.std.specs.List.{list_any}
use Rattle.vital_calls.specs.Formals.{all_lent, lent}
use Rattle.vital_calls.specs.Matching.{count_for, has_wrong_count, is_wrong_count}
use Rattle.vital_calls.proofs.matching.has_wrong_count.Given as goal

abbrev pub invariant-loop-formal : goal.invariant-loop-formal
invariant-loop-formal l =
    list_any (λ f. is_wrong_count f (count_for f.name (lent l.formals) l.items)) (all_lent (drop l.formal-index l.all)) ≡ has_wrong_count (lent l.formals) l.items
