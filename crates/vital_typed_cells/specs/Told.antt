-- Outcomes of which it is told what comes of them.
use Rattle.std.specs.Prelude.{◌≡◌, [], IsSome}
use Rattle.vital_expr.specs.Outcomes.{Outcome}

-- Where nothing is broken there is a tree.
abbrev pub IsTold : {A : Type 0} → Outcome A → Type 0
IsTold o = o.places ≡ [] → IsSome o.tree
