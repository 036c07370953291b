use Rattle.std.proofs.Common.{◌≡◌, ◌++◌, take}
use Rattle.std.specs.List.{zip}
use Rattle.std.specs.Option.{option_copied}
use Rattle.vital_declaration_clauses.specs.Clauses.{breaks, broken_among}
use Rattle.vital_declaration_clauses.proofs.breaking.put_region.Given as goal

abbrev pub invariant-loop-index : goal.invariant-loop-index
invariant-loop-index l = l.places.items ≡ l.initial.places.items ++ broken_among (breaks l.clause l.names) (option_copied l.process) (zip l.viewpoints (take l.index l.declarations))
