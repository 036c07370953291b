use Rattle.std.proofs.Common.{◌≡◌, ◌++◌, map, take}
use Rattle.vital_nodes.specs.Statements.{all_concurrent}
use Rattle.vital_nodes.proofs.statements.+concurrent.Given as goal

abbrev pub invariant-put_all_concurrent-loop-conc : goal.invariant-put_all_concurrent-loop-conc
invariant-put_all_concurrent-loop-conc l = map (λ c. c.now) l.all.items ≡ map (λ c. c.now) l.initial.all.items ++ all_concurrent (take l.conc-index l.statements)
