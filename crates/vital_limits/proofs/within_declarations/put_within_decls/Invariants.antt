use Rattle.std.proofs.Common.{◌≡◌, ◌++◌, take}
use Rattle.vital_limits.specs.WithinLimits.{limits_within_all}
use Rattle.vital_nodes.specs.Nodes.{declarations}
use Rattle.vital_limits.proofs.within_declarations.put_within_decls.Given as goal

abbrev pub invariant-loop-decl : goal.invariant-loop-decl
invariant-loop-decl l = l.limits.items ≡ l.initial.limits.items ++ limits_within_all (declarations (take l.decl-index l.decls))
