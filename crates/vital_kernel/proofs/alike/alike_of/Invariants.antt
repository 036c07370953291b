use Rattle.std.proofs.Common.{map}
use Rattle.vital_kernel.specs.Alike.{AreTwins}
use Rattle.vital_kernel.proofs.alike.alike_of.Given as goal

abbrev pub invariant-loop-own : goal.invariant-loop-own
invariant-loop-own l = AreTwins (map (λ p. p.kind) l.placed) (map (λ v. v.now) l.values) l.own l.alike.items
