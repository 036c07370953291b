use Rattle.std.proofs.Common.{◌≡◌, map}
use Rattle.vital_annotate.proofs.annotations.lists_of.Given as goal

abbrev pub invariant-loop-delays : goal.invariant-loop-delays
invariant-loop-delays l = l.lists.items ≡ map (λ delays. delays.items) l.yielded
