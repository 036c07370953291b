use Rattle.std.proofs.Common.{◌≡◌, length, map, take}
use Rattle.vital_kernel.specs.Lists.{AreListed}
use Rattle.vital_kernel.proofs.lists.lists_of.Given as goal

abbrev pub invariant-loop-process : goal.invariant-loop-process
invariant-loop-process l = record {
  all : length l.lists.items ≡ l.signals;
  listed : AreListed (take l.process l.sensitivities) (map (λ list. list.items) l.lists.items);
}
