use Rattle.std.proofs.Common.{◌≡◌, take}
use Rattle.std.specs.Prelude.{Ok}
use Rattle.vital_annotate.specs.Annotations.{change_instance, each}
use Rattle.vital_annotate.specs.Tries.{tried}
use Rattle.vital_annotate.proofs.entries.change_instances.Given as goal

abbrev pub invariant-loop-instance : goal.invariant-loop-instance
invariant-loop-instance l = record {
  same : l.name.items ≡ l.initial.name.items;
  made : each (change_instance l.meant.instances.now l.meant.how (record { names = tried l.initial.name.items l.edges; values = l.values })) (take l.instance-index l.meant.numbers.now) l.initial.annotations ≡ Ok l.annotations;
}
