use Rattle.std.proofs.Common.{◌≡◌, take}
use Rattle.std.specs.Prelude.{Ok}
use Rattle.vital_annotate.specs.Annotations.{each, group_entered}
use Rattle.vital_annotate.proofs.source.Source.enter_file.Given as goal

abbrev pub invariant-loop-group : goal.invariant-loop-group
invariant-loop-group l = each (group_entered l.self.instances.now l.self.corner) (take l.group-index l.groups) l.initial.annotations ≡ Ok l.annotations
