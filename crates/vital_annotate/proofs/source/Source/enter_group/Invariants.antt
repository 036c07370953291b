use Rattle.std.proofs.Common.{◌≡◌, take}
use Rattle.std.specs.Prelude.{Ok}
use Rattle.vital_annotate.specs.Annotations.{each, entered}
use Rattle.vital_annotate.proofs.source.Source.enter_group.Given as goal

abbrev pub invariant-loop-entry : goal.invariant-loop-entry
invariant-loop-entry l = each (λ e. entered l.self.instances.now l.self.corner l.group e.place e.kind) (take l.entry-index l.entries) l.initial.annotations ≡ Ok l.annotations
