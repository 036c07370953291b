use Rattle.std.proofs.Common.{◌≡◌, take}
use Rattle.std.specs.Prelude.{Ok}
use Rattle.vital_annotate.specs.Annotations.{each, file_entered}
use Rattle.vital_annotate.proofs.source.Source.enter_files.Given as goal

abbrev pub invariant-loop-file : goal.invariant-loop-file
invariant-loop-file l = each (file_entered l.self.instances.now l.self.corner) (take l.file-index l.files) l.initial.annotations ≡ Ok l.annotations
