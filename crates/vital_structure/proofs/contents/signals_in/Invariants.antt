use Rattle.std.proofs.Common.{◌≡◌, map, take}
use Rattle.vital_structure.specs.Contents.{lent, signals_in}
use Rattle.vital_structure.specs.Signals as signals
use Rattle.vital_structure.proofs.contents.signals_in.Given as goal

abbrev pub invariant-loop-content : goal.invariant-loop-content
invariant-loop-content l = map signals.lent l.found.items ≡ signals_in (map lent (take l.content-index l.contents))
