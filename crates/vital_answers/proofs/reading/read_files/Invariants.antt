use Rattle.vital_answers.proofs.FilesRead.{AreReadFirst}
use Rattle.vital_answers.proofs.reading.read_files.Given as goal

abbrev pub invariant-loop-number : goal.invariant-loop-number
invariant-loop-number l = AreReadFirst l.sources 4_194_304 l.number l.room (record { units = l.units.items; delays = l.delays.items })
