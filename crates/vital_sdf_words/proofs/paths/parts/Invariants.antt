use Rattle.std.proofs.Common.{◌≡◌, ◌++◌, [], length}
use Rattle.vital_sdf_words.specs.Paths.{unescaped}
use Rattle.vital_sdf_words.proofs.PathLemmas.{parts_after}
use Rattle.vital_sdf_words.proofs.paths.parts.Given as goal

abbrev pub invariant-loop-unit : goal.invariant-loop-unit
invariant-loop-unit l = l.found.items ++ parts_after l.divider l.part.items (unescaped l.rest) ≡ parts_after l.divider [] (unescaped l.word)

abbrev pub decreases-loop-unit : goal.decreases-loop-unit
decreases-loop-unit l = length l.rest
