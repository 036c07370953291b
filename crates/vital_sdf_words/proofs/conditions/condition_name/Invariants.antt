use Rattle.std.proofs.Common.{◌≡◌, length}
use Rattle.vital_sdf_words.specs.Conditions.{condition_name, replaced}
use Rattle.vital_sdf_words.specs.TidyNames.{tidied_after}
use Rattle.vital_sdf_words.proofs.conditions.condition_name.Given as goal

abbrev pub invariant-loop-first : goal.invariant-loop-first
invariant-loop-first l = tidied_after l.name (replaced l.rest) ≡ condition_name l.text

abbrev pub decreases-loop-first : goal.decreases-loop-first
decreases-loop-first l = length l.rest
