use Rattle.std.proofs.Common.{sym, ◌∙◌, ap}
use Rattle.vital_sdf_words.specs.TidyNames.{tidied_after}
use Rattle.vital_sdf_words.proofs.ReplacementLemmas.{replaced-row}
use Rattle.vital_sdf_words.proofs.conditions.condition_name.Goals as goal

pub loop-first-preserved-in-Some-replacement_at : goal.loop-first-preserved-in-Some-replacement_at
loop-first-preserved-in-Some-replacement_at c =
    let l = c.loop-first in
    let row = c.in-Some-replacement_at.replacement.now in
    let facts = c.in-Some-replacement_at.ensures in
    let read = replaced-row l.rest.now (row.0.now, row.1.now) facts.row facts.some facts.within in
    c.in_ok-extend-in-Some-replacement_at.ensures _ ∙ ap (tidied_after l.name) (sym read) ∙ l.invariant
