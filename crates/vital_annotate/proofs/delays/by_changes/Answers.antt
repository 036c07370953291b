use Rattle.vital_annotate.proofs.DelayLemmas.{four-up}
use Rattle.vital_annotate.specs.Delays.{picked}
use Rattle.vital_annotate.proofs.delays.by_changes.Goals as goal

pub returns-in-len4-up : goal.returns-in-len4-up
returns-in-len4-up c =
    four-up (picked c.args.corner) c.args.values.now _ _ _ _ _ _ _ c.in-len4-up.len_at_least
    c.picked-in-len4-up.ensures c.picked-in-len4-up-2.ensures c.picked-in-len4-up-3.ensures c.picked-in-len4-up-4.ensures
    c.picked_at.ensures c.picked_at-in-len4-up.ensures
