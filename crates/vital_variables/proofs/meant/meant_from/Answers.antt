use Rattle.vital_variables.specs.Meant.{meant_from}
use Rattle.vital_variables.proofs.MeaningLemmas.{meant}
use Rattle.vital_variables.proofs.meant.meant_from.Goals as goal

pub returns : goal.returns
unfolding meant_from
returns c = meant _ _ _ _ _ _ c.meaning.ensures c.as_slice.ensures c.own_site-site.ensures
