use Rattle.vital_cell.proofs.FirstLemmas.{first-kinds, first-named, first-times}
use Rattle.vital_cell.proofs.KeepLemmas.{first-keeps}
use Rattle.vital_cell.proofs.laws.slots_begin.Goals as goal

pub returns : goal.returns
returns c = λ k w checks slots distinct kept sound first. record {
  named = first-named k w checks slots distinct sound first;
  kinds = first-kinds k w checks slots distinct sound first;
  kept = first-keeps k w checks slots distinct kept sound first;
  times = first-times k w checks slots distinct sound first;
}
