use Rattle.vital_cell.proofs.CompiledLemmas.{compiled-stands}
use Rattle.vital_cell.proofs.cell_laws.compiled_stands.Goals as goal

pub returns : goal.returns
returns c = compiled-stands c.steps_stand.ensures c.steps_keep_kinds.ensures c.kinds_suit.ensures c.slots_begin.ensures
