use Rattle.vital_sdf_grammar.specs.Grammar.{grammar}
use Rattle.vital_sdf_grammar.specs.Tables.{masks, ranks, leads}
use Rattle.vital_sdf_grammar.proofs.Predictive.{masks_closed, masks_apart, ranks_lower, leads_lower}
use Rattle.vital_sdf_grammar.proofs.laws.one_reading.Goals as goal

pub returns : goal.returns
returns c kinds = c.one_reading.ensures grammar masks ranks leads masks_closed masks_apart ranks_lower leads_lower kinds
