use Rattle.std.proofs.Common.{◌∙◌, ap}
use Rattle.std.specs.Prelude.{is_some}
use Rattle.std.proofs.lemmas.Bool.{false≢true}
use Rattle.vital_cell.proofs.EdgeLemmas.{edge-there}
use Rattle.vital_cell.proofs.numbered_steps.edges_at.Goals as goal

pub unreachable-requires : goal.unreachable-requires
unreachable-requires c = false≢true (ap is_some c.in-None.ensures ∙ edge-there c.args.symbol c.requires)
