use Rattle.std.proofs.lemmas.Result.{on_ok_weaker}
use Rattle.vital_nodes.specs.declared.unit.Unit.TheVariants as units
use Rattle.vital_limits.proofs.WithinLemmas.{put-unit}
use Rattle.vital_limits.proofs.text_limits.put_of_entity.Goals as goal

pub returns : goal.returns
returns c = on_ok_weaker c.put_in_entity.result (put-unit (units.Entity c.args.entity.now) _ _) c.put_in_entity.ensures
