use Rattle.std.proofs.Common.{map, ◌∙◌, ap}
use Rattle.vital_annotate.specs.Instances.{at_path}
use Rattle.vital_annotate.proofs.instances.CellInstances.at_parts.Goals as goal

pub returns : goal.returns
returns c =
    c.in_ok-numbers.ensures
    ∙ c.in_ok-number.ensures
    ∙ ap (at_path c.args.self.now) (ap (map (λ part. part.now)) c.deref.ensures.value ∙ c.in_ok-parts.ensures)
