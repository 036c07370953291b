use Rattle.std.proofs.Common.{◌∙◌, ap, map, sym}
use Rattle.std.specs.List.{list_any}
use Rattle.vital_operands.specs.Faults.{is_faulty}
use Rattle.vital_operands.proofs.Steps.{any_map}
use Rattle.vital_nodes.specs.Seen.{seen}
use Rattle.vital_operands.proofs.faults.Faults.is_in.Goals as goal

pub returns : goal.returns
returns c =
    c.has_any.ensures
    ∙ sym (any_map (is_faulty c.args.self.now) seen c.deref.result.now)
    ∙ ap (list_any (is_faulty c.args.self.now)) (ap (map seen) c.deref.ensures.value ∙ c.in_ok-nodes.ensures)
