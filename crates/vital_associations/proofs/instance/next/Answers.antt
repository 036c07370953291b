use Rattle.std.proofs.Common.{sym, ◌∙◌, ap}
use Rattle.vital_associations.specs.Associations.{lent_result, port_map}
use Rattle.vital_associations.proofs.PortMapLemmas.{fault-next}
use Rattle.vital_associations.proofs.instance.next.Goals as goal

pub returns-in-Ok-Err-clause-next : goal.returns-in-Ok-Err-clause-next
returns-in-Ok-Err-clause-next c = λ earlier has many. fault-next (port_map c.args.port_map.now) earlier c.args.item.now _ _ (sym (c.in-Ok-Err.ensures.association earlier has many) ∙ ap lent_result c.in-Ok-Err.field-0-is) c.fault_of.ensures
