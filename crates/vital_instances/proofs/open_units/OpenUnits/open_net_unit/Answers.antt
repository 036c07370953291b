use Rattle.std.proofs.Common.{sym, ap, ◌∙◌}
use Rattle.vital_instances.specs.Contents.{contents_at, fault_in}
use Rattle.vital_instances.proofs.OpenLemmas.{net-good, net-wrong}
use Rattle.vital_instances.proofs.open_units.OpenUnits.open_net_unit.Goals as goal

pub returns-in-Some : goal.returns-in-Some
returns-in-Some c = λ judge judges.
    let same = c.self.invariant.1 ∙ c.self.view_is in
    net-wrong judge _ _ _ _ c.requires.unit c.requires.net (sym (c.in-Some.ensures ∙ ap (λ files. fault_in (contents_at files c.args.number)) same))

pub returns-in-None : goal.returns-in-None
returns-in-None c = λ judge judges.
    let same = c.self.invariant.1 ∙ c.self.view_is in
    net-good judge _ _ _ c.requires.unit c.requires.net (sym (c.in-None.ensures ∙ ap (λ files. fault_in (contents_at files c.args.number)) same))
