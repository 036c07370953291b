use Rattle.vital_package_constants.proofs.BreachLemmas.{any-seen}
use Rattle.vital_package_constants.specs.Names.{is_undeclared, nodes_of_constant}
use Rattle.vital_nodes.specs.Seen.{seen}
use Rattle.vital_package_constants.proofs.breaches.has_undeclared.Goals as goal

pub returns : goal.returns
returns c =
    any-seen (is_undeclared c.args.library.now c.args.number) seen c.args.nodes.now (nodes_of_constant c.args.object.now) _ c.requires c.is_one_undeclared.ensures
