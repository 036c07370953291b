use Rattle.std.proofs.Common.{◌∙◌, ap}
use Rattle.vital_level0.specs.Steps.{parts_of_name}
use Rattle.vital_level0.proofs.SplitLemmas.{found-is, none-is}
use Rattle.vital_level0.proofs.split.split_generic.Goals as goal

pub returns-clause-found : goal.returns-clause-found
returns-clause-found c =
    found-is c.args.ports.now c.args.name.now _ (c.split_name.ensures ∙ ap (parts_of_name c.args.ports.now) c.as_slice.ensures)

pub returns-clause-none : goal.returns-clause-none
returns-clause-none c =
    none-is c.args.ports.now c.args.name.now _ (c.split_name.ensures ∙ ap (parts_of_name c.args.ports.now) c.as_slice.ensures)
