use Rattle.vital_cell.proofs.PackageLemmas.{nothing-known}
use Rattle.vital_cell.proofs.constants.worths_alone.Goals as goal

pub put_packages-requires-clause-bare : goal.put_packages-requires-clause-bare
put_packages-requires-clause-bare c = nothing-known c.args.no_names.now c.args.no_variables.now c.requires.names c.requires.variables
