use Rattle.std.proofs.Common.{◌≡◌, take}
use Rattle.vital_cell.specs.Scopes.{package_worths}
use Rattle.vital_typed_cells.specs.PackageWorths.{packages_worth}
use Rattle.vital_cell.proofs.constants.put_packages.Given as goal

abbrev pub invariant-loop-value : goal.invariant-loop-value
invariant-loop-value l = package_worths l.worths.items ≡ packages_worth (take l.value-index l.values)
