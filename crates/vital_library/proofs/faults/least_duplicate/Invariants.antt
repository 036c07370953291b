use Rattle.std.proofs.Common.{◌≡◌, take, map}
use Rattle.std.specs.List.{list_any}
use Rattle.vital_nodes.specs.declared.unit.Unit.{Unit as Unit'}
use Rattle.vital_library.specs.Faults.{duplicate, duplicates, least_of, shares_name}
use Rattle.vital_library.specs.Names.{is_declared}
use Rattle.vital_library.specs.Positions.{units_in}
use Rattle.vital_library.proofs.faults.least_duplicate.Given as goal

abbrev pub invariant-loop-at : goal.invariant-loop-at
invariant-loop-at l = record {
  names : (w : Unit') → is_declared l.names w ≡ list_any (λ v. shares_name v w) (units_in (take l.at-index l.units));
  least : l.least ≡ least_of (map duplicate (duplicates (units_in (take l.at-index l.units))));
}
