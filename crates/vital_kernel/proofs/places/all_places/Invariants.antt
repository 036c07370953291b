use Rattle.std.proofs.Common.{◌≡◌, ◌^◌, ◌<◌, map, length, take}
use Rattle.std.specs.List.{enumerate_from, flat_map}
use Rattle.vital_kernel.specs.Networks.{lent_cell, processes_of}
use Rattle.vital_kernel.specs.Places.{place_of}
use Rattle.vital_kernel.proofs.places.all_places.Given as goal

abbrev pub invariant-loop-instance : goal.invariant-loop-instance
invariant-loop-instance l = record {
  placed : l.places.items ≡ map place_of (flat_map processes_of (enumerate_from 0 (map lent_cell (take l.instance l.cells))));
  few : length l.places.items < 2 ^ 31;
}
