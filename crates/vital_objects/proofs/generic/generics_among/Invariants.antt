use Rattle.std.proofs.Common.{◌≡◌, map, take}
use Rattle.std.specs.List.{filter_map}
use Rattle.vital_objects.specs.Generics.{plain_generic, timing_generic}
use Rattle.vital_typed_declarations.specs.Declarations.{lent_sited}
use Rattle.vital_objects.proofs.generic.generics_among.Given as goal

abbrev pub invariant-loop-generic : goal.invariant-loop-generic
invariant-loop-generic l = record {
  timing : l.found.timing.items ≡ filter_map (timing_generic l.reader.names.now l.reader.faults.now l.known) (map lent_sited (take l.generic-index l.generics));
  plain : l.found.plain.items ≡ filter_map (plain_generic l.reader.names.now l.reader.faults.now l.known) (map lent_sited (take l.generic-index l.generics));
}
