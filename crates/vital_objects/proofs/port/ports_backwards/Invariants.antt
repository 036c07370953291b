use Rattle.std.proofs.Common.{◌≡◌, drop, length, map, reverse, take}
use Rattle.std.specs.Prelude.{find}
use Rattle.std.specs.Iterator.Adapters.{rev_source}
use Rattle.std.specs.Option.{option_and_then}
use Rattle.std.specs.Slice.Iter.{iter_rest}
use Rattle.vital_objects.specs.Ports.{default_behind, port}
use Rattle.vital_objects.specs.Together.{beside_lasts, is_last_interface}
use Rattle.vital_typed_declarations.specs.Declarations.{lent_sited}
use Rattle.vital_objects.proofs.port.ports_backwards.Given as goal

abbrev pub invariant-loop-port : goal.invariant-loop-port
invariant-loop-port l =
    let rest = iter_rest (rev_source l.port-iterator) in
    record {
      left : rest ≡ take (length rest) l.ports;
      default : l.default ≡ option_and_then (default_behind l.reader.names.now l.reader.faults.now) (find is_last_interface (map lent_sited (drop (length rest) l.ports)));
      put : l.found.items ≡ reverse (map (port l.reader.names.now l.reader.faults.now) (beside_lasts is_last_interface (map lent_sited (drop (length rest) l.ports))));
    }
