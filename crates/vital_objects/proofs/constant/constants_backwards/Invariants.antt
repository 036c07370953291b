use Rattle.std.proofs.Common.{◌≡◌, drop, length, map, reverse, take}
use Rattle.std.specs.Prelude.{find}
use Rattle.std.specs.Iterator.Adapters.{rev_source}
use Rattle.std.specs.List.{filter_map}
use Rattle.std.specs.Option.{option_and_then}
use Rattle.std.specs.Slice.Iter.{iter_rest}
use Rattle.vital_objects.specs.Constants.{constant, value_behind}
use Rattle.vital_objects.specs.Together.{beside_lasts, is_last_declaration}
use Rattle.vital_typed_declarations.specs.Declarations.{lent_sited}
use Rattle.vital_objects.proofs.constant.constants_backwards.Given as goal

abbrev pub invariant-loop-declaration : goal.invariant-loop-declaration
invariant-loop-declaration l =
    let rest = iter_rest (rev_source l.declaration-iterator) in
    record {
      left : rest ≡ take (length rest) l.declarations;
      value : l.value ≡ option_and_then (value_behind l.reader.names.now l.reader.faults.now) (find is_last_declaration (map lent_sited (drop (length rest) l.declarations)));
      put : l.constants.items ≡ reverse (filter_map (constant l.reader.names.now l.reader.faults.now) (beside_lasts is_last_declaration (map lent_sited (drop (length rest) l.declarations))));
    }
