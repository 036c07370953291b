use Rattle.std.proofs.Common.{◌≡◌, ◌++◌, map}
use Rattle.vital_vhdl.specs.Together.{earlier_object}
use Rattle.vital_vhdl.proofs.readers.declarations.earlier_objects.Given as goal

abbrev pub invariant-loop-identifier : goal.invariant-loop-identifier
invariant-loop-identifier l = l.found ≡ l.fn.found ++ map (earlier_object l.class l.parts) l.yielded
