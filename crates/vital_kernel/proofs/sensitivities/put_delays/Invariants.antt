use Rattle.std.proofs.Common.{◌≡◌, ◌++◌, ◌∷◌, [], map, take}
use Rattle.std.specs.Prelude.{slice_get, unwrap_or}
use Rattle.std.specs.List.{filter_map}
use Rattle.vital_typed_cells.specs.Bits.{number_of}
use Rattle.vital_kernel.proofs.sensitivities.put_delays.Given as goal

abbrev pub invariant-loop-delay : goal.invariant-loop-delay
invariant-loop-delay l =
    l.all.items ≡ l.initial.all.items ++ map (λ w. filter_map (slice_get l.wires) (unwrap_or (number_of l.bits w.port) 0 ∷ [])) (take l.delay-index l.delays)
