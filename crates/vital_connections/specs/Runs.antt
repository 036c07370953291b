-- Bits of ports or signals that stand side by side.
use Rattle.std.specs.Prelude.{ℕ, ◌-◌, List, [], map, Option, Some, None}
use Rattle.std.specs.List.{flat_map, range_with_len}
use Rattle.vital_connections.specs.declared.run.Run.{Run}

-- The bits of a port or signal from one on and before another one, each by the number of this and how far it is from the left.
abbrev pub bits_between : ℕ → ℕ → ℕ → List (ℕ × ℕ)
bits_between object first end = map (λ offset. (object, offset)) (range_with_len first (end - first))

abbrev pub bits_of_run : Run → List (ℕ × ℕ)
bits_of_run r = bits_between r.object r.first r.end

abbrev pub bits_of_option : Option Run → List (ℕ × ℕ)
bits_of_option None = []
bits_of_option (Some r) = bits_of_run r

abbrev pub bits_of_runs : List Run → List (ℕ × ℕ)
bits_of_runs runs = flat_map bits_of_run runs
