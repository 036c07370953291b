use Rattle.std.proofs.Common.{◌≡◌, map}
use Rattle.std.specs.List.{range_with_len}
use Rattle.vital_logic.specs.declared.level.Level.TheVariants.{X}
use Rattle.vital_table.specs.Results.{result_at}
use Rattle.vital_typed_cells.proofs.truth_table.results_of_row.Given as goal

abbrev pub invariant-loop-number : goal.invariant-loop-number
invariant-loop-number l = l.found.items ≡ map (λ number. result_at l.masks l.row number X) (range_with_len 0 l.number)
