-- What tables of VitalTruthTable give (IEEE 1076.4, package VITAL_Primitives).
use Rattle.std.specs.Prelude.{ℕ, List, [], map, Option}
use Rattle.std.specs.List.{range_with_len, slice_index_or}
use Rattle.vital_logic.specs.declared.level.Level.{Level}
use Rattle.vital_logic.specs.declared.level.Level.TheVariants.{U, X}
use Rattle.vital_table.specs.Matches.{first_row}
use Rattle.vital_table.specs.Results.{result_at}
use Rattle.vital_table.specs.Tables.{Table}

-- So many levels: those that are there, and U behind them.
abbrev pub fitted : ℕ → List Level → List Level
fitted n levels = map (λ i. slice_index_or levels i U) (range_with_len 0 n)

-- What a row gives, or X for each result where there is none.
abbrev pub results_by : Table → Option ℕ → List Level
results_by t row = map (λ number. result_at t row number X) (range_with_len 0 t.results)

-- What the first row gives that matches inputs.
abbrev pub results_for : Table → List Level → List Level
results_for t inputs = results_by t (first_row t inputs inputs [])
