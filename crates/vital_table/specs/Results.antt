-- What a row of a table gives (IEEE 1076.4, package VITAL_Primitives, VitalTruthTable and VitalStateTable).
use Rattle.std.specs.Prelude.{ℕ, ◌+◌, ◌==◌, [], Option, Some, None, slice_index, slice_index_or, unwrap_or, if◌then◌else◌}
use Rattle.vital_logic.specs.declared.level.Level.{Level}
use Rattle.vital_logic.specs.declared.level.Level.TheVariants.{X}
use Rattle.vital_logic.specs.Levels.{level_of}
use Rattle.vital_table.specs.Tables.{Table}
use Rattle.vital_table.specs.Matches.{any, stays}

-- What a symbol gives for what the result was before: S leaves it as it was, - gives X, and X, 0, 1 and Z give themselves.
abbrev pub result_of : ℕ → Level → Level
result_of symbol before =
    if symbol == stays then before
    else if symbol == any then X
    else unwrap_or (level_of symbol) X

-- The symbol of a row in the column of a result. The results have the columns after the states.
abbrev pub result_symbol : Table → ℕ → ℕ → ℕ
result_symbol t row number = slice_index (slice_index_or t.rows row []) (t.inputs + t.states + number)

-- What a row gives for a result; without a row it is X.
abbrev pub result_at : Table → Option ℕ → ℕ → Level → Level
result_at t None number before = X
result_at t (Some row) number before = result_of (result_symbol t row number) before
