-- Which rows of a table match levels (IEEE 1076.4, package VITAL_Primitives, VitalTruthTable and VitalStateTable).
use Rattle.std.specs.Prelude.{ℕ, Bool, true, not, ◌&&◌, ◌==◌, List, Option, position, slice_index, if◌then◌else◌}
use Rattle.std.specs.List.{enumerate_from, list_all, zip}
use Rattle.std.specs.Option.{option_map_or}
use Rattle.vital_edges.specs.Edges.{edges_of, holds}
use Rattle.vital_logic.specs.declared.level.Level.{Level}
use Rattle.vital_logic.specs.declared.level.Level.TheVariants.{X}
use Rattle.vital_logic.specs.Levels.{byte_of}
use Rattle.vital_logic.specs.Tables.{entry, x01_table}
use Rattle.vital_table.specs.Tables.{Table}

-- The symbols -, B and S, as ASCII.
abbrev pub any : ℕ
any = 45

abbrev pub zero_or_one : ℕ
zero_or_one = 66

abbrev pub stays : ℕ
stays = 83

-- Are two levels the same?
abbrev pub same_level : Level → Level → Bool
same_level a b = byte_of a == byte_of b

-- Does a symbol match a level, which is X, 0 or 1? - matches any, B matches 0 and 1, and X, 0 and 1 match themselves.
abbrev pub level_matches : ℕ → Level → Bool
level_matches symbol level =
    if symbol == any then true
    else if symbol == zero_or_one then not (same_level level X)
    else symbol == byte_of level

-- Does a symbol match the previous and the present level of an input, which are X, 0 or 1? S matches where both are the same, an edge
-- symbol where their change is in its set, and any other symbol where it matches the present level.
abbrev pub input_matches : ℕ → Level → Level → Bool
input_matches symbol old new =
    if symbol == stays then same_level old new
    else option_map_or (λ edges. holds edges old new) (edges_of symbol) (level_matches symbol new)

-- A level without its strength: X, 0 or 1 (To_X01).
abbrev pub x01 : Level → Level
x01 level = entry x01_table level

-- From a column on, the symbols of a row match inputs, each with its previous and its present level.
abbrev pub inputs_match : ℕ → List (Level × Level) → List ℕ → Bool
inputs_match column inputs row =
    list_all (λ i. input_matches (slice_index row i.0) (x01 i.1.0) (x01 i.1.1)) (enumerate_from column inputs)

-- From a column on, the symbols of a row match states, each with its level.
abbrev pub states_match : ℕ → List Level → List ℕ → Bool
states_match column states row = list_all (λ s. level_matches (slice_index row s.0) (x01 s.1)) (enumerate_from column states)

-- The inputs have the columns from 0 on, and the states those behind them.
abbrev pub row_matches : ℕ → List Level → List Level → List Level → List ℕ → Bool
row_matches inputs old new state row = inputs_match 0 (zip old new) row && states_match inputs state row

-- The number of the first row that matches the previous and the present levels of the inputs and the levels of the states, where there
-- is one. Rows have numbers from 0 on.
abbrev pub first_row : Table → List Level → List Level → List Level → Option ℕ
first_row t old new state = position (row_matches t.inputs old new state) t.rows
