-- Tables as rows of symbols (IEEE 1076.4, package VITAL_Primitives, VitalTruthTableType and VitalStateTableType).
use Rattle.std.specs.Prelude.{ℕ, Bool, ◌+◌, ◌==◌, ◌&&◌, nat_le, List, length}
use Rattle.std.specs.List.{list_all}
use Rattle.vital_table.specs.declared.table.Table.{Table as Table'}
use Rattle.vital_table.specs.Symbols.{allows}

-- How many of the columns are inputs, how many after them are states and how many after these are results; and the symbols of each
-- row. A truth table has no states.
pub record Table : Type 0 where
  pub inputs : ℕ
  pub states : ℕ
  pub results : ℕ
  pub rows : List (List ℕ)

-- What is borrowed of it.
abbrev pub lent : Table' → Table
lent t = record { inputs = t.inputs; states = t.states; results = t.results; rows = t.rows.now }

abbrev pub columns : Table → ℕ
columns t = t.inputs + t.states + t.results

-- It has at most 128 rows and 32 columns, each row has a symbol for each column, and each symbol is one that its column may have.
abbrev pub is_table : Table → Bool
is_table t =
    nat_le (length t.rows) 128
    && nat_le (columns t) 32
    && list_all (λ row. length row == columns t) t.rows
    && allows t.inputs t.states t.rows
