-- The symbols of tables (IEEE 1076.4, package VITAL_Primitives), and which of them a column may have.
use Rattle.std.specs.Prelude.{ℕ, Bool, ◌==◌, ◌+◌, ◌++◌, nat_lt, List, codes, if◌then◌else◌}
use Rattle.std.specs.List.{enumerate_from, list_all, list_any}
use Rattle.vital_declarations.specs.declared.declared_type.TableType.{TableType}
use Rattle.vital_declarations.specs.declared.declared_type.TableType.TheVariants as table

-- Edge symbols stand for sets of changes.
abbrev pub edge_symbols : List ℕ
edge_symbols = codes "/\\rf^vPNpnRFEAD*"

-- A level is compared with these; an input of a state table also with its previous level.
abbrev pub level_symbols : List ℕ
level_symbols = codes "X01-B"

abbrev pub input_symbols : TableType → List ℕ
input_symbols table.Truth = level_symbols
input_symbols table.State = level_symbols ++ codes "S" ++ edge_symbols

-- A result of a state table may stay as it was.
abbrev pub result_symbols : TableType → List ℕ
result_symbols table.Truth = codes "X01Z-"
result_symbols table.State = codes "X01Z-S"

-- The columns are inputs, then states, then results.
abbrev pub symbols_of : TableType → ℕ → ℕ → ℕ → List ℕ
symbols_of t inputs states column =
    if nat_lt column inputs then input_symbols t
    else if nat_lt column (inputs + states) then level_symbols
    else result_symbols t

abbrev pub is_among : List ℕ → ℕ → Bool
is_among symbols byte = list_any (λ s. s == byte) symbols

abbrev pub allows_symbol : TableType → ℕ → ℕ → ℕ → ℕ → Bool
allows_symbol t inputs states column byte = is_among (symbols_of t inputs states column) byte

abbrev pub allows_row : TableType → ℕ → ℕ → List ℕ → Bool
allows_row t inputs states row = list_all (λ s. allows_symbol t inputs states s.0 s.1) (enumerate_from 0 row)

-- Each symbol of the rows of a table is one that its column may have, where so many columns are inputs and so many are states.
abbrev pub allows : TableType → ℕ → ℕ → List (List ℕ) → Bool
allows t inputs states rows = list_all (allows_row t inputs states) rows
