-- The symbols of state tables (IEEE 1076.4, package VITAL_Primitives), which hold those of truth tables, and which of them a column
-- may have.
use Rattle.std.specs.Prelude.{ℕ, Bool, ◌==◌, ◌+◌, ◌++◌, nat_lt, List, codes, if◌then◌else◌}
use Rattle.std.specs.List.{enumerate_from, list_all, list_any}

-- Edge symbols stand for sets of changes.
abbrev pub edge_symbols : List ℕ
edge_symbols = codes "/\\rf^vPNpnRFEAD*"

-- A level is compared with these; an input also with its previous level.
abbrev pub level_symbols : List ℕ
level_symbols = codes "X01-B"

abbrev pub input_symbols : List ℕ
input_symbols = level_symbols ++ codes "S" ++ edge_symbols

-- A result may stay as it was.
abbrev pub result_symbols : List ℕ
result_symbols = codes "X01Z-S"

-- The columns are inputs, then states, then results.
abbrev pub symbols_of : ℕ → ℕ → ℕ → List ℕ
symbols_of inputs states column =
    if nat_lt column inputs then input_symbols
    else if nat_lt column (inputs + states) then level_symbols
    else result_symbols

abbrev pub is_among : List ℕ → ℕ → Bool
is_among symbols byte = list_any (λ s. s == byte) symbols

abbrev pub allows_symbol : ℕ → ℕ → ℕ → ℕ → Bool
allows_symbol inputs states column byte = is_among (symbols_of inputs states column) byte

abbrev pub allows_row : ℕ → ℕ → List ℕ → Bool
allows_row inputs states row = list_all (λ s. allows_symbol inputs states s.0 s.1) (enumerate_from 0 row)

-- Each symbol of the rows of a table is one that its column may have, where so many columns are inputs and so many are states.
abbrev pub allows : ℕ → ℕ → List (List ℕ) → Bool
allows inputs states rows = list_all (allows_row inputs states) rows
