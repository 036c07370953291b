-- A table that is parted as a truth table is a table, and its columns may have its symbols.
use Rattle.std.proofs.Common.{◌≡◌, ℕ, Bool, true, false, cond, List, [], ◌∷◌, ◌++◌, length, refl, ap, ◌∙◌}
use Rattle.std.specs.Prelude.{◌&&◌, ◌||◌, ◌==◌, ◌+◌, nat_le, nat_lt, codes}
use Rattle.std.specs.List.{enumerate_from, list_all, list_any}
use Rattle.std.proofs.lemmas.List.Folds.{list_any-append}
use Rattle.vital_declarations.specs.declared.declared_type.TableType.TheVariants as table
use Rattle.vital_logic.specs.declared.level.Level.{Level}
use Rattle.vital_typed_cells.specs.Fitting.{are_parted}
use Rattle.vital_table.specs.Symbols as symbols
use Rattle.vital_table.specs.Tables.{is_table}
use Rattle.vital_tables.specs.Symbols as of_types
use Rattle.vital_typed_cells.specs.Expressions.{truth_table}

all-weaker : {A : Type 0} (p q : A → Bool) (weaker : (x : A) → p x ≡ true → q x ≡ true) (xs : List A) → list_all p xs ≡ true → list_all q xs ≡ true
all-weaker p q weaker [] holds = refl
all-weaker p q weaker (x ∷ xs) holds = both-weaker (p x) (q x) (list_all p xs) (list_all q xs) (weaker x) (all-weaker p q weaker xs) holds
  where
    both-weaker : (a b c d : Bool) → (a ≡ true → b ≡ true) → (c ≡ true → d ≡ true) → (a && c) ≡ true → (b && d) ≡ true
    both-weaker true b c d first second is = ap (λ x. x && d) (first refl) ∙ second is
    both-weaker false b c d first second is = absurd (cc)

or-first : (a b : Bool) → a ≡ true → (a || b) ≡ true
or-first a b is = ap (λ x. x || b) is

among-more : (byte : ℕ) (xs ys : List ℕ) → list_any (λ s. s == byte) xs ≡ true → list_any (λ s. s == byte) (xs ++ ys) ≡ true
among-more byte xs ys is = list_any-append (λ s. s == byte) xs ys ∙ or-first (list_any (λ s. s == byte) xs) (list_any (λ s. s == byte) ys) is

symbol-allowed : (inputs column byte : ℕ) → of_types.allows_symbol table.Truth inputs 0 column byte ≡ true → symbols.allows_symbol inputs 0 column byte ≡ true
symbol-allowed inputs column byte holds = by_column (nat_lt column inputs) (nat_lt column (inputs + 0)) holds
  where
    by_column : (i s : Bool) → of_types.is_among (cond i of_types.level_symbols (cond s of_types.level_symbols (codes "X01Z-"))) byte ≡ true → symbols.is_among (cond i symbols.input_symbols (cond s symbols.level_symbols symbols.result_symbols)) byte ≡ true
    by_column true s holds = among-more byte (codes "X01-B") (codes "S" ++ symbols.edge_symbols) holds
    by_column false true holds = holds
    by_column false false holds = among-more byte (codes "X01Z-") (codes "S") holds

row-allowed : (inputs : ℕ) (row : List ℕ) → of_types.allows_row table.Truth inputs 0 row ≡ true → symbols.allows_row inputs 0 row ≡ true
row-allowed inputs row = all-weaker (λ s. of_types.allows_symbol table.Truth inputs 0 s.0 s.1) (λ s. symbols.allows_symbol inputs 0 s.0 s.1) (λ s. symbol-allowed inputs s.0 s.1) (enumerate_from 0 row)

rows-allowed : (inputs : ℕ) (rows : List (List ℕ)) → of_types.allows table.Truth inputs 0 rows ≡ true → symbols.allows inputs 0 rows ≡ true
rows-allowed inputs rows = all-weaker (of_types.allows_row table.Truth inputs 0) (symbols.allows_row inputs 0) (row-allowed inputs) rows

last-weaker : (a b c d e : Bool) → (d ≡ true → e ≡ true) → (a && b && c && d) ≡ true → (a && b && c && e) ≡ true
last-weaker true true true d e weaker is = weaker is
last-weaker true true false d e weaker is = is
last-weaker true false c d e weaker is = is
last-weaker false b c d e weaker is = is

pub parted-table : (rows : List (List ℕ)) (inputs : List Level) (results : ℕ) → are_parted table.Truth (length inputs) 0 results rows ≡ true → is_table (truth_table rows inputs results) ≡ true
parted-table rows inputs results =
    let n = length inputs + 0 + results in
    last-weaker (nat_le (length rows) 128) (nat_le n 32) (list_all (λ row. length row == n) rows) (of_types.allows table.Truth (length inputs) 0 rows) (symbols.allows (length inputs) 0 rows) (rows-allowed (length inputs) rows)
