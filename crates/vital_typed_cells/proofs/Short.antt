-- Tables that pass no limit, and fit the calls that name them.
use Rattle.std.proofs.Common.{◌≡◌, ◌≤◌, ℕ, ◌+◌, Bool, true, false, List, [], ◌∷◌, length, Option, Some, None, refl, sym, ap, ◌∙◌, subst, arith}
use Rattle.std.specs.Prelude.{◌&&◌, ◌==◌, cond, not, nat_le, nat_lt, unwrap_or}
use Rattle.std.specs.List.{fold, list_all}
use Rattle.std.specs.Option.{option_and_then, option_map, option_map_or, option_or}
use Rattle.std.proofs.lemmas.Bool.Decides.{nat_tests}
use Rattle.vital_declaration_clauses.specs.Scopes.{Scope}
use Rattle.vital_declarations.specs.Constants.{columns_of, row_items}
use Rattle.vital_declarations.specs.declared.declared_type.TableType.{TableType}
use Rattle.vital_declarations.specs.declared.declared_type.TableType.TheVariants as table
use Rattle.vital_declarations.specs.Numbers.{range_of}
use Rattle.vital_declarations.specs.Types.{Plain, Table, Other, as_vector, table_bounds, table_type, type_of}
use Rattle.vital_limits.specs.Counts.{listed, listed_in, longer, longest}
use Rattle.vital_limits.specs.NodeLimits.{are_too_long, are_too_many, is_table_name}
use Rattle.vital_names.specs.declared.predeclared.TypeName.{TypeName}
use Rattle.vital_names.specs.declared.predeclared.TypeName.TheVariants as type
use Rattle.vital_names.specs.TypeNames.{type_named}
use Rattle.vital_nodes.specs.declared.decl.Subtype.{Subtype}
use Rattle.vital_nodes.specs.declared.expr.Actual.TheOpen.{Item-F}
use Rattle.vital_nodes.specs.declared.expr.Actual.TheViews.{out-Choice, out-Item}
use Rattle.vital_nodes.specs.declared.expr.Expr.{Expr}
use Rattle.vital_nodes.specs.declared.expr.Item.{Item as Item'}
use Rattle.vital_nodes.specs.Layers.{ItemLayer}
use Rattle.vital_operands.specs.Named.{is_table_type}
use Rattle.vital_tables.specs.Symbols.{allows}
use Rattle.vital_tables.specs.Tables.{rows_of}
use Rattle.vital_nodes.specs.Bounds.{Bounds, literal_bounds}
use Rattle.vital_nodes.specs.Items.{actual_in, listed_items, positional_in, value_in_choice}
use Rattle.vital_typed_cells.specs.Fitting.{are_parted}
use Rattle.vital_typed_cells.proofs.Rows.{RowsAre, columns_at, rows_at}
use Rattle.vital_typed_cells.proofs.Tests.{not-false}

-- ---- how many rows and columns there are

-- The items of a value, if it is a list of items.
abbrev pub items_at : Option Expr → List Item'
items_at v = option_map_or listed v []

items-by : (o : Option (List Item')) → option_map_or length o 0 ≡ length (option_map_or (λ is. is) o [])
items-by None = refl
items-by (Some is) = refl

columns-by : (o : Option (List Item')) → option_map_or columns_of o 0 ≡ columns_of (option_map_or (λ is. is) o [])
columns-by None = refl
columns-by (Some is) = refl

rows-are : (v : Option Expr) → rows_at v ≡ length (items_at v)
rows-are None = refl
rows-are (Some e) = items-by (listed_items e)

columns-are : (v : Option Expr) → columns_at v ≡ columns_of (items_at v)
columns-are None = refl
columns-are (Some e) = columns-by (listed_items e)

-- ---- the longest row

longer-by : (b : Bool) (n m : ℕ) → nat_lt n m ≡ b → (n ≤ cond b m n) × (m ≤ cond b m n)
longer-by true n m is = (grind (arith, nat_tests), omega arith)
longer-by false n m is = (omega arith, grind (arith, nat_tests))

longer-both : (n m : ℕ) → (n ≤ longer n m) × (m ≤ longer n m)
longer-both n m = longer-by (nat_lt n m) n m refl

begun-most : (n : ℕ) (is : List Item') → n ≤ fold (λ k row. longer k (length (listed_in row))) n is
begun-most n [] = omega arith
begun-most n (i ∷ is) =
    let first : n ≤ longer n (length (listed_in i)) = (longer-both n (length (listed_in i))).0 in
    let others : longer n (length (listed_in i)) ≤ fold (λ k row. longer k (length (listed_in row))) (longer n (length (listed_in i))) is = begun-most (longer n (length (listed_in i))) is in
    omega (arith, first, others)

value-row : (o : Option Expr) → option_map_or length (option_and_then listed_items o) 0 ≤ length (option_map_or listed o [])
value-row None = omega arith
value-row (Some e) = let same : option_map_or length (listed_items e) 0 ≡ length (listed e) = items-by (listed_items e) in omega (arith, same)

layer-row : (l : ItemLayer) → option_map_or length (option_and_then listed_items (positional_in l)) 0 ≤ length (option_map_or listed (actual_in l) [])
layer-row (Item-F.Others place e) = omega arith
layer-row (Item-F.Item::Open place) = omega arith
layer-row (Item-F.Positional c) = value-row (value_in_choice (out-Choice c))
layer-row (Item-F.Named a) = omega arith

columns-most : (is : List Item') → columns_of is ≤ longest is
columns-most [] = omega arith
columns-most (i ∷ is) =
    let row : option_map_or length (row_items i) 0 ≤ length (listed_in i) = layer-row (out-Item i) in
    let first : length (listed_in i) ≤ longer 0 (length (listed_in i)) = (longer-both 0 (length (listed_in i))).1 in
    let others : longer 0 (length (listed_in i)) ≤ fold (λ k r. longer k (length (listed_in r))) (longer 0 (length (listed_in i))) is = begun-most (longer 0 (length (listed_in i))) is in
    omega (arith, row, first, others)

-- ---- limits

at-most : (n m k : ℕ) → n ≤ k → nat_lt m k ≡ false → nat_le n m ≡ true
at-most n m k below passed = grind (arith, nat_tests)

-- A value that passes no limit has at most 128 items, and at most 32 in the first.
pub record IsShort (v : Option Expr) : Type 0 where
  pub few : nat_le (rows_at v) 128 ≡ true
  pub narrow : nat_le (columns_at v) 32 ≡ true

equal-least : (n m : ℕ) → n ≡ m → n ≤ m
equal-least n m is = omega arith

pub short-value : (v : Option Expr) → are_too_many (items_at v) ≡ false → are_too_long (items_at v) ≡ false → IsShort v
short-value v many long = record {
  few = at-most (rows_at v) 128 (length (items_at v)) (equal-least (rows_at v) (length (items_at v)) (rows-are v)) many;
  narrow = at-most (columns_at v) 32 (longest (items_at v)) (subst (λ n. n ≤ longest (items_at v)) (sym (columns-are v)) (columns-most (items_at v))) long;
}

-- ---- types of tables

by-type : (t : TableType) (n : Option TypeName) (p : Bool) (one : Option Bounds) (two : Option (Bounds × Bounds))
    → is_table_type t
    (unwrap_or
    (option_or (option_map (λ x. Plain x) (cond p n None))
    (option_or (option_and_then (λ b. option_and_then (λ x. as_vector x (range_of b)) n) one)
    (option_and_then (λ b. option_map (λ x. Table x (range_of b.0) (range_of b.1)) (option_and_then table_type n)) two)))
    Other) ≡ true
    → is_table_name n ≡ true
by-type t None true None None is = cc
by-type t None true None (Some b) is = cc
by-type t None true (Some a) None is = cc
by-type t None true (Some a) (Some b) is = cc
by-type t None false None None is = cc
by-type t None false None (Some b) is = cc
by-type t None false (Some a) None is = cc
by-type t None false (Some a) (Some b) is = cc
by-type t (Some type.TruthTable) p one two is = refl
by-type t (Some type.StateTable) p one two is = refl
by-type table.Truth (Some other) true one two is = cc
by-type table.State (Some other) true one two is = cc
by-type t (Some other) false None None is = cc
by-type t (Some other) false None (Some b) is = cc
by-type t (Some other) false (Some a) None is = cc
by-type t (Some other) false (Some a) (Some b) is = cc

-- A subtype is one of tables only where its name is that of a type of tables.
pub named-table : (t : TableType) (s : Subtype) → is_table_type t (type_of s) ≡ true → is_table_name (type_named s.name) ≡ true
named-table t s is = by-type t (type_named s.name) _ (literal_bounds s) (table_bounds s) is

-- ---- tables that fit

-- The rows of a table that passes no limit.
pub record IsTableOf (scope : Scope) (v : Option Expr) (rows : List (List ℕ)) : Type 0 where
  pub are : RowsAre scope v rows
  pub short : IsShort v

-- Each symbol is of its column's set where the rows are parted so.
abbrev pub IsAllowed : Scope → Option Expr → TableType → ℕ → ℕ → Type 0
IsAllowed scope v t inputs states = option_map_or (λ rows. not (allows t inputs states rows)) (option_and_then (rows_of scope) v) false ≡ false

all-four : (a b c d : Bool) → a ≡ true → b ≡ true → c ≡ true → d ≡ true → (a && b && c && d) ≡ true
all-four true true true true first second third fourth = refl
all-four a b c d first second third fourth = cc

pub fitting : (scope : Scope) (v : Option Expr) (rows : List (List ℕ)) (t : TableType) (inputs states results : ℕ) → IsTableOf scope v rows → IsAllowed scope v t inputs states → columns_at v ≡ inputs + states + results
    → are_parted t inputs states results rows ≡ true
fitting scope v rows t inputs states results is allowed columns =
    all-four (nat_le (length rows) 128) (nat_le (inputs + states + results) 32) (list_all (λ row. length row == inputs + states + results) rows) (allows t inputs states rows)
    (subst (λ n. nat_le n 128 ≡ true) (sym is.are.count) is.short.few)
    (subst (λ n. nat_le n 32 ≡ true) columns is.short.narrow)
    (subst (λ n. list_all (λ row. length row == n) rows ≡ true) columns is.are.even)
    (not-false (allows t inputs states rows) (sym (ap (λ o. option_map_or (λ r. not (allows t inputs states r)) o false) is.are.read) ∙ allowed))
