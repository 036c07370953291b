-- The rows of tables that are constants as Level 1 allows them.
use Rattle.std.proofs.Common.{◌≡◌, ℕ, suc, Bool, true, false, List, [], ◌∷◌, length, map, Option, Some, None, refl, sym, ap, ◌∙◌, subst, arith}
use Rattle.std.specs.Prelude.{⊤, ◌&&◌, ◌||◌, ◌==◌, cond, is_some, IfSome, IsSome}
use Rattle.std.specs.List.{AllByRecursion, list_all}
use Rattle.std.specs.Option.{option_and_then, option_map, option_map_or, option_or}
use Rattle.std.proofs.lemmas.Bool.Decides.{nat_tests}
use Rattle.vital_declaration_clauses.specs.GoodConstants.{are_rows, fits, is_good_plain, is_good_value, is_row, is_symbol, is_symbol_declared, is_symbol_item, is_symbol_meant, is_symbol_type, names_symbol}
use Rattle.vital_declaration_clauses.specs.Scopes.{Scope, meaning_from}
use Rattle.vital_declarations.specs.Constants.{character, columns_of, row_items}
use Rattle.vital_declarations.specs.declared.declared_type.TableType.{TableType}
use Rattle.vital_declarations.specs.declared.declared_type.TableType.TheVariants as table
use Rattle.vital_declarations.specs.Numbers.{Range}
use Rattle.vital_declarations.specs.Types.{DeclaredType, Plain, Vector, Table, Other}
use Rattle.vital_names.specs.declared.predeclared.TypeName.{TypeName}
use Rattle.vital_names.specs.declared.predeclared.TypeName.TheVariants as type
use Rattle.vital_names.specs.Declarations.{Declared}
use Rattle.vital_names.specs.Declarations as declared
use Rattle.vital_names.specs.Meanings.{Meaning}
use Rattle.vital_names.specs.Meanings as meanings
use Rattle.vital_nodes.specs.declared.decl.Object.{Object}
use Rattle.vital_nodes.specs.declared.expr.Expr.{Expr}
use Rattle.vital_nodes.specs.declared.expr.Item.{Item as Item'}
use Rattle.vital_nodes.specs.declared.identifier.Identifier.{Identifier}
use Rattle.vital_nodes.specs.Nodes.{Node, Declaration, Interface, Concurrent, Sequential, Expression, Item, Name}
use Rattle.vital_nodes.specs.Walk.{nodes_of}
use Rattle.vital_operands.specs.Items.{all_some}
use Rattle.vital_operands.specs.Named.{is_table_type}
use Rattle.vital_tables.specs.Tables.{rows_of, rows_of_items, symbol_at, symbol_in, symbol_meant, symbol_named, symbol_of_constant, symbol_of_declared, symbols_of_items}
use Rattle.vital_nodes.specs.Items.{listed_items, positional_value}
use Rattle.vital_nodes.specs.Names.{identifier_of}
use Rattle.vital_typed_cells.proofs.Outcomes.{if-and-then}
use Rattle.vital_typed_cells.proofs.ExprTests.{number-is}
use Rattle.vital_typed_cells.proofs.Closed.{Within}
use Rattle.vital_typed_cells.proofs.Found.{weaker}
use Rattle.vital_typed_cells.proofs.ItemNodes.{ItemsWithin, identifier-within, listed-within, positional-within}
use Rattle.vital_typed_cells.proofs.Lists.{all-both}
use Rattle.vital_typed_cells.proofs.Tests.{both-true, first-true, second-true}

-- ---- symbols

-- The value of a constant of VitalTableSymbolType is a character.
abbrev pub SymbolGood : Object → Type 0
SymbolGood o = is_symbol o ≡ true → IsSome (option_and_then character o.parts.value)

abbrev pub DeclaredGood : Declared → Type 0
DeclaredGood (declared.Generic i) = ⊤
DeclaredGood (declared.Port i) = ⊤
DeclaredGood (declared.Object o) = SymbolGood o
DeclaredGood (declared.Alias a) = ⊤

abbrev pub MeaningGood : Meaning → Type 0
MeaningGood (meanings.Declared d) = DeclaredGood d
MeaningGood (meanings.Constant n o) = SymbolGood o
MeaningGood (meanings.Predeclared w) = ⊤

abbrev pub NameGood : Scope → Identifier → Type 0
NameGood scope i = IfSome (meaning_from scope i.name) MeaningGood

if-there : {A : Type 0} (b : Bool) (o : Option A) → b ≡ true → IsSome o → IsSome (cond b o None)
if-there true o is there = there
if-there false o is there = cc

constant-symbol : (o : Object) → SymbolGood o → is_symbol o ≡ true → IsSome (symbol_of_constant o)
constant-symbol o good is = if-there (is_symbol o) (option_and_then character o.parts.value) is (good is)

declared-symbol : (d : Declared) → DeclaredGood d → is_symbol_declared d ≡ true → IsSome (symbol_of_declared d)
declared-symbol (declared.Generic i) good is = cc
declared-symbol (declared.Port i) good is = cc
declared-symbol (declared.Object o) good is = constant-symbol o good is
declared-symbol (declared.Alias a) good is = cc

meant-symbol : (m : Meaning) → MeaningGood m → is_symbol_meant m ≡ true → IsSome (symbol_meant m)
meant-symbol (meanings.Declared d) good is = declared-symbol d good is
meant-symbol (meanings.Constant n o) good is = constant-symbol o good is
meant-symbol (meanings.Predeclared w) good is = cc

some-symbol : (m : Option Meaning) → IfSome m MeaningGood → option_map_or is_symbol_meant m false ≡ true → IsSome (option_and_then symbol_meant m)
some-symbol None good is = cc
some-symbol (Some m) good is = meant-symbol m good is

named-symbol : (scope : Scope) (o : Option Identifier) → IfSome o (NameGood scope) → option_map_or is_symbol_meant (option_and_then (λ i. meaning_from scope i.name) o) false ≡ true
    → IsSome (option_and_then (λ i. option_and_then symbol_meant (meaning_from scope i.name)) o)
named-symbol scope None good is = cc
named-symbol scope (Some i) good is = some-symbol (meaning_from scope i.name) good is

either-there : {A : Type 0} (o q : Option A) (b : Bool) → (b ≡ true → IsSome q) → (is_some o || b) ≡ true → IsSome (option_or o q)
either-there None q b there is = there is
either-there (Some x) q b there is = refl

-- ---- rows

-- The symbols that an item of a row, and all items of one, name.
abbrev pub ValueGood : Scope → Expr → Type 0
ValueGood scope e = IfSome (identifier_of e) (NameGood scope)

abbrev pub ItemGood : Scope → Item' → Type 0
ItemGood scope i = IfSome (positional_value i) (ValueGood scope)

abbrev pub RowGood : Scope → Item' → Type 0
RowGood scope i = IfSome (row_items i) (AllByRecursion (ItemGood scope))

abbrev pub TableGood : Scope → Option Expr → Type 0
TableGood scope v = IfSome v (λ e. IfSome (listed_items e) (AllByRecursion (RowGood scope)))

item-by : (scope : Scope) (o : Option Expr) → IfSome o (ValueGood scope) → option_map_or (λ e. is_some (character e) || names_symbol scope e) o false ≡ true → IsSome (option_and_then (symbol_in scope) o)
item-by scope None good is = cc
item-by scope (Some e) good is = either-there (character e) (symbol_named scope e) (names_symbol scope e) (named-symbol scope (identifier_of e) good) is

item-symbol : (scope : Scope) (i : Item') → ItemGood scope i → is_symbol_item scope i ≡ true → IsSome (symbol_at scope i)
item-symbol scope i good is = item-by scope (positional_value i) good is

some-value : {A : Type 0} (o : Option A) → IsSome o → (x : A) × (o ≡ Some x)
some-value None there = absurd (cc)
some-value (Some x) there = (x, refl)

all-true : {A : Type 0} (test : A → Bool) (xs : List A) → list_all test xs ≡ true → AllByRecursion (λ x. test x ≡ true) xs
all-true test [] is = tt
all-true test (x ∷ xs) is = (first-true (test x) (list_all test xs) is, all-true test xs (second-true (test x) (list_all test xs) is))

all-there : {A B : Type 0} (f : A → Option B) (xs : List A) → AllByRecursion (λ x. IsSome (f x)) xs → (ys : List B) × ((all_some (map f xs) ≡ Some ys) × (length ys ≡ length xs))
all-there f [] all = ([], (refl, refl))
all-there f (x ∷ xs) all =
    let first = some-value (f x) all.0 in
    let others = all-there f xs all.1 in (
      first.0 ∷ others.0,
      (
        ap (λ o. option_and_then (λ y. option_map (λ ys. y ∷ ys) (all_some (map f xs))) o) first.1 ∙ ap (option_map (λ ys. first.0 ∷ ys)) others.1.0,
        ap suc others.1.1,
      ),
    )

symbols-there : (scope : Scope) (is : List Item') → AllByRecursion (ItemGood scope) is → list_all (is_symbol_item scope) is ≡ true
    → (bytes : List ℕ) × ((symbols_of_items scope is ≡ Some bytes) × (length bytes ≡ length is))
symbols-there scope is good all =
    all-there (symbol_at scope) is
    (weaker (λ i. ItemGood scope i × (is_symbol_item scope i ≡ true)) (λ i. IsSome (symbol_at scope i)) (λ i both. item-symbol scope i both.0 both.1) is
    (all-both (ItemGood scope) (λ i. is_symbol_item scope i ≡ true) is good (all-true (is_symbol_item scope) is all)))

row-by : (scope : Scope) (n : ℕ) (o : Option (List Item')) → IfSome o (AllByRecursion (ItemGood scope)) → option_map_or (λ symbols. (length symbols == n) && list_all (is_symbol_item scope) symbols) o false ≡ true
    → (bytes : List ℕ) × ((option_and_then (symbols_of_items scope) o ≡ Some bytes) × (length bytes ≡ n))
row-by scope n None good is = absurd (cc)
row-by scope n (Some is') good is =
    let made = symbols-there scope is' good (second-true (length is' == n) (list_all (is_symbol_item scope) is') is) in
    (made.0, (made.1.0, made.1.1 ∙ number-is (length is') n (first-true (length is' == n) (list_all (is_symbol_item scope) is') is)))

same-length : (n m : ℕ) → n ≡ m → (n == m) ≡ true
same-length n m is = grind (arith, nat_tests)

-- Rows of so many symbols.
abbrev pub RowsOf : Scope → ℕ → List Item' → Type 0
RowsOf scope n is =
    (rows : List (List ℕ)) × ((rows_of_items scope is ≡ Some rows) × ((length rows ≡ length is) × (list_all (λ row. length row == n) rows ≡ true)))

rows-there : (scope : Scope) (n : ℕ) (is : List Item') → AllByRecursion (RowGood scope) is → list_all (is_row scope n) is ≡ true → RowsOf scope n is
rows-there scope n [] good all = ([], (refl, (refl, refl)))
rows-there scope n (i ∷ is) good all =
    let first = row-by scope n (row_items i) good.0 (first-true (is_row scope n i) (list_all (is_row scope n) is) all) in
    let others = rows-there scope n is good.1 (second-true (is_row scope n i) (list_all (is_row scope n) is) all) in (
      first.0 ∷ others.0,
      (
        ap (λ o. option_and_then (λ y. option_map (λ ys. y ∷ ys) (rows_of_items scope is)) o) first.1.0 ∙ ap (option_map (λ ys. first.0 ∷ ys)) others.1.0,
        (ap suc others.1.1.0, both-true (length first.0 == n) (list_all (λ row. length row == n) others.0) (same-length (length first.0) n first.1.1) others.1.1.1),
      ),
    )

-- ---- tables

-- How many items a value has, and how many its first one.
abbrev pub rows_at : Option Expr → ℕ
rows_at v = option_map_or length (option_and_then listed_items v) 0

abbrev pub columns_at : Option Expr → ℕ
columns_at v = option_map_or columns_of (option_and_then listed_items v) 0

-- What the rows of a value are.
pub record RowsAre (scope : Scope) (v : Option Expr) (rows : List (List ℕ)) : Type 0 where
  pub read : option_and_then (rows_of scope) v ≡ Some rows
  pub count : length rows ≡ rows_at v
  pub even : list_all (λ row. length row == columns_at v) rows ≡ true

table-by : (scope : Scope) (e : Expr) (o : Option (List Item')) → listed_items e ≡ o → IfSome o (AllByRecursion (RowGood scope)) → option_map_or (are_rows scope) o false ≡ true
    → (rows : List (List ℕ)) × RowsAre scope (Some e) rows
table-by scope e None is good are = absurd (cc)
table-by scope e (Some items) is good are =
    let made = rows-there scope (columns_of items) items good are in (
      made.0,
      record {
        read = ap (option_and_then (rows_of_items scope)) is ∙ made.1.0;
        count = made.1.1.0 ∙ sym (ap (λ q. option_map_or length q 0) is);
        even = subst (λ q. list_all (λ row. length row == option_map_or columns_of q 0) made.0 ≡ true) (sym is) made.1.1.1;
      },
    )

plain-rows : (scope : Scope) (t : TableType) (n : TypeName) (e : Expr) → is_table_type t (Plain n) ≡ true → is_good_plain scope n e ≡ true → option_map_or (are_rows scope) (listed_items e) false ≡ true
plain-rows scope t type.TruthTable e is good = good
plain-rows scope t type.StateTable e is good = good
plain-rows scope table.Truth other e is good = cc
plain-rows scope table.State other e is good = cc

sized-rows : (scope : Scope) (rows columns : Range) (o : Option (List Item')) → option_map_or (λ is. are_rows scope is && fits rows columns is) o false ≡ true → option_map_or (are_rows scope) o false ≡ true
sized-rows scope rows columns None good = good
sized-rows scope rows columns (Some is) good = first-true (are_rows scope is) (fits rows columns is) good

value-rows : (scope : Scope) (t : TableType) (type : DeclaredType) (e : Expr) → is_table_type t type ≡ true → is_good_value scope type e ≡ true → option_map_or (are_rows scope) (listed_items e) false ≡ true
value-rows scope t (Plain n) e is good = plain-rows scope t n e is good
value-rows scope t (Vector r) e is good = cc
value-rows scope t (Table u rows columns) e is good = sized-rows scope rows columns (listed_items e) good
value-rows scope t Other e is good = cc

-- The rows of a constant of a type of tables.
pub good-rows : (scope : Scope) (t : TableType) (type : DeclaredType) (v : Option Expr) → TableGood scope v → is_table_type t type ≡ true → option_map_or (is_good_value scope type) v false ≡ true
    → (rows : List (List ℕ)) × RowsAre scope v rows
good-rows scope t type None named is good = absurd (cc)
good-rows scope t type (Some e) named is good = table-by scope e (listed_items e) refl named (value-rows scope t type e is good)

plain-symbol : (scope : Scope) (n : TypeName) (e : Expr) → is_symbol_type (Plain n) ≡ true → is_good_plain scope n e ≡ true → IsSome (character e)
plain-symbol scope type.TableSymbol e is good = good
plain-symbol scope other e is good = cc

value-symbol : (scope : Scope) (t : DeclaredType) (e : Expr) → is_symbol_type t ≡ true → is_good_value scope t e ≡ true → IsSome (character e)
value-symbol scope (Plain n) e is good = plain-symbol scope n e is good
value-symbol scope (Vector r) e is good = cc
value-symbol scope (Table u rows columns) e is good = cc
value-symbol scope Other e is good = cc

-- The character of a constant of the type of symbols.
pub good-symbol : (scope : Scope) (t : DeclaredType) (v : Option Expr) → is_symbol_type t ≡ true → option_map_or (is_good_value scope t) v false ≡ true → IsSome (option_and_then character v)
good-symbol scope t None is good = cc
good-symbol scope t (Some e) is good = value-symbol scope t e is good

-- ---- from the nodes of a value

-- What the name at a node means.
abbrev pub SymbolAt : Scope → Node → Type 0
SymbolAt scope (Declaration d) = ⊤
SymbolAt scope (Interface i) = ⊤
SymbolAt scope (Concurrent k) = ⊤
SymbolAt scope (Sequential k) = ⊤
SymbolAt scope (Expression e) = ⊤
SymbolAt scope (Item i) = ⊤
SymbolAt scope (Name r) = NameGood scope r.identifier

more : {A : Type 0} (P Q : A → Type 0) (o : Option A) → IfSome o P → ((x : A) → P x → Q x) → IfSome o Q
more P Q None has step = tt
more P Q (Some x) has step = step x has

value-good : (scope : Scope) (e : Expr) → Within (SymbolAt scope) (Expression e) → ValueGood scope e
value-good scope e all = identifier-within (SymbolAt scope) (NameGood scope) e (λ r has. has) all

item-good : (scope : Scope) (i : Item') → Within (SymbolAt scope) (Item i) → ItemGood scope i
item-good scope i all = more (λ e. Within (SymbolAt scope) (Expression e)) (ValueGood scope) (positional_value i) (positional-within (SymbolAt scope) i all) (value-good scope)

row-good : (scope : Scope) (i : Item') → Within (SymbolAt scope) (Item i) → RowGood scope i
row-good scope i all =
    if-and-then (λ e. Within (SymbolAt scope) (Expression e)) (AllByRecursion (ItemGood scope)) listed_items (positional_value i) (positional-within (SymbolAt scope) i all)
    (λ e within. more (ItemsWithin (SymbolAt scope)) (AllByRecursion (ItemGood scope)) (listed_items e) (listed-within (SymbolAt scope) e within)
    (λ is each. weaker (λ j. Within (SymbolAt scope) (Item j)) (ItemGood scope) (item-good scope) is each))

-- All symbols that the nodes of a value name are characters.
pub table-good : (scope : Scope) (v : Option Expr) → IfSome v (λ e. AllByRecursion (SymbolAt scope) (nodes_of (Expression e))) → TableGood scope v
table-good scope v all =
    more (λ e. Within (SymbolAt scope) (Expression e)) (λ e. IfSome (listed_items e) (AllByRecursion (RowGood scope))) v all
    (λ e within. more (ItemsWithin (SymbolAt scope)) (AllByRecursion (RowGood scope)) (listed_items e) (listed-within (SymbolAt scope) e within)
    (λ is each. weaker (λ i. Within (SymbolAt scope) (Item i)) (RowGood scope) (row-good scope) is each))
