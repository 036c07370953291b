-- Constants by their names, and the tables that they are.
use Rattle.std.proofs.Common.{◌≡◌, ℕ, true, false, List, [], ◌∷◌, ◌++◌, map, replicate, cond, refl, sym, ◌∙◌, ap, subst, append-nil, append_assoc, inl, inr}
use Rattle.std.specs.Prelude.{Bool, ◌||◌, ◌&&◌, find, Option, Some, None}
use Rattle.std.specs.List.{AllByRecursion, AllZip, IsDistinct, list_any}
use Rattle.std.specs.Option.{option_map, option_map_or}
use Rattle.std.specs.Str.{bytes_eq}
use Rattle.std.proofs.lemmas.Bool.{false≢true}
use Rattle.std.proofs.lemmas.List.{length-replicate}
use Rattle.std.proofs.lemmas.Map.Keys.{IsDistinct-head, IsDistinct-tail}
use Rattle.std.proofs.lemmas.Slice.Eq.{bytes_eq-Decides}
use Rattle.vital_cell.proofs.CellListLemmas.{any-swapped, either, zip-push}
use Rattle.vital_cell.proofs.SoundLemmas.{first-holds}
use Rattle.vital_declarations.specs.declared.declared_type.TableType.TheVariants as table
use Rattle.vital_cell.specs.Environments.{NamedWorth, constant_worth}
use Rattle.vital_logic.specs.declared.level.Level.TheVariants.{U}
use Rattle.vital_objects.specs.declared.constant.Constant.{Constant}
use Rattle.vital_objects.specs.declared.constant.ConstantValue.{ConstantValue}
use Rattle.vital_objects.specs.declared.constant.ConstantValue.TheVariants as constants
use Rattle.vital_objects.specs.declared.package_value.PackageValue.{PackageValue}
use Rattle.vital_objects.specs.declared.package_value.PackageValue.TheVariants as packaged
use Rattle.vital_objects.specs.PackageValues.{value_at}
use Rattle.vital_operands.specs.declared.tree.ConstantName.{ConstantName}
use Rattle.vital_operands.specs.declared.tree.ConstantName.TheVariants as constant
use Rattle.vital_typed_cells.specs.Fitting.{are_parted, is_table as is_table'}
use Rattle.vital_typed_cells.specs.Named.{constant_is, has_package_rows, has_rows}
use Rattle.vital_cell.specs.Scopes.{Scope}
use Rattle.vital_cell.specs.Sound.{has_state_table, has_table, rows_named}
use Rattle.vital_cell.specs.Values.{named_worth, with_constants, worths_in}
use Rattle.vital_table.specs.Tables.{is_table}
use Rattle.vital_typed_cells.specs.Expressions.{Names, rows_of}
use Rattle.vital_typed_cells.specs.PackageWorths.{packages_worth, rows_in, worth_at}
use Rattle.vital_typed_cells.proofs.PackageLemmas.{rows-at}
use Rattle.vital_typed_cells.proofs.TableLemmas.{parted-table}

-- ---- what constants are worth

-- The rows of a value that is a table.
abbrev pub rows_in_value : ConstantValue → List (List ℕ)
rows_in_value (constants.Table rows) = rows
rows_in_value other = []

-- What a constant is worth has its name and its rows.
pub record IsWorthOf (k : Constant) (n : NamedWorth) : Type 0 where
  pub name : n.name ≡ k.name
  pub rows : rows_of (Some n.worth) ≡ rows_in_value k.value

worth-rows : (e : Names) (v : ConstantValue) → rows_of (Some (constant_worth e v)) ≡ rows_in_value v
worth-rows e (constants.Level t) = refl
worth-rows e (constants.Boolean t) = refl
worth-rows e (constants.Time t) = refl
worth-rows e (constants.Delay d t) = refl
worth-rows e (constants.Table rows) = refl

pub worth-of : (s : Scope) (k : Constant) → IsWorthOf k (named_worth s k)
worth-of s k = record { name = refl; rows = worth-rows _ k.value }

-- The constants behind those that are known.
pub worths-behind : (s : Scope) (ns : List NamedWorth) (known ks : List Constant) → AllZip IsWorthOf known ns → AllZip IsWorthOf (known ++ ks) (worths_in s ns ks)
worths-behind s ns known [] are = let P : List Constant → Type 0 = λ xs. AllZip IsWorthOf xs ns in subst P (sym (append-nil known)) are
worths-behind s ns known (k ∷ ks) are =
    let more = ns ++ named_worth (with_constants s ns) k ∷ [] in
    let P : List Constant → Type 0 = λ xs. AllZip IsWorthOf xs (worths_in s more ks) in
    subst P (append_assoc known (k ∷ []) ks) (worths-behind s more (known ++ k ∷ []) ks (zip-push IsWorthOf known ns k (named_worth (with_constants s ns) k) are (worth-of (with_constants s ns) k)))

-- ---- one of a name

value-rows : (test : List (List ℕ) → Bool) (v : ConstantValue) → has_rows test v ≡ true → test (rows_in_value v) ≡ true
value-rows test (constants.Table rows) is = is
value-rows test (constants.Level t) is = absurd (false≢true is)
value-rows test (constants.Boolean t) is = absurd (false≢true is)
value-rows test (constants.Time t) is = absurd (false≢true is)
value-rows test (constants.Delay d t) is = absurd (false≢true is)

-- Where a name is apart from others, none of these is of it.
none-later : (test : ConstantValue → Bool) (first name : List ℕ) (ks : List Constant) → AllByRecursion (λ n. bytes_eq first n ≡ false) (map (λ k. k.name) ks) → bytes_eq first name ≡ true → list_any (λ k. bytes_eq k.name name && test k.value) ks ≡ true → ⊥
none-later test first name [] apart same is = false≢true is
none-later test first name (k ∷ ks) apart same is =
    elim (either (bytes_eq k.name name && test k.value) (list_any (λ q. bytes_eq q.name name && test q.value) ks) is) [
      | inl here ↦
          let k-is : k.name ≡ name = (bytes_eq-Decides k.name name).0 (first-holds (bytes_eq k.name name) (test k.value) here) in
          false≢true (sym apart.0 ∙ ap (bytes_eq first) k-is ∙ same)
      | inr later ↦ none-later test first name ks apart.1 same later
    ]

abbrev found_rows : List ℕ → List NamedWorth → List (List ℕ)
found_rows name ns = rows_of (option_map (λ n. n.worth) (find (λ n. bytes_eq n.name name) ns))

abbrev any_rows : (List (List ℕ) → Bool) → List ℕ → List Constant → Bool
any_rows test name ks = list_any (λ k. bytes_eq k.name name && has_rows test k.value) ks

by-name : (test : List (List ℕ) → Bool) (name : List ℕ) (k : Constant) (ks : List Constant) (n : NamedWorth) (ns : List NamedWorth) (b : Bool) → bytes_eq k.name name ≡ b → IsWorthOf k n → AllByRecursion (λ m. bytes_eq k.name m ≡ false) (map (λ q. q.name) ks)
    → (any_rows test name ks ≡ true → test (found_rows name ns) ≡ true) → ((b && has_rows test k.value) || any_rows test name ks) ≡ true
    → test (rows_of (option_map (λ m. m.worth) (cond b (Some n) (find (λ m. bytes_eq m.name name) ns)))) ≡ true
by-name test name k ks n ns true same worth apart others is =
    elim (either (has_rows test k.value) (any_rows test name ks) is) [
      | inl here ↦ ap test worth.rows ∙ value-rows test k.value here
      | inr later ↦ absurd (none-later (has_rows test) k.name name ks apart same later)
    ]
by-name test name k ks n ns false same worth apart others is = others is

found-rows : (test : List (List ℕ) → Bool) (name : List ℕ) (ks : List Constant) (ns : List NamedWorth) → AllZip IsWorthOf ks ns → IsDistinct bytes_eq (map (λ k. k.name) ks) → any_rows test name ks ≡ true → test (found_rows name ns) ≡ true
found-rows test name [] [] are distinct is = absurd (false≢true is)
found-rows test name [] (n ∷ ns) are distinct is = absurd are
found-rows test name (k ∷ ks) [] are distinct is = absurd are
found-rows test name (k ∷ ks) (n ∷ ns) are distinct is =
    let names = map (λ (q : Constant). q.name) ks in
    ap (λ m. test (rows_of (option_map (λ q. q.worth) (cond (bytes_eq m name) (Some n) (find (λ q. bytes_eq q.name name) ns))))) are.0.name
    ∙ by-name test name k ks n ns (bytes_eq k.name name) refl are.0 (IsDistinct-head bytes_eq k.name names distinct)
    (found-rows test name ks ns are.1 (IsDistinct-tail bytes_eq k.name names distinct)) is

-- ---- constants of the cell and of packages

-- A scope knows these constants, whose names differ, and those of packages.
pub record Knows (ps : List (Option PackageValue)) (ks : List Constant) (s : Scope) : Type 0 where
  pub packages : s.packages ≡ packages_worth ps
  pub worths : AllZip IsWorthOf ks s.constants
  pub distinct : IsDistinct bytes_eq (map (λ k. k.name) ks)

rows-parted : (test : List (List ℕ) → Bool) (o : Option PackageValue) → option_map_or (has_package_rows test) o false ≡ true → test (option_map_or rows_in o []) ≡ true
rows-parted test None is = absurd (false≢true is)
rows-parted test (Some (packaged.Table rows)) is = is
rows-parted test (Some (packaged.Level t)) is = absurd (false≢true is)
rows-parted test (Some (packaged.Boolean t)) is = absurd (false≢true is)
rows-parted test (Some (packaged.Time t)) is = absurd (false≢true is)
rows-parted test (Some (packaged.Delay t)) is = absurd (false≢true is)

-- The constants of a scope come in either order.
named-rows : (test : List (List ℕ) → Bool) (ps : List (Option PackageValue)) (first others : List Constant) (s : Scope) (name : ConstantName) → Knows ps (first ++ others) s
    → constant_is (has_rows test) (has_package_rows test) (others ++ first) ps name ≡ true → test (rows_named s name) ≡ true
named-rows test ps first others s (constant.Cell name) knows is =
    found-rows test name (first ++ others) s.constants knows.worths knows.distinct (any-swapped (λ k. bytes_eq k.name name && has_rows test k.value) others first is)
named-rows test ps first others s (constant.Package n) knows is =
    ap (λ ws. test (rows_of (worth_at ws n))) knows.packages ∙ ap test (rows-at ps n) ∙ rows-parted test (value_at ps n) is

-- ---- tables

truth-table : (rows : List (List ℕ)) (inputs results : ℕ) → are_parted table.Truth inputs 0 results rows ≡ true → is_table (record { inputs = inputs; states = 0; results = results; rows = rows }) ≡ true
truth-table rows inputs results is =
    let long = length-replicate inputs U in
    sym (ap (λ n. is_table (record { inputs = n; states = 0; results = results; rows = rows })) long)
    ∙ parted-table rows (replicate inputs U) results (ap (λ n. are_parted table.Truth n 0 results rows) long ∙ is)

state-table : (rows : List (List ℕ)) (inputs states results : ℕ) → are_parted table.State inputs states results rows ≡ true → is_table (record { inputs = inputs; states = states; results = results; rows = rows }) ≡ true
state-table rows inputs states results is = is

pub truth-tabled : (ps : List (Option PackageValue)) (first others : List Constant) (s : Scope) → Knows ps (first ++ others) s → (name : ConstantName) (n m : ℕ) → is_table' table.Truth n 0 m (others ++ first) ps name ≡ true → has_table s name n m ≡ true
truth-tabled ps first others s knows name n m is = truth-table (rows_named s name) n m (named-rows (are_parted table.Truth n 0 m) ps first others s name knows is)

pub state-tabled : (ps : List (Option PackageValue)) (first others : List Constant) (s : Scope) → Knows ps (first ++ others) s → (name : ConstantName) (n m r : ℕ) → is_table' table.State n m r (others ++ first) ps name ≡ true → has_state_table s name n m r ≡ true
state-tabled ps first others s knows name n m r is = state-table (rows_named s name) n m r (named-rows (are_parted table.State n m r) ps first others s name knows is)
