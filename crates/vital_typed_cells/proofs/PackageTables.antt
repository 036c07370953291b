-- The tables of calls in the value of a constant of a package are in the scope of constants before it.
use Rattle.std.proofs.Common.{◌≡◌, ℕ, Bool, true, false, List, [], Option, Some, None, refl, sym, ap, ◌∙◌}
use Rattle.std.specs.Prelude.{◌&&◌, cond, not, slice_get, take, IfSome}
use Rattle.std.specs.List.{AllByRecursion}
use Rattle.std.specs.Option.{option_map, option_map_or, option_or}
use Rattle.vital_declarations.specs.declared.declared_type.TableType.TheVariants as table
use Rattle.vital_declarations.specs.Types.{type_of}
use Rattle.vital_expr.specs.Vectors.{length_of}
use Rattle.vital_library.specs.Constants.{constants_of}
use Rattle.vital_limits.specs.ConstantLimits.{named_at}
use Rattle.vital_limits.specs.NodeLimits.{is_long_table}
use Rattle.vital_names.specs.declared.predeclared.Predeclared.{Predeclared}
use Rattle.vital_names.specs.Meanings.{constant_named, constants}
use Rattle.vital_names.specs.Meanings as meanings
use Rattle.vital_names.specs.Words.{predeclared}
use Rattle.vital_nodes.specs.declared.decl.Object.{Object}
use Rattle.vital_nodes.specs.declared.expr.Expr.{Expr}
use Rattle.vital_nodes.specs.declared.unit.Units.{Units}
use Rattle.vital_nodes.specs.Nodes.{Expression}
use Rattle.vital_nodes.specs.Walk.{nodes_of}
use Rattle.vital_objects.specs.declared.package_value.PackageValue.{PackageValue}
use Rattle.vital_objects.specs.PackageValues.{at_package}
use Rattle.vital_operands.specs.declared.tree.ConstantName.TheVariants as constant
use Rattle.vital_operands.specs.declared.tree.VectorExpr.{VectorExpr}
use Rattle.vital_operands.specs.Named.{columns_of_value, is_table, is_table_type}
use Rattle.vital_package_constants.specs.Tables.{is_wrong_package, makes_wrong, makes_wrong_at}
use Rattle.vital_table_uses.specs.declared.table_use.TableUse.{TableUse}
use Rattle.vital_table_uses.specs.declared.table_use.UsedTable.TheVariants as used
use Rattle.vital_table_uses.specs.TableUses.{truth_use_at, truth_use_with, use_of}
use Rattle.vital_nodes.specs.Objects.{is_constant}
use Rattle.vital_typed_cells.specs.Calls.{HasTable, HasTables}
use Rattle.vital_typed_cells.specs.SoundDeclarations.{names_in_packages}
use Rattle.vital_typed_cells.proofs.CallTables.{HasMeant, TablesMeant, expression-tables}
use Rattle.vital_typed_cells.proofs.Found.{weaker}
use Rattle.vital_typed_cells.proofs.Lookups.{IsAt}
use Rattle.vital_typed_cells.proofs.PackageNames.{HasFree, named-is}
use Rattle.vital_typed_cells.proofs.PackageRows.{HasRows, rows-fit}
use Rattle.vital_typed_cells.proofs.Tests.{second-true}
use Rattle.vital_typed_cells.proofs.TruthTables.{with-none}

-- A constant that is a table is found at its number, and is worth rows.
abbrev pub TableAt : List Units → List (Option PackageValue) → ℕ → Object → Type 0
TableAt files known k o = is_table_type table.Truth (type_of o.parts.subtype) ≡ true → (slice_get (constants_of files) k ≡ Some o) × HasRows files known k o

-- A call that makes the table not wrong which it uses.
abbrev IsRight : List Units → TableUse → Type 0
IsRight files u = makes_wrong files u u.table ≡ false

-- Of a table that passes no limit it is asked whether a call makes it wrong.
short-right : (files : List Units) (u : TableUse) (k : ℕ) (o : Object) → slice_get (constants_of files) k ≡ Some o → is_long_table o ≡ false → makes_wrong files u (used.Package k) ≡ false → is_wrong_package files u k ≡ false
short-right files u k o at short right = sym (ap (λ b. not b && is_wrong_package files u k) (ap (λ q. option_map_or is_long_table q false) at ∙ short)) ∙ right

constant-table : (files : List Units) (known : List (Option PackageValue)) (k : ℕ) (o : Object) (b : Bool) (w : Option VectorExpr) → (b ≡ true → (slice_get (constants_of files) k ≡ Some o) × HasRows files known k o)
    → IfSome (truth_use_with (cond b (Some (used.Package k)) None) (option_map length_of w)) (IsRight files) → HasTable (names_in_packages known) (cond b (Some (constant.Package k, columns_of_value o)) None) w
constant-table files known k o false w has right = tt
constant-table files known k o true None has right = tt
constant-table files known k o true (Some u) has right = λ results there are.
    rows-fit files known [] k o table.Truth (length_of u) 0 results (has refl).0 (has refl).1
    (short-right files (use_of table.Truth (length_of u) 0 (used.Package k)) k o (has refl).0 (has refl).1.1.1.1 right) (with-none (length_of u) results (columns_of_value o) are)

meant-table : (files : List Units) (known : List (Option PackageValue)) (o : Option (ℕ × Object)) (w : Option Predeclared) → IfSome o (λ c. TableAt files known c.0 c.1)
    → HasMeant (names_in_packages known) (IsRight files) (option_or (option_map (λ c. meanings.Constant c.0 c.1) o) (option_map (λ q. meanings.Predeclared q) w))
meant-table files known None None has = λ v right. tt
meant-table files known None (Some p) has = λ v right. tt
meant-table files known (Some c) w has = λ v right.
    constant-table files known c.0 c.1 (is_table table.Truth c.1) v (λ is. has (second-true (is_constant c.1) (is_table_type table.Truth (type_of c.1.parts.subtype)) is)) right

tables-meant : (files : List Units) (n : ℕ) (os : List Object) (Free : ℕ → Type 0) (known : List (Option PackageValue)) → HasFree os Free (TableAt files known) → AllByRecursion (IsAt 0 os) (take n (constants files))
    → TablesMeant (names_in_packages known) (at_package files n) (λ v. IfSome (named_at files n v) Free) (IsRight files)
tables-meant files n os Free known has at = λ r free.
    meant-table files known (constant_named r.identifier.name (take n (constants files))) (predeclared r.identifier.name) (named-is files n r.identifier.name os Free (TableAt files known) has at free)

right-use : (files : List Units) (o : Option TableUse) → option_map_or (λ u. makes_wrong files u u.table) o false ≡ false → IfSome o (IsRight files)
right-use files None right = tt
right-use files (Some u) right = right

-- The tables of the calls in a value are there where no call makes one wrong.
pub value-tables : (files : List Units) (n : ℕ) (os : List Object) (Free : ℕ → Type 0) (known : List (Option PackageValue)) (e : Expr) → HasFree os Free (TableAt files known) → AllByRecursion (IsAt 0 os) (take n (constants files))
    → AllByRecursion (λ v. IfSome (named_at files n v) Free) (nodes_of (Expression e)) → AllByRecursion (λ v. makes_wrong_at files (at_package files n) v ≡ false) (nodes_of (Expression e))
    → HasTables (names_in_packages known) (at_package files n) (Expression e)
value-tables files n os Free known e has at free right =
    expression-tables (names_in_packages known) (at_package files n) (λ v. IfSome (named_at files n v) Free) (IsRight files) e (tables-meant files n os Free known has at) free
    (weaker (λ v. makes_wrong_at files (at_package files n) v ≡ false) (λ v. IfSome (truth_use_at (at_package files n) v) (IsRight files)) (λ v is. right-use files (truth_use_at (at_package files n) v) is) (nodes_of (Expression e)) right)
