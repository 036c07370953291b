-- The rows of a constant of a package that is a table, where it breaks no clause and passes no limit.
use Rattle.std.proofs.Common.{◌≡◌, ℕ, ◌+◌, Bool, true, false, List, [], Option, Some, refl, sym, ap, ◌∙◌}
use Rattle.std.specs.Prelude.{◌&&◌, ◌||◌, cond, slice_get}
use Rattle.std.specs.Option.{option_map_or}
use Rattle.vital_declaration_clauses.specs.Scopes.{InPackage}
use Rattle.vital_declarations.specs.declared.declared_type.TableType.{TableType}
use Rattle.vital_declarations.specs.Types.{type_of}
use Rattle.vital_library.specs.Constants.{constants_of}
use Rattle.vital_limits.specs.declared.packages.ConstantLimits.{ConstantLimits}
use Rattle.vital_limits.specs.NodeLimits.{are_too_long, are_too_many, is_long_table, is_table_type as is_table_type_name}
use Rattle.vital_nodes.specs.declared.decl.Object.{Object}
use Rattle.vital_nodes.specs.declared.expr.Item.{Item as Item'}
use Rattle.vital_nodes.specs.declared.unit.Units.{Units}
use Rattle.vital_objects.specs.declared.constant.Constant.{Constant}
use Rattle.vital_objects.specs.declared.package_value.PackageValue.{PackageValue}
use Rattle.vital_objects.specs.declared.package_value.PackageValue.TheVariants as worth
use Rattle.vital_objects.specs.PackageValues.{value_at}
use Rattle.vital_operands.specs.declared.tree.ConstantName.TheVariants as constant
use Rattle.vital_operands.specs.Named.{is_table_type}
use Rattle.vital_package_constants.specs.Tables.{is_wrong_in, is_wrong_package}
use Rattle.vital_table_uses.specs.declared.table_use.UsedTable.TheVariants as used
use Rattle.vital_table_uses.specs.TableUses.{use_of}
use Rattle.vital_nodes.specs.Objects.{is_constant}
use Rattle.vital_typed_cells.specs.Fitting.{are_parted, is_table}
use Rattle.vital_typed_cells.specs.Named.{has_package_rows}
use Rattle.vital_typed_cells.proofs.PackageLimits.{IsShortIf}
use Rattle.vital_typed_cells.proofs.Packages.{IsKnown}
use Rattle.vital_typed_cells.proofs.Rows.{columns_at}
use Rattle.vital_typed_cells.proofs.Short.{IsTableOf, fitting, items_at, named-table, short-value}

-- It is worth rows, and passes no limit.
abbrev pub HasRows : List Units → List (Option PackageValue) → ℕ → Object → Type 0
HasRows files known n o = (rows : List (List ℕ)) × ((value_at known n ≡ Some (worth.Table rows)) × (IsTableOf (InPackage files n) o.parts.value rows × (is_long_table o ≡ false)))

-- What is no constant has no rows.
none-long : (b p : Bool) (is : List Item') → are_too_many (cond p is []) ≡ false → are_too_long (cond p is []) ≡ false → (are_too_many (cond (b && p) is []) || are_too_long (cond (b && p) is [])) ≡ false
none-long false p is many long = refl
none-long true p is many long = ap (λ b. b || are_too_long (cond p is [])) many ∙ long

pub rows-known : (files : List Units) (known : List (Option PackageValue)) (n : ℕ) (o : Object) (t : TableType) (l : ConstantLimits) → IsKnown files n o.parts (value_at known n) → IsShortIf o.parts l → l.rows ≡ false → l.columns ≡ false
    → is_table_type t (type_of o.parts.subtype) ≡ true → HasRows files known n o
rows-known files known n o t l has short rows columns typed =
    let made = has.table t typed in
    let named : is_table_type_name o.parts.subtype.name ≡ true = named-table t o.parts.subtype typed in (
      made.0,
      (
        made.1.0,
        (
          record {
            are = made.1.1;
            short =
                short-value o.parts.value (sym (ap (λ b. are_too_many (cond b (items_at o.parts.value) [])) named) ∙ short.rows rows)
                (sym (ap (λ b. are_too_long (cond b (items_at o.parts.value) [])) named) ∙ short.columns columns);
          },
          none-long (is_constant o) (is_table_type_name o.parts.subtype.name) (items_at o.parts.value) (short.rows rows) (short.columns columns),
        ),
      ),
    )

-- They fit a call that makes the table not wrong.
pub rows-fit : (files : List Units) (known : List (Option PackageValue)) (cs : List Constant) (n : ℕ) (o : Object) (t : TableType) (inputs states results : ℕ) → slice_get (constants_of files) n ≡ Some o → HasRows files known n o
    → is_wrong_package files (use_of t inputs states (used.Package n)) n ≡ false → columns_at o.parts.value ≡ inputs + states + results → is_table t inputs states results cs known (constant.Package n) ≡ true
rows-fit files known cs n o t inputs states results at has fit columns =
    ap (λ w. option_map_or (has_package_rows (are_parted t inputs states results)) w false) has.1.0
    ∙ fitting (InPackage files n) o.parts.value has.0 t inputs states results has.1.1.0
    (sym (ap (λ q. option_map_or (is_wrong_in (use_of t inputs states (used.Package n)) (InPackage files n)) q false) at) ∙ fit) columns
