-- Tables that fit the calls which name them.
use Rattle.std.specs.Prelude.{ℕ, Bool, ◌&&◌, ◌==◌, ◌+◌, nat_le, List, length, Option}
use Rattle.std.specs.List.{list_all}
use Rattle.vital_declarations.specs.declared.declared_type.TableType.{TableType}
use Rattle.vital_operands.specs.declared.tree.ConstantName.{ConstantName}
use Rattle.vital_tables.specs.Symbols.{allows}
use Rattle.vital_objects.specs.declared.constant.Constant.{Constant}
use Rattle.vital_objects.specs.declared.package_value.PackageValue.{PackageValue}
use Rattle.vital_typed_cells.specs.Named.{constant_is, has_package_rows, has_rows}

-- Rows are at most 128 of at most 32 symbols; each has so many inputs, states and results, and each symbol is one that its column may have.
abbrev pub are_parted : TableType → ℕ → ℕ → ℕ → List (List ℕ) → Bool
are_parted t inputs states results rows =
    nat_le (length rows) 128 && nat_le (inputs + states + results) 32
    && list_all (λ row. length row == inputs + states + results) rows && allows t inputs states rows

-- A name is that of a table with such rows.
abbrev pub is_table : TableType → ℕ → ℕ → ℕ → List Constant → List (Option PackageValue) → ConstantName → Bool
is_table t inputs states results cs ps name =
    constant_is (has_rows (are_parted t inputs states results)) (has_package_rows (are_parted t inputs states results)) cs ps name
