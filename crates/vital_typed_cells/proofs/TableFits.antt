-- Constants that are tables fit the calls that name them.
use Rattle.std.proofs.Common.{◌≡◌, ℕ, ◌+◌, true, false, List, sym, ap, ◌∙◌}
use Rattle.std.specs.Option.{option_map_or}
use Rattle.vital_declaration_clauses.specs.Scopes.{InCell}
use Rattle.vital_declarations.specs.declared.declared_type.TableType.{TableType}
use Rattle.vital_declarations.specs.Types.{type_of}
use Rattle.vital_level1.specs.Uses.{is_wrong_constant}
use Rattle.vital_names.specs.Sites.{Cell}
use Rattle.vital_nodes.specs.declared.decl.Object.{Object}
use Rattle.vital_objects.specs.declared.constant.Constant.{Constant}
use Rattle.vital_operands.specs.declared.tree.ConstantName.TheVariants as constant
use Rattle.vital_operands.specs.Named.{is_table_type}
use Rattle.vital_typed_cells.specs.Packages.{sound_values}
use Rattle.vital_table_uses.specs.declared.table_use.UsedTable.TheVariants as used
use Rattle.vital_table_uses.specs.TableUses.{use_of}
use Rattle.vital_typed_cells.specs.Fitting.{are_parted, is_table}
use Rattle.vital_typed_cells.proofs.CellTables.{CellTable}
use Rattle.vital_typed_cells.proofs.NamedConstants.{Known, known-table}
use Rattle.vital_typed_cells.proofs.PackageRows.{rows-fit}
use Rattle.vital_typed_cells.proofs.Rows.{columns_at}
use Rattle.vital_typed_cells.proofs.Short.{fitting}
use Rattle.vital_typed_cells.proofs.Uses.{Fits}

pub cell-fits : (cell : Cell) (cs : List Constant) (o : Object) (t : TableType) (inputs states results : ℕ) → CellTable cell cs o → Fits cell (use_of t inputs states (used.Cell o.identifier.place)) → columns_at o.parts.value ≡ inputs + states + results
    → is_table t inputs states results cs (sound_values cell.files) (constant.Cell o.identifier.name) ≡ true
cell-fits cell cs o t inputs states results has fit columns =
    has.kept (are_parted t inputs states results)
    (fitting (InCell cell has.site) o.parts.value has.rows t inputs states results has.is
    (sym (ap (λ q. option_map_or (is_wrong_constant cell (use_of t inputs states (used.Cell o.identifier.place))) q false) has.here) ∙ fit) columns)

pub package-fits : (cell : Cell) (cs : List Constant) (n : ℕ) (o : Object) (t : TableType) (inputs states results : ℕ) → Known cell n o → is_table_type t (type_of o.parts.subtype) ≡ true → Fits cell (use_of t inputs states (used.Package n))
    → columns_at o.parts.value ≡ inputs + states + results → is_table t inputs states results cs (sound_values cell.files) (constant.Package n) ≡ true
package-fits cell cs n o t inputs states results has typed fit columns =
    rows-fit cell.files (sound_values cell.files) cs n o t inputs states results has.at (known-table cell n o t has typed) (fit has.free.symbols) columns
