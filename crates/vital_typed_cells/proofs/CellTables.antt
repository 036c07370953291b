-- The tables that a cell declares, with the rows that calls are judged by.
use Rattle.std.proofs.Common.{◌≡◌, ℕ, Bool, true, List, [], ◌++◌, map, Some, ◌∙◌}
use Rattle.std.specs.Prelude.{⊤, ◌&&◌}
use Rattle.std.specs.List.{AllByRecursion, list_any}
use Rattle.std.specs.Str.{bytes_eq}
use Rattle.std.proofs.lemmas.List.Folds.{list_any-append}
use Rattle.vital_declaration_clauses.specs.Scopes.{InCell}
use Rattle.vital_declarations.specs.declared.declared_type.TableType.{TableType}
use Rattle.vital_level1.specs.Uses.{constant_of}
use Rattle.vital_limits.specs.NodeLimits.{limits_of_declaration}
use Rattle.vital_names.specs.Declarations.{Declared, interface_of}
use Rattle.vital_names.specs.Declarations as declared
use Rattle.vital_names.specs.Sites.{Cell, Site}
use Rattle.vital_nodes.specs.declared.decl.Decl.{Decl}
use Rattle.vital_nodes.specs.declared.decl.Decl.TheVariants as decl
use Rattle.vital_nodes.specs.declared.decl.Object.{Object}
use Rattle.vital_objects.specs.declared.constant.Constant.{Constant}
use Rattle.vital_operands.specs.Named.{is_table}
use Rattle.vital_uses.specs.Sited.{Sited}
use Rattle.vital_nodes.specs.Objects.{is_constant}
use Rattle.vital_typed_cells.specs.Named.{has_rows}
use Rattle.vital_typed_cells.proofs.Found.{all-mapped, both-lists, each}
use Rattle.vital_typed_cells.proofs.Rows.{TableGood}
use Rattle.vital_typed_cells.proofs.Short.{IsTableOf}
use Rattle.vital_typed_cells.proofs.Tests.{one-true, other-true}

-- ---- declarations at their sites

-- An object that is declared is the constant of the cell that is found at its place.
abbrev pub IsFoundAt : Cell → Sited Decl → Type 0
IsFoundAt cell e = (o : Object) → e.declaration ≡ decl.Object o → is_constant o ≡ true → constant_of cell o.identifier.place ≡ Some (record { site = e.site; declaration = o })

-- The symbols that the value of a last one names are characters.
abbrev pub HasSymbols : Cell → Sited Decl → Type 0
HasSymbols cell e = (o : Object) → e.declaration ≡ decl.Object o → o.is_last ≡ true → TableGood (InCell cell e.site) o.parts.value

-- What is so of a declaration, as far as it may be a table.
pub record IsTabled (cell : Cell) (e : Sited Decl) : Type 0 where
  pub found : IsFoundAt cell e
  pub symbols : HasSymbols cell e
  pub short : limits_of_declaration e.declaration ≡ []

-- ---- tables among constants

abbrev pub named_rows : List ℕ → (List (List ℕ) → Bool) → Constant → Bool
named_rows name test k = bytes_eq k.name name && has_rows test k.value

-- A table is found at its place, has rows that pass no limit, and is among some constants with these.
pub record CellTable (cell : Cell) (cs : List Constant) (o : Object) : Type 0 where
  pub rows : List (List ℕ)
  pub site : Site
  pub here : constant_of cell o.identifier.place ≡ Some (record { site = site; declaration = o })
  pub is : IsTableOf (InCell cell site) o.parts.value rows
  pub kept : (test : List (List ℕ) → Bool) → test rows ≡ true → list_any (named_rows o.identifier.name test) cs ≡ true

abbrev pub TableValue : Cell → List Constant → Declared → Type 0
TableValue cell cs (declared.Generic i) = ⊤
TableValue cell cs (declared.Port i) = ⊤
TableValue cell cs (declared.Object o) = (t : TableType) → is_table t o ≡ true → CellTable cell cs o
TableValue cell cs (declared.Alias a) = ⊤

table-front : (cell : Cell) (cs ds : List Constant) (o : Object) → CellTable cell cs o → CellTable cell (cs ++ ds) o
table-front cell cs ds o has = record {
  rows = has.rows;
  site = has.site;
  here = has.here;
  is = has.is;
  kept = λ test is.
      list_any-append (named_rows o.identifier.name test) cs ds
      ∙ one-true (list_any (named_rows o.identifier.name test) cs) (list_any (named_rows o.identifier.name test) ds) (has.kept test is);
}

table-back : (cell : Cell) (cs ds : List Constant) (o : Object) → CellTable cell ds o → CellTable cell (cs ++ ds) o
table-back cell cs ds o has = record {
  rows = has.rows;
  site = has.site;
  here = has.here;
  is = has.is;
  kept = λ test is.
      list_any-append (named_rows o.identifier.name test) cs ds
      ∙ other-true (list_any (named_rows o.identifier.name test) cs) (list_any (named_rows o.identifier.name test) ds) (has.kept test is);
}

pub tables-front : (cell : Cell) (cs ds : List Constant) (d : Declared) → TableValue cell cs d → TableValue cell (cs ++ ds) d
tables-front cell cs ds (declared.Generic i) has = tt
tables-front cell cs ds (declared.Port i) has = tt
tables-front cell cs ds (declared.Object o) has = λ t is. table-front cell cs ds o (has t is)
tables-front cell cs ds (declared.Alias a) has = tt

pub tables-back : (cell : Cell) (cs ds : List Constant) (d : Declared) → TableValue cell ds d → TableValue cell (cs ++ ds) d
tables-back cell cs ds (declared.Generic i) has = tt
tables-back cell cs ds (declared.Port i) has = tt
tables-back cell cs ds (declared.Object o) has = λ t is. table-back cell cs ds o (has t is)
tables-back cell cs ds (declared.Alias a) has = tt

-- An interface declares no table.
pub interface-tables : (cell : Cell) (cs : List Constant) → AllByRecursion (TableValue cell cs) (interface_of cell.entity)
interface-tables cell cs =
    both-lists (TableValue cell cs) (map (λ i. declared.Generic i) cell.entity.generics) (map (λ i. declared.Port i) cell.entity.ports)
    (all-mapped (TableValue cell cs) (λ i. declared.Generic i) cell.entity.generics (each (λ i. TableValue cell cs (declared.Generic i)) (λ i. tt) cell.entity.generics))
    (all-mapped (TableValue cell cs) (λ i. declared.Port i) cell.entity.ports (each (λ i. TableValue cell cs (declared.Port i)) (λ i. tt) cell.entity.ports))
