-- Tables with a symbol that a column of a call may not have: part of L1.3.
use Rattle.std.specs.Prelude.{ℕ, Bool, false, ◌&&◌, ◌==◌, ◌++◌, List, Option, None, slice_get}
use Rattle.std.specs.List.{filter_map, flat_map, list_any}
use Rattle.std.specs.Option.{option_map_or}
use Rattle.vital_base.specs.declared.place.Place.{Place}
use Rattle.vital_declaration_clauses.specs.Regions.{Region, regions}
use Rattle.vital_declaration_clauses.specs.Scopes.{InCell}
use Rattle.vital_names.specs.Sites.{Cell, Site}
use Rattle.vital_nodes.specs.declared.decl.Decl.{Decl}
use Rattle.vital_nodes.specs.declared.decl.Decl.TheVariants as decl
use Rattle.vital_nodes.specs.declared.decl.Object.{Object}
use Rattle.vital_nodes.specs.declared.unit.Units.{Units}
use Rattle.vital_operands.specs.Faults.{is_same_place}
use Rattle.vital_operands.specs.Named.{where_holds}
use Rattle.vital_package_constants.specs.Tables.{is_wrong_in, is_wrong_package}
use Rattle.vital_table_uses.specs.declared.table_use.TableUse.{TableUse}
use Rattle.vital_table_uses.specs.declared.table_use.UsedTable.{UsedTable}
use Rattle.vital_table_uses.specs.declared.table_use.UsedTable.TheVariants as used
use Rattle.vital_uses.specs.Nodes.{sited_declarations}
use Rattle.vital_uses.specs.Sited.{Sited}
use Rattle.vital_nodes.specs.Objects.{is_constant}
use Rattle.vital_level1.specs.declared.package_names.NamedConstant.{NamedConstant}
use Rattle.vital_level1.specs.Packages.{places_where}

-- ---- constants of the cell

abbrev pub object_at : Place → Site → Object → Option (Sited Object)
object_at place site o = where_holds (is_constant o && is_same_place o.identifier.place place) (record { site = site; declaration = o })

abbrev pub constant_in : Place → Site → Decl → Option (Sited Object)
constant_in place site (decl.Object o) = object_at place site o
constant_in place site other = None

abbrev pub constant_at : Place → Sited Decl → Option (Sited Object)
constant_at place d = constant_in place d.site d.declaration

abbrev pub declared_in : Region → List (Sited Decl)
declared_in r = sited_declarations r.process r.declarations

-- The first constant of some declarations whose identifier stands at a place.
abbrev pub first_constant : Place → List (Sited Decl) → Option (Sited Object)
first_constant place ds = slice_get (filter_map (constant_at place) ds) 0

-- The constant of the cell whose identifier stands at a place. Where several do, which no cell that is read from files has, it is the first.
abbrev pub constant_of : Cell → Place → Option (Sited Object)
constant_of cell place = first_constant place (flat_map declared_in (regions cell.arch))

abbrev pub is_wrong_constant : Cell → TableUse → Sited Object → Bool
is_wrong_constant cell u o = is_wrong_in u (InCell cell o.site) o.declaration

abbrev pub is_wrong_at : Cell → TableUse → Place → Bool
is_wrong_at cell u place = option_map_or (is_wrong_constant cell u) (constant_of cell place) false

abbrev pub wrong_by : Cell → TableUse → UsedTable → Option Place
wrong_by cell u (used.Cell place) = where_holds (is_wrong_at cell u place) place
wrong_by cell u (used.Package n) = None

-- The constant of the cell that a call makes wrong, by its place.
abbrev pub wrong_use : Cell → TableUse → Option Place
wrong_use cell u = wrong_by cell u u.table

-- ---- constants of packages

abbrev pub wrong_number : List Units → TableUse → UsedTable → Option ℕ
wrong_number files u (used.Cell place) = None
wrong_number files u (used.Package n) = where_holds (is_wrong_package files u n) n

-- The constants of packages that calls make wrong, by their numbers.
abbrev pub wrong_numbers : List Units → List TableUse → List ℕ
wrong_numbers files us = filter_map (λ u. wrong_number files u u.table) us

abbrev pub is_among : List ℕ → ℕ → Bool
is_among ns n = list_any (λ m. m == n) ns

-- Where a constant with a symbol that a column of one of these calls may not have is declared, or named if it is one of a package.
abbrev pub wrong_symbols : Cell → List NamedConstant → List TableUse → List Place
wrong_symbols cell named us = filter_map (wrong_use cell) us ++ places_where (is_among (wrong_numbers cell.files us)) named
