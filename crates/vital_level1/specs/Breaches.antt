-- All breaches of the clauses of Level 1 of VITAL (IEEE 1076.4) in a cell, and the first of them.
use Rattle.std.specs.Prelude.{ℕ, List, ◌++◌, map, Option, if◌then◌else◌}
use Rattle.std.specs.List.{reduce}
use Rattle.std.specs.Ordering.{is_lt}
use Rattle.vital_base.specs.declared.breach.Breach.{Breach}
use Rattle.vital_base.specs.declared.place.Place.{Place}
use Rattle.vital_base.specs.Breaches.{compare}
use Rattle.vital_call_clauses.specs.Clauses.{clause_14}
use Rattle.vital_declaration_clauses.specs.Clauses as declarations
use Rattle.vital_drivers.specs.Clauses as drivers
use Rattle.vital_names.specs.Sites.{Cell}
use Rattle.vital_package_constants.specs.declared.breaches.ConstantBreaches.{ConstantBreaches}
use Rattle.vital_package_constants.specs.Breaches.{constant_breaches}
use Rattle.vital_statements.specs.Clauses as statements
use Rattle.vital_uses.specs.Reads.{clause_8}
use Rattle.vital_uses.specs.Undeclared.{clause_16}
use Rattle.vital_variables.specs.SecondUses.{clause_13}
use Rattle.vital_level1.specs.declared.package_names.PackageClause.TheVariants as clause
use Rattle.vital_level1.specs.Forms.{broken_forms, table_uses}
use Rattle.vital_level1.specs.declared.package_names.NamedConstant.{NamedConstant}
use Rattle.vital_level1.specs.Packages.{breaks, named_constants, places_where}
use Rattle.vital_level1.specs.Uses.{wrong_symbols}

-- The clause of a number is broken at each of some places.
abbrev pub broken : ℕ → List Place → List Breach
broken number places = map (λ p. record { place = p; clause = record { level = 1; number = number } }) places

-- The clauses that speak of the declarations of regions: of the architecture, its blocks and its processes.
abbrev pub region_breaches : Cell → List Breach
region_breaches cell =
    broken 3 (declarations.clause_3 cell) ++ broken 4 (declarations.clause_4 cell) ++ broken 9 (declarations.clause_9 cell) ++ broken 17 (declarations.clause_17 cell)

-- Those that speak of other declarations.
abbrev pub declaration_breaches : Cell → List Breach
declaration_breaches cell = broken 2 (declarations.clause_2 cell) ++ broken 18 (declarations.clause_18 cell)

-- Those that speak of the kinds and the order of statements, and of what they drive.
abbrev pub statement_breaches : Cell → List Breach
statement_breaches cell =
    broken 1 (statements.clause_1 cell) ++ broken 5 (statements.clause_5 cell) ++ broken 6 (drivers.clause_6 cell) ++ broken 7 (statements.clause_7 cell)

-- Those that speak of the statements of processes.
abbrev pub process_breaches : Cell → List Breach
process_breaches cell = broken 10 (statements.clause_10 cell) ++ broken 11 (statements.clause_11 cell) ++ broken 12 (drivers.clause_12 cell)

-- Those that speak of declarations, statements and drivers alone.
abbrev pub plain_breaches : Cell → List Breach
plain_breaches cell = region_breaches cell ++ declaration_breaches cell ++ statement_breaches cell ++ process_breaches cell

-- Those that speak of names and calls.
abbrev pub name_breaches : Cell → List Breach
name_breaches cell = broken 8 (clause_8 cell) ++ broken 13 (clause_13 cell) ++ broken 14 (clause_14 cell) ++ broken 16 (clause_16 cell)

-- What constants of packages break is broken at each name of them.
abbrev pub package_breaches_by : List NamedConstant → List ConstantBreaches → List Breach
package_breaches_by named known =
    broken 3 (places_where (breaks clause.Constants known) named) ++ broken 14 (places_where (breaks clause.Calls known) named)
    ++ broken 15 (places_where (breaks clause.Forms known) named) ++ broken 16 (places_where (breaks clause.Names known) named)

abbrev pub package_breaches : Cell → List Breach
package_breaches cell = package_breaches_by (named_constants cell) (constant_breaches cell.files)

-- Where names and calls break one of these clauses: an expression with such a name in it breaks no clause that speaks of forms.
abbrev pub faults_by : List NamedConstant → List ConstantBreaches → List Breach → List Place
faults_by named known bs = places_where (breaks clause.Any known) named ++ map (λ b. b.place) bs

abbrev pub faults : Cell → List Place
faults cell = faults_by (named_constants cell) (constant_breaches cell.files) (name_breaches cell)

-- The symbols of tables that columns may not have, and actuals, operands, values and targets that are not of their form or type.
abbrev pub form_breaches_by : Cell → List NamedConstant → List Place → List Breach
form_breaches_by cell named fs = broken 3 (wrong_symbols cell named (table_uses cell fs)) ++ broken 15 (broken_forms cell fs)

abbrev pub form_breaches : Cell → List Breach
form_breaches cell = form_breaches_by cell (named_constants cell) (faults cell)

abbrev pub breaches : Cell → List Breach
breaches cell = plain_breaches cell ++ name_breaches cell ++ package_breaches cell ++ form_breaches cell

-- Of two breaches the one that comes first by place, and at one place by clause.
abbrev pub first_of : Breach → Breach → Breach
first_of a b = if is_lt (compare b a) then b else a

-- The first breach of Level 1 in a cell.
abbrev pub first_breach : Cell → Option Breach
first_breach cell = reduce first_of (breaches cell)
