-- The definitions on worked rows.
use Rattle.std.proofs.Common.{◌≡◌, ℕ, ◌+◌, List, [], ◌∷◌, refl}
use Rattle.std.specs.Prelude.{codes, Some, None, Result, Ok, Err}
use Rattle.vital_base.specs.declared.place.Place.{Place}
use Rattle.vital_nodes.specs.declared.identifier.Identifier.{Identifier}
use Rattle.vital_nodes.specs.declared.unit.Role.TheVariants.{Lib, Net}
use Rattle.vital_nodes.specs.declared.unit.Unit.{Unit as Unit'}
use Rattle.vital_nodes.specs.declared.unit.Unit.TheVariants as unit
use Rattle.vital_nodes.specs.declared.unit.Units.{Units}
use Rattle.vital_library.specs.declared.error.LibraryError.{LibraryError}
use Rattle.vital_library.specs.declared.error.LibraryError.TheVariants as error
use Rattle.vital_library.specs.Gathered.{gathered}
use Rattle.vital_library.specs.Numbers.{number_named}
use Rattle.vital_library.specs.Units.{archs_of, archs_of_entity, entities, roles}

abbrev at : ℕ → Place
at column = record { file = 0; line = 1; column = column }

abbrev named : ℕ → List ℕ → Identifier
named column name = record { place = at column; name = name }

-- units that begin at a column, with their identifiers after it, one by one
abbrev entity : ℕ → List ℕ → Unit'
entity column name = unit.Entity (record { place = at column; identifier = named (column + 1) name; generics = []; ports = []; declarations = []; statements = [] })

abbrev pack : ℕ → List ℕ → Unit'
pack column name = unit.Pack (record { place = at column; identifier = named (column + 1) name; declarations = [] })

abbrev config : ℕ → List ℕ → Unit'
config column name = unit.Config (record { place = at column; identifier = named (column + 1) name; entity = named (column + 2) (codes "e"); arch = named (column + 3) (codes "x") })

abbrev arch : ℕ → List ℕ → List ℕ → Unit'
arch column name of_what = unit.Arch (record { place = at column; identifier = named (column + 1) name; entity = named (column + 2) of_what; declarations = []; statements = [] })

abbrev file : List Unit' → Units
file units = record { role = Lib; units = units; tokens = 0 }

abbrev netlist : List Unit' → Units
netlist units = record { role = Net; units = units; tokens = 0 }

abbrev one : List Unit' → Result (List Units) LibraryError
one units = gathered (file units ∷ [])

no_files : gathered [] ≡ Ok []
no_files = refl

second_entity : one (entity 10 (codes "e") ∷ entity 20 (codes "e") ∷ []) ≡ Err (error.Duplicate (at 21))
second_entity = refl

package_named_as_an_entity : one (entity 10 (codes "e") ∷ pack 20 (codes "e") ∷ []) ≡ Err (error.Duplicate (at 21))
package_named_as_an_entity = refl

entity_named_as_a_configuration : one (config 10 (codes "c") ∷ entity 20 (codes "c") ∷ []) ≡ Err (error.Duplicate (at 21))
entity_named_as_a_configuration = refl

second_arch : one (entity 10 (codes "e") ∷ arch 20 (codes "x") (codes "e") ∷ arch 30 (codes "x") (codes "e") ∷ []) ≡ Err (error.Duplicate (at 31))
second_arch = refl

arch_without_entity : one (pack 10 (codes "e") ∷ arch 20 (codes "x") (codes "e") ∷ []) ≡ Err (error.NoEntity (at 22))
arch_without_entity = refl

-- the least of both kinds, by place and not by the order of the units
least_of_both : one (pack 30 (codes "p") ∷ pack 20 (codes "p") ∷ arch 10 (codes "x") (codes "e") ∷ []) ≡ Err (error.NoEntity (at 12))
least_of_both = refl

-- at one place the duplicate is named
at_one_place : one (pack 10 (codes "p") ∷ pack 20 (codes "p") ∷ arch 19 (codes "x") (codes "e") ∷ []) ≡ Err (error.Duplicate (at 21))
at_one_place = refl

-- an architecture of an entity that comes in a later file; and one name in three spaces
abbrev two_files : List Units
two_files =
    file (arch 10 (codes "x") (codes "e") ∷ pack 20 (codes "x") ∷ [])
    ∷ file (entity 30 (codes "d") ∷ entity 40 (codes "e") ∷ arch 50 (codes "x") (codes "d") ∷ arch 60 (codes "y") (codes "e") ∷ [])
    ∷ []

no_fault : gathered two_files ≡ Ok two_files
no_fault = refl

entities_in_order : entities two_files ≡
    record { place = at 30; identifier = named 31 (codes "d"); generics = []; ports = []; declarations = []; statements = [] }
    ∷ record { place = at 40; identifier = named 41 (codes "e"); generics = []; ports = []; declarations = []; statements = [] }
    ∷ []
entities_in_order = refl

-- one library file with an entity, and one netlist file with two
roles_in_order : roles (file (entity 10 (codes "d") ∷ pack 20 (codes "p") ∷ []) ∷ netlist (entity 30 (codes "e") ∷ entity 40 (codes "f") ∷ []) ∷ []) ≡ Lib ∷ Net ∷ Net ∷ []
roles_in_order = refl

number_by_name : number_named (codes "e") two_files ≡ Some 1
number_by_name = refl

-- a package and architectures have this name, and no entity
no_number : number_named (codes "x") two_files ≡ None
no_number = refl

archs_in_order : archs_of (codes "e") two_files ≡
    record { place = at 10; identifier = named 11 (codes "x"); entity = named 12 (codes "e"); declarations = []; statements = [] }
    ∷ record { place = at 60; identifier = named 61 (codes "y"); entity = named 62 (codes "e"); declarations = []; statements = [] }
    ∷ []
archs_in_order = refl

archs_by_number : archs_of_entity 1 two_files ≡ archs_of (codes "e") two_files
archs_by_number = refl
