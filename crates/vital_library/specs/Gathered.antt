-- What comes of gathering files: a library, or how they are refused.
use Rattle.std.specs.Prelude.{◌≡◌, List, Option, Some, None, Result, Ok, Err}
use Rattle.std.specs.List.{slice_get}
use Rattle.vital_base.specs.declared.place.Place.{Place}
use Rattle.vital_nodes.specs.declared.unit.Unit.{Unit as Unit'}
use Rattle.vital_nodes.specs.declared.unit.Units.{Units}
use Rattle.vital_nodes.specs.Places.{place_of_unit}
use Rattle.vital_library.specs.declared.error.LibraryError.{LibraryError}
use Rattle.vital_library.specs.declared.error.LibraryError.TheVariants as error
use Rattle.vital_library.specs.declared.fault.Fault.{Fault}
use Rattle.vital_library.specs.declared.fault.FaultKind.{FaultKind}
use Rattle.vital_library.specs.declared.fault.FaultKind.TheVariants.{Duplicate, NoEntity}
use Rattle.vital_library.specs.Units.{units_of}
use Rattle.vital_library.specs.Faults.{faults, least_of}

-- How files with a fault of a kind at a place are refused.
abbrev pub refusal : FaultKind → Place → LibraryError
refusal Duplicate place = error.Duplicate place
refusal NoEntity place = error.NoEntity place

-- Files are a library unless there is a fault among their units.
abbrev pub judged : List Units → Option Fault → Result (List Units) LibraryError
judged files None = Ok files
judged files (Some fault) = Err (refusal fault.kind fault.place)

-- The first unit past the limit refuses the files before any fault is looked for.
abbrev pub limited : List Units → Option Unit' → Result (List Units) LibraryError
limited files None = judged files (least_of (faults (units_of files)))
limited files (Some extra) = Err (error.TooManyUnits (place_of_unit extra))

-- What comes of files.
abbrev pub gathered : List Units → Result (List Units) LibraryError
gathered files = limited files (slice_get (units_of files) 4096)

-- An answer gives what comes of files, or that there was no memory for it.
abbrev pub GivesLibrary : Result (List Units) LibraryError → Result (List Units) LibraryError → Type 0
GivesLibrary (Ok library) outcome = outcome ≡ Ok library
GivesLibrary (Err (error.TooManyUnits place)) outcome = outcome ≡ Err (error.TooManyUnits place)
GivesLibrary (Err (error.Duplicate place)) outcome = outcome ≡ Err (error.Duplicate place)
GivesLibrary (Err (error.NoEntity place)) outcome = outcome ≡ Err (error.NoEntity place)
GivesLibrary (Err error.NoMemory) outcome = Unit {0}
