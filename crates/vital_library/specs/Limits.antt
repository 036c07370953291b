-- Units up to the limit.
use Rattle.std.specs.Prelude.{◌≡◌, ◌≤◌, List, length, Some, Result, MatchResult}
use Rattle.std.specs.List.{slice_get}
use Rattle.std.specs.Option.{option_map}
use Rattle.vital_nodes.specs.declared.unit.Unit.{Unit as Unit'}
use Rattle.vital_nodes.specs.Places.{place_of_unit}
use Rattle.vital_library.specs.declared.error.LibraryError.{LibraryError}
use Rattle.vital_library.specs.declared.error.LibraryError.TheVariants as error

-- The first unit past the limit stands at the place, where that is the error.
abbrev pub IsPastLimit : LibraryError → List Unit' → Type 0
IsPastLimit (error.TooManyUnits place) units = option_map place_of_unit (slice_get units 4096) ≡ Some place
IsPastLimit (error.Duplicate place) units = ⊥
IsPastLimit (error.NoEntity place) units = ⊥
IsPastLimit error.NoMemory units = Unit {0}

-- An answer of a call that takes units in order: they are within the limit, or the first past it is refused.
abbrev pub IsLimited : {A : Type 0} → Result A LibraryError → List Unit' → Type 0
IsLimited result units = MatchResult result (λ _. length units ≤ 4096) (λ e. IsPastLimit e units)
