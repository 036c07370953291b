-- What indexes hold.
use Rattle.std.specs.Prelude.{◌≡◌, List}
use Rattle.std.specs.BTreeSet.{BTreeSet, contains}
use Rattle.vital_base.specs.declared.place.Place.{Place}
use Rattle.vital_base.specs.Places.{compare_places}
use Rattle.vital_operands.specs.Faults.{is_at}

-- A set has the places of a list.
abbrev pub HasPlaces : BTreeSet Place → List Place → Type 0
HasPlaces set places = (place : Place) → contains compare_places set place ≡ is_at places place
