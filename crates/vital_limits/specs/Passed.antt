-- Limits that a cell passes, and which of them comes first.
use Rattle.std.specs.Prelude.{ℕ, Bool, ◌&&◌, ◌||◌, ◌==◌, nat_lt, if◌then◌else◌}
use Rattle.vital_base.specs.Places.{is_before}
use Rattle.vital_base.specs.declared.place.Place.{Place}
use Rattle.vital_limits.specs.declared.passed.CellLimit.{CellLimit}
use Rattle.vital_limits.specs.declared.passed.CellLimit.TheVariants.{Ports, Rows, Columns, Paths, Delay}
use Rattle.vital_limits.specs.declared.passed.PassedLimit.{PassedLimit}

-- How many limits stand before one.
abbrev pub number : CellLimit → ℕ
number Ports = 0
number Rows = 1
number Columns = 2
number Paths = 3
number Delay = 4

abbrev pub is_same : Place → Place → Bool
is_same a b = (a.file == b.file) && (a.line == b.line) && (a.column == b.column)

-- At an earlier place, or at the same place as an earlier limit.
abbrev pub comes_before : PassedLimit → PassedLimit → Bool
comes_before a b = is_before a.place b.place || (is_same a.place b.place && nat_lt (number a.limit) (number b.limit))

abbrev pub first_of : PassedLimit → PassedLimit → PassedLimit
first_of a b = if comes_before b a then b else a
