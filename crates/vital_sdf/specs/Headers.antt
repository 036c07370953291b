-- What the header of an SDF file says of the words and values behind it: DIVIDER and TIMESCALE.
use Rattle.std.specs.Prelude.{ℕ, ◌+◌, ◌==◌, ◌&&◌, not, if◌then◌else◌, List, codes, position, take, drop, Option, Some, None, Ok}
use Rattle.std.specs.Char.{is_ascii_digit}
use Rattle.std.specs.Str.{bytes_eq}
use Rattle.vital_base.specs.declared.place.Place.{Place}
use Rattle.vital_sdf_lexemes.specs.Kinds.{number}
use Rattle.vital_sdf_lexemes.specs.declared.kinds.Kind.TheVariants as kind
use Rattle.vital_sdf.specs.declared.sdf_fault.SdfFault.TheVariants.{Timescale, Divider}
use Rattle.vital_sdf.specs.Reading.{Reader, ◌>>=◌, fails, kind_here, spelling}

-- what counts before any header: `.`, and 1 ns, which is 10^6 fs
abbrev pub first_divider : ℕ
first_divider = 46

abbrev pub first_power : ℕ
first_power = 6

-- ---- DIVIDER WORD

-- `.` or `/`
abbrev pub divider_of : List ℕ → Option ℕ
divider_of word = if bytes_eq word (codes ".") then Some 46 else (if bytes_eq word (codes "/") then Some 47 else None)

-- from here on the divider is this one
abbrev pub set_divider : Place → Option ℕ → Reader (Unit {0})
set_divider p None = fails Divider p
set_divider p (Some d) = λ i. Ok (tt, record i { divider = d })

-- behind the keyword, which stands at the place
unfoldable pub divider : Place → Reader (Unit {0})
divider p = spelling >>= λ word. set_divider p (divider_of word)

-- ---- TIMESCALE ( WORD | NUM [ WORD ] )

-- the power of ten that a number is
abbrev pub power_of_number : List ℕ → Option ℕ
power_of_number bytes =
    if bytes_eq bytes (codes "1") then Some 0
    else if bytes_eq bytes (codes "10") then Some 1
    else if bytes_eq bytes (codes "100") then Some 2
    else if bytes_eq bytes (codes "1.0") then Some 0
    else if bytes_eq bytes (codes "10.0") then Some 1
    else if bytes_eq bytes (codes "100.0") then Some 2
    else None

-- the power of ten femtoseconds that a unit is
abbrev pub power_of_unit : List ℕ → Option ℕ
power_of_unit bytes =
    if bytes_eq bytes (codes "s") then Some 15
    else if bytes_eq bytes (codes "ms") then Some 12
    else if bytes_eq bytes (codes "us") then Some 9
    else if bytes_eq bytes (codes "ns") then Some 6
    else if bytes_eq bytes (codes "ps") then Some 3
    else if bytes_eq bytes (codes "fs") then Some 0
    else None

abbrev pub both : Option ℕ → Option ℕ → Option ℕ
both (Some m) (Some n) = Some (m + n)
both _ _ = None

-- the power of ten femtoseconds that a number and a unit are
unfoldable pub power_of : List ℕ → List ℕ → Option ℕ
power_of digits letters = both (power_of_number digits) (power_of_unit letters)

-- where the first byte of a word stands that is no digit and no point
abbrev pub first_letter : List ℕ → Option ℕ
first_letter word = position (λ byte. not (is_ascii_digit byte) && not (byte == 46)) word

abbrev pub power_at : List ℕ → Option ℕ → Option ℕ
power_at word None = None
power_at word (Some at) = power_of (take at word) (drop at word)

-- the same of a word that is a number and a unit
unfoldable pub power_of_word : List ℕ → Option ℕ
power_of_word word = power_at word (first_letter word)

-- from here on the unit is this one
abbrev pub set_power : Place → Option ℕ → Reader (Unit {0})
set_power p None = fails Timescale p
set_power p (Some n) = λ i. Ok (tt, record i { power = n })

-- behind the keyword, which stands at the place
unfoldable pub timescale : Place → Reader (Unit {0})
timescale p = do
  k ← kind_here
  first ← spelling
  if k == number kind.Word then set_power p (power_of_word first) else (do
    next ← kind_here
    if next == number kind.Word then (spelling >>= λ second. set_power p (power_of first second)) else fails Timescale p)
