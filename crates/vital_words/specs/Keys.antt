-- The keys of words, and the values that words give to them.
use Rattle.std.specs.Prelude.{ℕ, ◌+◌, ◌==◌, ◌&&◌, Bool, not, nat_le, List, length, take, drop, position, slice_get, Option, Some, None, codes, if◌then◌else◌}
use Rattle.std.specs.Char.{is_ascii_digit}
use Rattle.std.specs.List.{list_all, filter_map}
use Rattle.std.specs.Option.{is_some, option_map}
use Rattle.std.specs.Str.{bytes_eq}
use Rattle.std.specs.Str.Parse.{digits_value}
use Rattle.vital_base.specs.declared.corner.Corner.{Corner as Corner'}
use Rattle.vital_base.specs.declared.corner.Corner.TheVariants as corner
use Rattle.vital_base.specs.declared.watch.Watch.{Watch as Watch'}
use Rattle.vital_base.specs.declared.watch.Watch.TheVariants as watch
use Rattle.vital_base.specs.Times.{number_of, unit_named, time_of}
use Rattle.vital_identifiers.specs.Identifiers.{is_basic_identifier}
use Rattle.vital_words.specs.declared.key.FileKind.{FileKind}
use Rattle.vital_words.specs.declared.key.FileKind.TheVariants.{Lib, Net, Sdf, Stim}
use Rattle.vital_words.specs.declared.key.Key.{Key}
use Rattle.vital_words.specs.declared.key.Key.TheVariants.{File, Until, Top, Corner, Delta, Watch, Seed, Cells}

infixl 10 ◌>>=◌
abbrev pub ◌>>=◌ : {A B : Type 0} → Option A → (A → Option B) → Option B
None >>= f = None
(Some x) >>= f = f x

-- A file's name: 1 to 4,096 bytes, none below 0x20.
abbrev pub is_file_name : List ℕ → Bool
is_file_name value = nat_le 1 (length value) && nat_le (length value) 4_096 && list_all (nat_le 32) value

-- An end time: 1 to 19 digits, followed at once by a unit, worth at most 2^60 fs.
abbrev pub end_time : List ℕ → Option ℕ
end_time value = do
  digits ← position (λ byte. not (is_ascii_digit byte)) value
  number ← number_of (take digits value)
  unit ← unit_named (drop digits value)
  time_of number unit

-- The corner of a value.
abbrev pub corner_named : List ℕ → Option Corner'
corner_named value =
    if bytes_eq value (codes "min") then Some corner.Min
    else if bytes_eq value (codes "typ") then Some corner.Typ
    else if bytes_eq value (codes "max") then Some corner.Max
    else None

-- A number from 1 to the greatest one, in at most so many digits. Leading zeros count as digits.
abbrev pub count_of : ℕ → ℕ → List ℕ → Option ℕ
count_of digits greatest value = if nat_le (length value) digits then (do
  number ← number_of value
  if nat_le 1 number && nat_le number greatest then Some number else None) else None

-- A limit of delta numbers: 1 to 1,000,000, in at most 7 digits.
abbrev pub delta_limit : List ℕ → Option ℕ
delta_limit value = count_of 7 1_000_000 value

-- A number of cells: 1 to 10,000, in at most 5 digits.
abbrev pub cells_of : List ℕ → Option ℕ
cells_of value = count_of 5 10_000 value

-- Are these 1 to 20 decimal digits, worth at most 2^64 - 1?
abbrev pub is_seed : List ℕ → Bool
is_seed value =
    nat_le 1 (length value) && nat_le (length value) 20 && list_all is_ascii_digit value
    && nat_le (digits_value 10 value) 18_446_744_073_709_551_615

-- A seed.
abbrev pub seed_of : List ℕ → Option ℕ
seed_of value = if is_seed value then Some (digits_value 10 value) else None

-- The signals that are watched for a value.
abbrev pub watch_named : List ℕ → Option Watch'
watch_named value =
    if bytes_eq value (codes "ports") then Some watch.Ports
    else if bytes_eq value (codes "all") then Some watch.All
    else None

-- How the key of a file is written.
abbrev pub file_key : FileKind → List ℕ
file_key Lib = codes "lib"
file_key Net = codes "net"
file_key Sdf = codes "sdf"
file_key Stim = codes "stim"

-- How a key is written.
abbrev pub name_of : Key → List ℕ
name_of (File kind) = file_key kind
name_of Until = codes "until"
name_of Top = codes "top"
name_of Corner = codes "corner"
name_of Delta = codes "delta"
name_of Watch = codes "watch"
name_of Seed = codes "seed"
name_of Cells = codes "cells"

-- Which values a key takes.
abbrev pub is_good : Key → List ℕ → Bool
is_good (File kind) value = is_file_name value
is_good Until value = is_some (end_time value)
is_good Top value = is_basic_identifier value
is_good Corner value = is_some (corner_named value)
is_good Delta value = is_some (delta_limit value)
is_good Watch value = is_some (watch_named value)
is_good Seed value = is_some (seed_of value)
is_good Cells value = is_some (cells_of value)

-- The key and the value of a word, which its first `=` parts.
abbrev pub parts : List ℕ → Option (List ℕ × List ℕ)
parts word = option_map (λ at. (take at word, drop (at + 1) word)) (position (λ byte. byte == 61) word)

-- The value that a word gives to a key, where it does.
abbrev pub value_in : Key → List ℕ → Option (List ℕ)
value_in key word = do
  both ← parts word
  if bytes_eq both.0 (name_of key) then Some both.1 else None

-- Does a word give a value to a key?
abbrev pub is_for : Key → List ℕ → Bool
is_for key word = is_some (value_in key word)

-- The first value that words give to a key.
abbrev pub value_of : Key → List (List ℕ) → Option (List ℕ)
value_of key words = slice_get (filter_map (value_in key) words) 0
