-- The values of delays and timing checks.
use Rattle.std.specs.Prelude.{◌==◌, ◌&&◌, nat_le, if◌then◌else◌, List, [], ◌∷◌, ◌++◌, length, Option, Some, None, ℤ, Ok}
use Rattle.vital_base.specs.declared.place.Place.{Place}
use Rattle.vital_sdf_lexemes.specs.Kinds.{number}
use Rattle.vital_sdf_lexemes.specs.declared.kinds.Kind.TheVariants as kind
use Rattle.vital_sdf_words.specs.Decimals.{femtoseconds}
use Rattle.vital_sdf.specs.declared.entry.Triple.{Triple}
use Rattle.vital_sdf.specs.declared.sdf_fault.SdfFault.TheVariants as fault
use Rattle.vital_sdf.specs.Reading.{Reader, ◌>>=◌, ◌>>◌, pure, fails, kind_here, skip, next_token, past_token, spelling_of, enclosed, repeated}

-- takes a number for its femtoseconds, in the unit that counts here
abbrev pub delay : Reader ℤ
delay = λ i. Ok (femtoseconds (spelling_of i.text (next_token i)) i.power, past_token i)

-- [ NUM ]
unfoldable pub optional_delay : Reader (Option ℤ)
optional_delay = do
  k ← kind_here
  if k == number kind.Number then (delay >>= λ t. pure (Some t)) else pure None

-- val = [ NUM ] [ ":" [ NUM ] ":" [ NUM ] ]
unfoldable pub triple : Reader Triple
triple = do
  first ← optional_delay
  k ← kind_here
  if k == number kind.Colon then (do
    skip
    second ← optional_delay
    skip
    third ← optional_delay
    pure (record { min = first; typ = second; max = third })) else pure (record { min = first; typ = first; max = first })

-- RETAIN any | val: a RETAIN is no value
unfoldable pub value : List Triple → Reader (List Triple)
value found = do
  k ← kind_here
  if k == number kind.Retain then enclosed >> pure found else (triple >>= λ t. pure (found ++ t ∷ []))

-- vals = { "(" ( RETAIN any | val ) ")" }
abbrev pub values : Reader (List Triple)
values = repeated value []

-- the same for an entry whose keyword stands at the place: it has a value, and no more than twelve
unfoldable pub delays : Place → Reader (List Triple)
delays p = do
  found ← values
  if nat_le 1 (length found) && nat_le (length found) 12 then pure found else fails fault.Values p
