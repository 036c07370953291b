-- What an SDF file says.
use Rattle.std.specs.Prelude.{ℕ, ◌==◌, if◌then◌else◌, List, [], Result, Ok, Err}
use Rattle.vital_lex.specs.declared.token_list.Token.{Token}
use Rattle.vital_sdf_lexemes.specs.Kinds.{number}
use Rattle.vital_sdf_lexemes.specs.declared.kinds.Kind.TheVariants as kind
use Rattle.vital_sdf.specs.declared.group.Group.{Group}
use Rattle.vital_sdf.specs.Reading.{Input, Reader, Failure, ◌>>=◌, ◌>>◌, pure, place, skip, taken, enclosed, repeated}
use Rattle.vital_sdf.specs.Headers.{divider, timescale, first_divider, first_power}
use Rattle.vital_sdf.specs.Cells.{cell}

-- DIVIDER WORD | TIMESCALE ( WORD | NUM [ WORD ] ) | CELL { "(" part ")" } | ( SDFVERSION | DESIGN | DATE | VENDOR | PROGRAM
--     | VERSION | PROCESS | VOLTAGE | TEMPERATURE ) any
unfoldable pub block : List Group → Reader (List Group)
block groups = do
  p ← place
  k ← taken
  if k == number kind.Divider then divider p >> pure groups
      else if k == number kind.TimeScale then timescale p >> pure groups
      else if k == number kind.Cell then cell groups
      else enclosed >> pure groups

-- sdf = "(" DELAYFILE { "(" block ")" } ")"
unfoldable pub sdf : Reader (List Group)
sdf = skip >> (skip >> repeated block [])

abbrev pub only_read : {A : Type 0} → Result (A × Input) Failure → Result A Failure
only_read (Err failure) = Err failure
only_read (Ok read) = Ok read.0

-- the groups of a file whose tokens the grammar takes, or the first fault of one of its keywords
abbrev pub groups_of : ℕ → List ℕ → List Token → Result (List Group) Failure
groups_of file text tokens =
    only_read (sdf (record { tokens = tokens; text = text; file = file; divider = first_divider; power = first_power }))
