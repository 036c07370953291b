-- The cells of a file.
use Rattle.std.specs.Prelude.{ℕ, ◌==◌, if◌then◌else◌, List, [], ◌∷◌, ◌++◌, codes, Some, None, Ok}
use Rattle.std.specs.Str.{bytes_eq}
use Rattle.vital_base.specs.declared.place.Place.{Place}
use Rattle.vital_sdf_lexemes.specs.Kinds.{number}
use Rattle.vital_sdf_lexemes.specs.declared.kinds.Kind.TheVariants as kind
use Rattle.vital_sdf_words.specs.Paths.{parts}
use Rattle.vital_sdf.specs.declared.cell.Cell.{Cell}
use Rattle.vital_sdf.specs.declared.entry.Entry.{Entry}
use Rattle.vital_sdf.specs.declared.group.Group.{Group}
use Rattle.vital_sdf.specs.declared.group.Instance.{Instance}
use Rattle.vital_sdf.specs.declared.group.Instance.TheVariants.{Top, Each, Path}
use Rattle.vital_sdf.specs.Reading.{Reader, ◌>>=◌, pure, place, kind_here, taken, quoted, repeated, next_token, past_token, spelling_of}
use Rattle.vital_sdf.specs.Entries.{one_more, delay_section, chk, pass}

-- the word `*` as it stands, or a path that is split at the divider
abbrev pub instance_of : ℕ → List ℕ → Instance
instance_of divider word = if bytes_eq word (codes "*") then Each else Path (parts divider word)

-- INSTANCE [ WORD ], behind the keyword
unfoldable pub instance : Reader Instance
instance = do
  k ← kind_here
  if k == number kind.Word then (λ i. Ok (instance_of i.divider (spelling_of i.text (next_token i)), past_token i)) else pure Top

-- a group more, of what counts at these entries
abbrev pub with_group : Cell → List Entry → Cell
with_group cell entries = record cell { groups = cell.groups ++ record { cell_type = cell.cell_type; instance = cell.instance; entries = entries } ∷ [] }

-- DELAY { "(" .. ")" }, behind the keyword
abbrev pub delay_entries : Reader (List Entry)
delay_entries = repeated delay_section []

-- TIMINGCHECK { "(" chk ")" }, behind the keyword
abbrev pub check_entries : Reader (List Entry)
check_entries = repeated (one_more chk) []

-- ( TIMINGENV | LABEL ) any, behind the keyword, which stands at the place
abbrev pub passed_alone : Place → Reader (List Entry)
passed_alone p = one_more (pass p) []

-- part = CELLTYPE STRING | INSTANCE [ WORD ] | DELAY { "(" .. ")" } | TIMINGCHECK { "(" chk ")" } | ( TIMINGENV | LABEL ) any
unfoldable pub part : Cell → Reader Cell
part cell = do
  p ← place
  k ← taken
  if k == number kind.CellType then (quoted >>= λ text. pure (record cell { cell_type = Some text }))
      else if k == number kind.Instance then (instance >>= λ which. pure (record cell { instance = which }))
      else if k == number kind.Delay then (delay_entries >>= λ entries. pure (with_group cell entries))
      else if k == number kind.TimingCheck then (check_entries >>= λ entries. pure (with_group cell entries))
      else (passed_alone p >>= λ entries. pure (with_group cell entries))

-- { "(" part ")" }
abbrev pub parts_of : Cell → Reader Cell
parts_of begun = repeated part begun

-- CELL { "(" part ")" }, behind the keyword. Before its first CELLTYPE and INSTANCE there is no type, and the instance is the top.
unfoldable pub cell : List Group → Reader (List Group)
cell groups = parts_of (record { cell_type = None; instance = Top; groups = groups }) >>= λ c. pure c.groups
