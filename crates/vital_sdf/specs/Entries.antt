-- The entries of a cell: delays and timing checks.
use Rattle.std.specs.Prelude.{ℕ, ◌==◌, if◌then◌else◌, List, [], ◌∷◌, ◌++◌, Option, Some, None}
use Rattle.vital_base.specs.declared.place.Place.{Place}
use Rattle.vital_sdf_lexemes.specs.Kinds.{number}
use Rattle.vital_sdf_lexemes.specs.declared.kinds.Kind.TheVariants as kind
use Rattle.vital_sdf.specs.declared.entry.Entry.{Entry}
use Rattle.vital_sdf.specs.declared.entry.EntryKind.TheVariants.{Passed, NoPort, Timing}
use Rattle.vital_sdf.specs.declared.entry.Mode.{Mode}
use Rattle.vital_sdf.specs.declared.entry.Mode.TheVariants.{Replace, Add}
use Rattle.vital_sdf.specs.declared.entry.Port.{Port}
use Rattle.vital_sdf.specs.declared.entry.TimingKind.{TimingKind}
use Rattle.vital_sdf.specs.declared.entry.TimingKind.TheVariants as timing
use Rattle.vital_sdf.specs.declared.entry.Triple.{Triple}
use Rattle.vital_sdf.specs.Reading.{Reader, ◌>>=◌, ◌>>◌, pure, place, skip, taken, enclosed, repeated}
use Rattle.vital_sdf.specs.Conditions.{condition, check_port, both_conditions}
use Rattle.vital_sdf.specs.Ports.{port, port_of}
use Rattle.vital_sdf.specs.Values.{values, delays}

abbrev pub passed : Place → Entry
passed p = record { place = p; kind = Passed }

-- passes over an entry that no generic takes
abbrev pub pass : Place → Reader Entry
pass p = enclosed >> pure (passed p)

-- one more at the end of those that were found
abbrev pub one_more : {A : Type 0} → Reader A → List A → Reader (List A)
one_more item found = item >>= λ x. pure (found ++ x ∷ [])

-- ---- delays

-- io = port WORD vals, of the IOPATH at the place
unfoldable pub path : Place → Mode → Option (List ℕ) → Reader Entry
path p mode condition = do
  first ← port
  second ← port_of None
  found ← delays p
  pure (record { place = p; kind = Timing (record { kind = timing.IoPath; mode = mode; condition = condition; first = first; second = Some second; values = found }) })

-- IOPATH io ")"
unfoldable pub closed_path : Mode → Option (List ℕ) → Reader Entry
closed_path mode condition = do
  p ← place
  skip
  found ← path p mode condition
  skip
  pure found

-- the values of a port
unfoldable pub port_delays : Place → Mode → Port → Reader Entry
port_delays p mode first = do
  found ← delays p
  pure (record { place = p; kind = Timing (record { kind = timing.Port; mode = mode; condition = None; first = first; second = None; values = found }) })

-- del = IOPATH io | PORT port vals | INTERCONNECT WORD WORD vals | COND [ STRING ] cond | CONDELSE "(" IOPATH io ")"
--     | ( DEVICE | NETDELAY ) any
-- The first port of INTERCONNECT has no meaning.
unfoldable pub del : Mode → Reader Entry
del mode = do
  p ← place
  k ← taken
  if k == number kind.IoPath then path p mode None
      else if k == number kind.Port then (port >>= λ first. port_delays p mode first)
      else if k == number kind.Interconnect then skip >> (port_of None >>= λ first. port_delays p mode first)
      else if k == number kind.Cond then (condition >>= λ c. closed_path mode (Some c))
      else if k == number kind.CondElse then skip >> closed_path mode None
      else pass p

-- ( ABSOLUTE | INCREMENT ) { "(" del ")" } | ( PATHPULSE | PATHPULSEPERCENT ) any
unfoldable pub delay_section : List Entry → Reader (List Entry)
delay_section found = do
  p ← place
  k ← taken
  if k == number kind.Absolute then repeated (one_more (del Replace)) found
      else if k == number kind.Increment then repeated (one_more (del Add)) found
      else one_more (pass p) found

-- ---- timing checks

abbrev pub checked : Place → TimingKind → Option (List ℕ) → Port → Option Port → List Triple → Entry
checked p kind' condition first second found =
    record { place = p; kind = Timing (record { kind = kind'; mode = Replace; condition = condition; first = first; second = second; values = found }) }

-- a check of one port
abbrev pub check_of_one : Place → TimingKind → Option (List ℕ) → Option Port → List Triple → Entry
check_of_one p kind' c None found = record { place = p; kind = NoPort }
check_of_one p kind' c (Some first) found = checked p kind' c first None found

-- a check of two ports
abbrev pub check_of_two : Place → TimingKind → Option (List ℕ) → Option Port → Option Port → List Triple → Entry
check_of_two p kind' c None second found = record { place = p; kind = NoPort }
check_of_two p kind' c (Some first) None found = record { place = p; kind = NoPort }
check_of_two p kind' c (Some first) (Some second) found = checked p kind' c first (Some second) found

-- tp one
unfoldable pub one_port : Place → TimingKind → Reader Entry
one_port p kind' = do
  first ← check_port
  found ← values
  pure (check_of_one p kind' first.condition first.port found)

-- tp tp one | tp tp one one
unfoldable pub two_ports : Place → TimingKind → Reader Entry
two_ports p kind' = do
  first ← check_port
  second ← check_port
  found ← values
  pure (check_of_two p kind' (both_conditions first.condition second.condition) first.port second.port found)

-- chk = ( SETUP | HOLD | RECOVERY | REMOVAL ) tp tp one | ( SETUPHOLD | RECREM ) tp tp one one | ( PERIOD | WIDTH ) tp one
--     | ( SKEW | NOCHANGE | BIDIRECTSKEW ) any
unfoldable pub chk : Reader Entry
chk = do
  p ← place
  k ← taken
  if k == number kind.Setup then two_ports p timing.Setup
      else if k == number kind.Hold then two_ports p timing.Hold
      else if k == number kind.Recovery then two_ports p timing.Recovery
      else if k == number kind.Removal then two_ports p timing.Removal
      else if k == number kind.SetupHold then two_ports p timing.SetupHold
      else if k == number kind.RecRem then two_ports p timing.RecRem
      else if k == number kind.Period then one_port p timing.Period
      else if k == number kind.Width then one_port p timing.Width
      else pass p
