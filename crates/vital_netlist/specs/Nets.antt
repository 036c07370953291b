-- The signals of a design: the nets of its bits (IEEE 1076-1993, 12.6.1).
use Rattle.std.specs.Prelude.{◌≡◌, ⊤, ℕ, zero, suc, Bool, not, is_some, List, [], filter, position, Option, Some, None, Result, Ok, Err}
use Rattle.std.specs.List.{slice_get}
use Rattle.std.specs.Option.{option_and_then, option_map, option_map_or}
use Rattle.vital_base.specs.declared.place.Place.{Place}
use Rattle.vital_connections.specs.Connections.{Connection, connection}
use Rattle.vital_connections.specs.Connections as connections
use Rattle.vital_connections.specs.Objects.{shape_at}
use Rattle.vital_instances.specs.declared.instance.Instance.{Instance}
use Rattle.vital_instances.specs.declared.instance.Position.{Position}
use Rattle.vital_instances.specs.Children.{Child}
use Rattle.vital_instances.specs.Contents.{children_at}
use Rattle.vital_logic.specs.declared.level.Level.{Level}
use Rattle.vital_nodes.specs.declared.unit.Units.{Units}
use Rattle.vital_netlist.specs.declared.bit.Bit.{Bit}
use Rattle.vital_netlist.specs.declared.signals.SignalsError.{SignalsError}
use Rattle.vital_netlist.specs.declared.signals.SignalsError.TheVariants as error
use Rattle.vital_netlist.specs.Bits.{bit, bits, is_same, object_of}
use Rattle.vital_netlist.specs.DesignObjects.{objects_at, port_bits, ports_at}

-- ---- what a bit is associated with

-- What the ports of an instance in the entity of a number are associated with there, by the number of a port and how far a bit is from the
-- left.
abbrev pub connection_in : List Units → ℕ → Child → ℕ → ℕ → Option Connection
connection_in files n c port offset =
    connection (shape_at (ports_at files c.entity)) (shape_at (objects_at files n)) port offset c.associations

-- An instance stands in this one, as the child of a number.
abbrev pub connection_under : List Units → Bit → ℕ → Instance → Option Connection
connection_under files b n parent =
    option_and_then (λ c. connection_in files parent.entity c b.object b.offset) (slice_get (children_at files parent.entity) n)

abbrev pub connection_at : List Units → List Instance → Bit → Position → Option Connection
connection_at files is b p = option_and_then (connection_under files b p.child) (slice_get is p.parent)

-- What a bit is associated with in the instance above, if it is. The bits of the top are associated with nothing.
abbrev pub connection_of : List Units → List Instance → Bit → Option Connection
connection_of files is b =
    option_and_then (λ i. option_and_then (connection_at files is b) i.position) (slice_get is b.instance)

-- ---- nets

abbrev pub bit_in : Option Position → Connection → Option Bit
bit_in (Some p) (connections.Bit object offset) = Some (bit p.parent (object, offset))
bit_in _ _ = None

-- The bit of the instance above that a bit is associated with, if it is with one.
abbrev pub bit_above : List Units → List Instance → Bit → Option Bit
bit_above files is b = option_and_then (λ i. option_and_then (bit_in i.position) (connection_of files is b)) (slice_get is b.instance)

-- The net of a bit, from formal to actual: that of the bit above, and else the bit itself; where at most so many instances stand above.
abbrev pub net_within : ℕ → List Units → List Instance → Bit → Bit
net_within zero files is b = b
net_within (suc levels) files is b = option_map_or (net_within levels files is) (bit_above files is b) b

-- The net of a bit: the bit of the outermost port or signal. Each instance above has a lesser number.
abbrev pub net : List Units → List Instance → Bit → Bit
net files is b = net_within b.instance files is b

-- A bit is a signal of its own: a bit of the top, of a port that is open or tied to a level, or of a declared or internal signal.
abbrev pub is_own : List Units → List Instance → Bit → Bool
is_own files is b = not (is_some (bit_above files is b))

-- The signals of a design: the bits that are their own nets.
abbrev pub signals : List Units → List Instance → List Bit
signals files is = filter (is_own files is) (bits files is)

-- The number of the signal of a bit, from 0.
abbrev pub signal_number : List Units → List Instance → Bit → Option ℕ
signal_number files is b = position (is_same (net files is b)) (signals files is)

-- The bits of the ports of the instance of a number that are signals of their own, each by the number of its port and how far it is from the
-- left.
abbrev pub own_port_bits : List Units → List Instance → ℕ → List (ℕ × ℕ)
own_port_bits files is n = filter (λ b. is_own files is (bit n b)) (option_map_or (λ i. port_bits files i.entity) (slice_get is n) [])

abbrev pub level_in : Connection → Option Level
level_in (connections.Level l) = Some l
level_in _ = None

-- The level that a signal is tied to, if it is.
abbrev pub tied : List Units → List Instance → Bit → Option Level
tied files is b = option_and_then level_in (connection_of files is b)

-- ---- too many signals

-- All signals are at most so many.
abbrev pub most_signals : ℕ
most_signals = 65536

-- The place of the port or signal that has the first signal too many, if there is one.
abbrev pub place_too_many : List Units → List Instance → Option Place
place_too_many files is =
    option_map (λ o. o.place) (option_and_then (object_of files is) (slice_get (signals files is) most_signals))

-- These are the signals of a design, which are not too many; or this is the place of the first one too many. Where there is no memory
-- nothing is told.
abbrev pub AreSignals : List Units → List Instance → Result (List Bit) SignalsError → Type 0
AreSignals files is (Ok found) = (place_too_many files is ≡ None) × (found ≡ signals files is)
AreSignals files is (Err (error.TooMany place)) = place_too_many files is ≡ Some place
AreSignals files is (Err error.NoMemory) = ⊤
