-- The stimuli that a text states, or the first line with a fault.
use Rattle.std.specs.Prelude.{◌≡◌, ℕ, Bool, ◌+◌, ◌<◌, ◌≤◌, length, true, not, nat_lt, List, [], ◌∷◌, map, filter, find, Option, Some, None, IfSome, Result, Ok, Err, if◌then◌else◌}
use Rattle.std.specs.Borrow.{Bor}
use Rattle.std.specs.List.{position_or_len, slice_get}
use Rattle.std.specs.Option.{ok_or, option_map}
use Rattle.std.specs.Str.{bytes_eq}
use Rattle.vital_base.specs.Times.{number_of, unit_named, time_of}
use Rattle.vital_base.specs.declared.ports.PortBit.{PortBit}
use Rattle.vital_logic.specs.Levels.{level_of, byte_of}
use Rattle.vital_logic.specs.declared.level.Level.{Level}
use Rattle.vital_logic.specs.declared.level.Level.TheVariants.{U}
use Rattle.vital_stim.specs.Parts.{lines_of, fields_of, is_passed_over}
use Rattle.vital_identifiers.specs.Identifiers.{folded}
use Rattle.vital_stim.specs.PortForm.{is_port}
use Rattle.vital_stim.specs.declared.fault.StimWhy.{StimWhy}
use Rattle.vital_stim.specs.declared.fault.StimWhy.TheVariants.{Line, Unit as UnknownUnit, Large, Value, Falls, UnknownPort, NotInput}
use Rattle.vital_stim.specs.declared.fault.StimFault.{StimFault}
use Rattle.vital_stim.specs.declared.fault.StimError.{StimError}
use Rattle.vital_stim.specs.declared.fault.StimError.TheVariants.{Fault, NoMemory}
use Rattle.vital_stim.specs.declared.stimuli.StimLine.{StimLine}
use Rattle.vital_stim.specs.declared.stimuli.Stimuli.{Stimuli}

infixl 10 ◌>>=◌
abbrev pub ◌>>=◌ : {A B E : Type 0} → Result A E → (A → Result B E) → Result B E
(Ok x) >>= f = f x
(Err e) >>= f = Err e

-- What one line says: from this time on the port of this name has this value.
pub record Stimulus : Type 0 where
  pub time : ℕ
  pub name : List ℕ
  pub value : Level

abbrev pub port_named : List ℕ → Option (List ℕ)
port_named bytes = if is_port bytes then Some (folded bytes) else None

-- The level that one byte writes.
abbrev pub value_named : List ℕ → Option Level
value_named (byte ∷ []) = level_of byte
value_named bytes = None

-- What the fields of a line say, or the first test that they fail.
abbrev pub stimulus_of : List (List ℕ) → Result Stimulus StimWhy
stimulus_of (digits ∷ letters ∷ port ∷ level ∷ []) = do
  number ← ok_or (number_of digits) Line
  name ← ok_or (port_named port) Line
  unit ← ok_or (unit_named letters) UnknownUnit
  time ← ok_or (time_of number unit) Large
  value ← ok_or (value_named level) Value
  Ok (record { time = time; name = name; value = value })
stimulus_of fields = Err Line

-- The same for a line that stands after others, of which this is the latest time.
abbrev pub stimulus_after : ℕ → List (List ℕ) → Result Stimulus StimWhy
stimulus_after latest fields = do
  stimulus ← stimulus_of fields
  if nat_lt stimulus.time latest then Err Falls else Ok stimulus

-- Whether a port has this name. A name is folded, as given ports bear it. A bit of a vector has its index in its name, as
-- data(3), in plain decimal. So no port is named by an index with leading zeros: data(03) has no form of a port, whatever
-- ports are given.
abbrev pub is_named : List ℕ → PortBit → Bool
is_named name port = bytes_eq name port.name

-- The tests of a port against the given ports, of which the first that has the name is meant. They are the last tests.
abbrev pub among_given : Option (List PortBit) → Stimulus → Result Stimulus StimWhy
among_given None stimulus = Ok stimulus
among_given (Some ports) stimulus = do
  port ← ok_or (find (is_named stimulus.name) ports) UnknownPort
  if port.input then Ok stimulus else Err NotInput

-- What the fields of a line say that stands after others, where these ports are given, or none.
abbrev pub stimulus_for : Option (List PortBit) → ℕ → List (List ℕ) → Result Stimulus StimWhy
stimulus_for given latest fields = stimulus_after latest fields >>= among_given given

-- A fault of the line with this number.
abbrev pub on_line : {A : Type 0} → ℕ → Result A StimWhy → Result A StimFault
on_line number (Ok x) = Ok x
on_line number (Err why) = Err (record { line = number; why = why })

-- What the lines from this number on say, where this is the latest time before them.
abbrev pub stimuli_from : Option (List PortBit) → ℕ → ℕ → List (List ℕ) → Result (List Stimulus) StimFault
stimuli_from given number latest [] = Ok []
stimuli_from given number latest (line ∷ lines) =
    if is_passed_over line then stimuli_from given (number + 1) latest lines
    else (on_line number (stimulus_for given latest (fields_of line)) >>= λ first.
    stimuli_from given (number + 1) first.time lines >>= λ others.
    Ok (first ∷ others))

-- The names in order of first sight, each of them once.
abbrev pub first_sights : List (List ℕ) → List (List ℕ)
first_sights [] = []
first_sights (name ∷ names) = name ∷ filter (λ other. not (bytes_eq name other)) (first_sights names)

-- The names of the ports that stimuli drive.
abbrev pub names_in : List Stimulus → List (List ℕ)
names_in stimuli = first_sights (map (λ stimulus. stimulus.name) stimuli)

-- A port that is known by its name alone: an input, with the level U at first.
abbrev pub input_port : List ℕ → PortBit
input_port name = record { name = name; input = true; initial = byte_of U }

-- The ports of stimuli: the given ones, or where none are given those that the lines name, in order of first sight.
abbrev pub ports_for : Option (List PortBit) → List Stimulus → List PortBit
ports_for None stimuli = map input_port (names_in stimuli)
ports_for (Some ports) stimuli = ports

-- A line speaks of a port by its number among the ports, from 0.
abbrev pub line_among : List PortBit → Stimulus → StimLine
line_among ports stimulus = record {
  time = stimulus.time;
  port = position_or_len (is_named stimulus.name) ports;
  value = stimulus.value;
}

-- Stimuli as they are handed on: their ports, and the lines in order.
abbrev pub with_ports : Option (List PortBit) → List Stimulus → Stimuli
with_ports given stimuli = record {
  ports = ports_for given stimuli;
  lines = map (line_among (ports_for given stimuli)) stimuli;
}

-- A line of stimuli has a port that is there and is an input, and a time of at most 2^60 fs.
pub record Fits (stimuli : Stimuli) (line : StimLine) : Type 0 where
  pub there : line.port < length stimuli.ports
  pub input : IfSome (slice_get stimuli.ports line.port) (λ port. port.input ≡ true)
  pub in_time : line.time ≤ 1_152_921_504_606_846_976

-- The stimuli of a text, where these ports are given or none, or its first line with a fault and the first test that
-- this line fails.
abbrev pub stim : List ℕ → Option (List PortBit) → Result Stimuli StimFault
stim text given = stimuli_from given 1 0 (lines_of text) >>= λ stimuli. Ok (with_ports given stimuli)

-- Ports that are lent, or none.
abbrev pub lent : Option (Bor (List PortBit)) → Option (List PortBit)
lent = option_map (λ ports. ports.now)

-- A call answered what a definition gives, unless memory ran out.
abbrev pub Answers : {A : Type 0} → Result A StimError → Result A StimFault → Type 0
Answers (Ok found) given = given ≡ Ok found
Answers (Err (Fault fault)) given = given ≡ Err fault
Answers (Err NoMemory) given = Unit {0}
