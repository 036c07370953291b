-- The lines of a run, of a check, of a design and of a refusal, as they are printed.
use Rattle.std.specs.Prelude.{ℕ, ◌==◌, Bool, true, false, List, [], ◌∷◌, ◌++◌, codes, decimal, Option, Some, None, option_map, if◌then◌else◌}
use Rattle.std.specs.Option.{option_copied}
use Rattle.std.specs.List.{flat_map}
use Rattle.vital_base.specs.declared.breach.Clause.{Clause}
use Rattle.vital_logic.specs.declared.level.Level.{Level}
use Rattle.vital_logic.specs.Levels.{byte_of}
use Rattle.vital_report.specs.Fields.{clause_word}
use Rattle.vital_report.specs.declared.line.Line.{Line}
use Rattle.vital_report.specs.declared.line.Line.TheVariants.{Version, Init, Event, Glitch, Violation, End, CellLevel1, CellBroken, Instance, Signal, EndOfDesign, SelfHead, Events, Messages, Text, RefusedUsage, RefusedLexical, RefusedSyntax, RefusedLimit, RefusedLibrary, RefusedNetlist, RefusedCell, RefusedDelta, RefusedStimulus, RefusedSdf, Note}
use Rattle.vital_report.specs.declared.line.Position.{Position}
use Rattle.vital_report.specs.declared.why.UsageWhy.{UsageWhy}
use Rattle.vital_report.specs.declared.why.UsageWhy.TheVariants.{Command, Key, Twice, Value, Missing}
use Rattle.vital_report.specs.declared.why.StimulusWhy.{StimulusWhy}
use Rattle.vital_report.specs.declared.why.StimulusWhy.TheVariants as stimulus
use Rattle.vital_report.specs.declared.why.LexicalWhy.{LexicalWhy}
use Rattle.vital_report.specs.declared.why.LexicalWhy.TheVariants.{Character, Unclosed}
use Rattle.vital_report.specs.declared.why.Limit.{Limit}
use Rattle.vital_report.specs.declared.why.Limit.TheVariants.{File, Tokens, Nesting, Units, Ports, Rows, Columns, Paths, Delay, Instances, Nets, Depth}
use Rattle.vital_report.specs.declared.why.LibraryWhy.{LibraryWhy}
use Rattle.vital_report.specs.declared.why.LibraryWhy.TheVariants.{Duplicate, Entity}
use Rattle.vital_report.specs.declared.why.NetlistWhy.{NetlistWhy}
use Rattle.vital_report.specs.declared.why.NetlistWhy.TheVariants as netlist
use Rattle.vital_report.specs.declared.why.NoteWhy.{NoteWhy}
use Rattle.vital_report.specs.declared.why.NoteWhy.TheVariants as note_why
use Rattle.vital_report.specs.declared.why.SdfWhy.{SdfWhy}
use Rattle.vital_report.specs.declared.why.SdfWhy.TheVariants as sdf_why
use Rattle.vital_timing_checks.specs.declared.violated.CheckKind.{CheckKind}
use Rattle.vital_timing_checks.specs.declared.violated.CheckKind.TheVariants.{Hold, Period, Pulse, Recovery, Removal, Setup}
use Rattle.vital_timing_checks.specs.declared.violated.Violated.{Violated}

-- A place as it is printed: the name of its file as bytes, and the line and the column in it; or 0 and 0 for a whole file.
pub record Spot : Type 0 where
  pub file : List ℕ
  pub line : ℕ
  pub column : ℕ

-- What a line says, with each name as its bytes.
pub data Said : Type 0 where
  version : Said
  init : (name : List ℕ) (value : Level) → Said
  event : (time delta : ℕ) (name : List ℕ) (value : Level) → Said
  glitch : (time delta : ℕ) (path port : List ℕ) → Said
  violation : (time delta : ℕ) (path test : List ℕ) (reference : Option (List ℕ)) (violated : Violated) → Said
  end : (time : ℕ) → Said
  cell_level1 : (entity : List ℕ) (arch : Option (List ℕ)) → Said
  cell_broken : (entity : List ℕ) (arch : Option (List ℕ)) (clause : Clause) (at : Spot) → Said
  instance : (path unit : List ℕ) (is_cell : Bool) → Said
  signal : (name : List ℕ) (is_resolved : Bool) (drivers : ℕ) → Said
  end_of_design : Said
  self_head : (seed cells : ℕ) → Said
  events : (count : ℕ) → Said
  messages : (count : ℕ) → Said
  made_before : (text : List ℕ) → Said
  note : (why : NoteWhy) (at : Spot) → Said
  refused_usage : (word : ℕ) (why : UsageWhy) → Said
  refused_lexical : (why : LexicalWhy) (at : Spot) → Said
  refused_syntax : (at : Spot) → Said
  refused_limit : (limit : Limit) (at : Spot) → Said
  refused_library : (why : LibraryWhy) (at : Spot) → Said
  refused_netlist : (why : NetlistWhy) (at : Spot) (name : Option (List ℕ)) → Said
  refused_cell : (at : Spot) (clause : Clause) → Said
  refused_sdf : (why : SdfWhy) (at : Spot) → Said
  refused_delta : (time limit : ℕ) → Said
  refused_stimulus : (why : StimulusWhy) (file : List ℕ) (line : ℕ) → Said

-- The place of the code.
abbrev pub spot : Position → Spot
spot at = record { file = at.file.now; line = at.line; column = at.column }

-- What a line of the code says.
abbrev pub said : Line → Said
said Version = version
said (Init name value) = init name.now value
said (Event time delta name value) = event time delta name.now value
said (Glitch time delta path port) = glitch time delta path.now port.now
said (Violation time delta path test reference violated) =
    violation time delta path.now test.now (option_copied reference) violated
said (End time) = end time
said (CellLevel1 entity arch) = cell_level1 entity.now (option_map (λ name. name.now) arch)
said (CellBroken entity arch clause at) = cell_broken entity.now (option_map (λ name. name.now) arch) clause (spot at)
said (Instance path unit is_cell) = instance path.now unit.now is_cell
said (Signal name is_resolved drivers) = signal name.now is_resolved drivers
said EndOfDesign = end_of_design
said (SelfHead seed cells) = self_head seed cells
said (Events count) = events count
said (Messages count) = messages count
said (Text text) = made_before text.now
said (Note at why) = note why (spot at)
said (RefusedUsage word why) = refused_usage word why
said (RefusedLexical at why) = refused_lexical why (spot at)
said (RefusedSyntax at) = refused_syntax (spot at)
said (RefusedLimit limit at) = refused_limit limit (spot at)
said (RefusedLibrary why at) = refused_library why (spot at)
said (RefusedNetlist why at name) = refused_netlist why (spot at) (option_copied name)
said (RefusedCell at clause) = refused_cell (spot at) clause
said (RefusedSdf why at) = refused_sdf why (spot at)
said (RefusedDelta time limit) = refused_delta time limit
said (RefusedStimulus why file line) = refused_stimulus why file.now line

-- Is it the line of a cell?
abbrev pub is_of_cell : Line → Bool
is_of_cell (CellLevel1 entity arch) = true
is_of_cell (CellBroken entity arch clause at) = true
is_of_cell line = false

-- Is it a message of a cell?
abbrev pub is_message : Line → Bool
is_message (Glitch time delta path port) = true
is_message (Violation time delta path test reference violated) = true
is_message line = false

-- Is it a line of a design?
abbrev pub is_of_design : Line → Bool
is_of_design (Instance path unit is_cell) = true
is_of_design (Signal name is_resolved drivers) = true
is_of_design EndOfDesign = true
is_of_design line = false

-- Is it a line of the command `self`?
abbrev pub is_of_self : Line → Bool
is_of_self (SelfHead seed cells) = true
is_of_self (Events count) = true
is_of_self (Messages count) = true
is_of_self (Text text) = true
is_of_self line = false

-- Is it the line of a refusal?
abbrev pub is_refusal : Line → Bool
is_refusal (RefusedUsage word why) = true
is_refusal (RefusedLexical at why) = true
is_refusal (RefusedSyntax at) = true
is_refusal (RefusedLimit limit at) = true
is_refusal (RefusedLibrary why at) = true
is_refusal (RefusedNetlist why at name) = true
is_refusal (RefusedCell at clause) = true
is_refusal (RefusedSdf why at) = true
is_refusal (RefusedDelta time limit) = true
is_refusal (RefusedStimulus why file line) = true
is_refusal line = false

-- Is it the line of the refusal of a design?
abbrev pub is_refused_design : Line → Bool
is_refused_design (RefusedNetlist why at name) = true
is_refused_design (RefusedCell at clause) = true
is_refused_design line = false

-- Why the words of the command line are refused, in a word.
abbrev pub usage_word : UsageWhy → List ℕ
usage_word Command = codes "command"
usage_word Key = codes "key"
usage_word Twice = codes "twice"
usage_word Value = codes "value"
usage_word Missing = codes "missing"

-- What a timing check tests, in a word.
abbrev pub kind_word : CheckKind → List ℕ
kind_word Setup = codes "setup"
kind_word Hold = codes "hold"
kind_word Recovery = codes "recovery"
kind_word Removal = codes "removal"
kind_word Period = codes "period"
kind_word Pulse = codes "pulse"

-- Why a stimulus file is refused, in a word.
abbrev pub stimulus_word : StimulusWhy → List ℕ
stimulus_word stimulus.Line = codes "line"
stimulus_word stimulus.Unit = codes "unit"
stimulus_word stimulus.Large = codes "large"
stimulus_word stimulus.Value = codes "value"
stimulus_word stimulus.Falls = codes "falls"
stimulus_word stimulus.UnknownPort = codes "unknown-port"
stimulus_word stimulus.NotInput = codes "not-input"

-- Why a VHDL or SDF text is no row of lexemes, in a word.
abbrev pub lexical_word : LexicalWhy → List ℕ
lexical_word Character = codes "character"
lexical_word Unclosed = codes "unclosed"

-- Which limit is passed, by files, by a cell or by a design, in a word.
abbrev pub limit_word : Limit → List ℕ
limit_word File = codes "file"
limit_word Tokens = codes "tokens"
limit_word Nesting = codes "nesting"
limit_word Units = codes "units"
limit_word Ports = codes "ports"
limit_word Rows = codes "rows"
limit_word Columns = codes "columns"
limit_word Paths = codes "paths"
limit_word Delay = codes "delay"
limit_word Instances = codes "instances"
limit_word Nets = codes "nets"
limit_word Depth = codes "depth"

-- Why the units of a library do not go together, in a word.
abbrev pub library_word : LibraryWhy → List ℕ
library_word Duplicate = codes "duplicate"
library_word Entity = codes "entity"

-- Why a library has no design under a top, in a word.
abbrev pub netlist_word : NetlistWhy → List ℕ
netlist_word netlist.NoTop = codes "no-top"
netlist_word netlist.UnknownUnit = codes "unknown-unit"
netlist_word netlist.Loop = codes "loop"
netlist_word netlist.UnknownPort = codes "unknown-port"
netlist_word netlist.UnknownSignal = codes "unknown-signal"
netlist_word netlist.WidthDiffers = codes "width"
netlist_word netlist.TypeDiffers = codes "type"
netlist_word netlist.TwiceAssociated = codes "twice"
netlist_word netlist.TwiceDeclared = codes "twice-declared"
netlist_word netlist.NotStructural = codes "not-structural"
netlist_word netlist.OutputToInputPort = codes "mode"
netlist_word netlist.TwoDrivers = codes "two-drivers"
netlist_word netlist.GenericMap = codes "generic-map"

-- Why an entry of an SDF file changes nothing, or less than it says, in a word.
abbrev pub note_word : NoteWhy → List ℕ
note_word note_why.Passed = codes "passed"
note_word note_why.Port = codes "port"
note_word note_why.Instance = codes "instance"
note_word note_why.Generic = codes "generic"
note_word note_why.Negative = codes "negative"

-- Why an SDF file is refused, in a word.
abbrev pub sdf_word : SdfWhy → List ℕ
sdf_word sdf_why.Timescale = codes "timescale"
sdf_word sdf_why.Divider = codes "divider"
sdf_word sdf_why.Values = codes "values"

-- A name that there may be, or `-` for none.
abbrev pub name_word : Option (List ℕ) → List ℕ
name_word (Some name) = name
name_word None = codes "-"

-- Whether an instance is one of a cell or of a netlist unit, in a word.
abbrev pub unit_word : Bool → List ℕ
unit_word true = codes "cell"
unit_word false = codes "net"

-- The type of a signal, by whether it is resolved.
abbrev pub type_word : Bool → List ℕ
type_word true = codes "std_logic"
type_word false = codes "std_ulogic"

-- The level that a cell has where it breaks a clause: the one below the clause's.
abbrev pub level_word : Clause → List ℕ
level_word clause = if clause.level == 0 then codes "none" else codes "level0"

-- The fields of a place.
abbrev pub spot_fields : Spot → List (List ℕ)
spot_fields at = at.file ∷ decimal at.line ∷ decimal at.column ∷ []

-- A line is its start, then each of its fields after a blank, and then LF.
abbrev pub line_of : List ℕ → List (List ℕ) → List ℕ
line_of start fields = start ++ flat_map (λ field. codes " " ++ field) fields ++ codes "\n"

-- The bytes of a line. Numbers are plain decimals, times are in femtoseconds, and names stand as they are.
abbrev pub bytes_of : Said → List ℕ
bytes_of version = line_of (codes "vital") (decimal 1 ∷ [])
bytes_of (init name value) = line_of (codes "init") (name ∷ (byte_of value ∷ []) ∷ [])
bytes_of (event time delta name value) =
    line_of (codes "event") (decimal time ∷ decimal delta ∷ name ∷ (byte_of value ∷ []) ∷ [])
bytes_of (glitch time delta path port) = line_of (codes "glitch") (decimal time ∷ decimal delta ∷ path ∷ port ∷ [])
bytes_of (violation time delta path test reference v) =
    line_of (codes "violation") (
    kind_word v.kind ∷ decimal time ∷ decimal delta ∷ path ∷ test ∷ name_word reference ∷ decimal v.observed ∷ decimal v.limit ∷ []
    )
bytes_of (end time) = line_of (codes "end") (decimal time ∷ [])
bytes_of (cell_level1 entity arch) = line_of (codes "cell") (entity ∷ name_word arch ∷ codes "level1" ∷ [])
bytes_of (cell_broken entity arch clause at) =
    line_of (codes "cell") (entity ∷ name_word arch ∷ level_word clause ∷ clause_word clause ∷ spot_fields at)
bytes_of (instance path unit is_cell) = line_of (codes "instance") (path ∷ unit ∷ unit_word is_cell ∷ [])
bytes_of (signal name is_resolved drivers) = line_of (codes "signal") (name ∷ type_word is_resolved ∷ decimal drivers ∷ [])
bytes_of end_of_design = line_of (codes "end") []
bytes_of (self_head seed cells) = line_of (codes "self") (decimal seed ∷ decimal cells ∷ [])
bytes_of (events count) = line_of (codes "events") (decimal count ∷ [])
bytes_of (messages count) = line_of (codes "messages") (decimal count ∷ [])
bytes_of (made_before text) = line_of text []
bytes_of (note why at) = line_of (codes "note sdf") (spot_fields at ++ note_word why ∷ [])
bytes_of (refused_usage word why) = line_of (codes "refused usage") (decimal word ∷ usage_word why ∷ [])
bytes_of (refused_lexical why at) = line_of (codes "refused lexical") (spot_fields at ++ lexical_word why ∷ [])
bytes_of (refused_syntax at) = line_of (codes "refused syntax") (spot_fields at)
bytes_of (refused_limit limit at) = line_of (codes "refused limit") (limit_word limit ∷ spot_fields at)
bytes_of (refused_library why at) = line_of (codes "refused library") (library_word why ∷ spot_fields at)
bytes_of (refused_netlist why at name) = line_of (codes "refused netlist") (netlist_word why ∷ spot_fields at ++ name_word name ∷ [])
bytes_of (refused_cell at clause) = line_of (codes "refused netlist") (codes "not-level1" ∷ spot_fields at ++ clause_word clause ∷ [])
bytes_of (refused_sdf why at) = line_of (codes "refused sdf") (sdf_word why ∷ spot_fields at)
bytes_of (refused_delta time limit) = line_of (codes "refused delta") (decimal time ∷ decimal limit ∷ [])
bytes_of (refused_stimulus why file line) =
    line_of (codes "refused stimulus") (stimulus_word why ∷ file ∷ decimal line ∷ [])

-- The bytes of lines, one after the other.
abbrev pub text_of : List Said → List ℕ
text_of lines = flat_map bytes_of lines
