-- What names are worth in a cell with delays for its timing generics.
use Rattle.std.specs.Prelude.{ℕ, Bool, true, List, [], ◌∷◌, ◌++◌, map, find, slice_get, unwrap_or, Option, Some}
use Rattle.std.specs.List.{fold, zip}
use Rattle.std.specs.Option.{option_and_then, option_map, option_map_or}
use Rattle.std.specs.Str.{bytes_eq}
use Rattle.vital_objects.specs.declared.constant.Constant.{Constant}
use Rattle.vital_objects.specs.declared.constant.ConstantValue.{ConstantValue}
use Rattle.vital_objects.specs.declared.constant.ConstantValue.TheVariants as constants
use Rattle.vital_objects.specs.declared.control.ControlValue.{ControlValue}
use Rattle.vital_objects.specs.declared.control.ControlValue.TheVariants as control_value
use Rattle.vital_objects.specs.declared.control.Controls.{Controls}
use Rattle.vital_operands.specs.declared.tree.ConstantName.{ConstantName}
use Rattle.vital_operands.specs.declared.tree.ConstantName.TheVariants as constant
use Rattle.vital_operands.specs.declared.tree.Control.{Control}
use Rattle.vital_operands.specs.declared.tree.Control.TheVariants as control
use Rattle.vital_timing.specs.declared.delay.Delay.{Delay}
use Rattle.vital_timing.specs.declared.delay.Delay.TheVariants as delay
use Rattle.vital_typed_cells.specs.declared.process.CellProcess.{CellProcess}
use Rattle.vital_typed_cells.specs.declared.typed_cell.TypedCell.{TypedCell}
use Rattle.vital_cell.specs.Variables.{Slot, levels_of}
use Rattle.vital_cell.specs.Times.{delay_worth, time}
use Rattle.vital_typed_cells.specs.Expressions.{Delay', Level', Names, Rows, Time, Truth, Worth, level, truth}
use Rattle.vital_typed_cells.specs.PackageWorths.{packages_worth, worth_at}
use Rattle.vital_typed_cells.specs.Bits.{names_of, number_of}
use Rattle.vital_machine.specs.Inputs.{absent}
use Rattle.vital_machine.specs.declared.input.Input.{Input}

-- ---- generics

pub record NamedDelay : Type 0 where
  pub name : List ℕ
  pub delay : Delay

-- The timing generics have these delays, and the others keep their defaults.
abbrev pub delays_of : TypedCell → List Delay → List NamedDelay
delays_of c values =
    map (λ g. record { name = g.0.name; delay = g.1 }) (zip c.generics values)
    ++ map (λ g. record { name = g.name; delay = g.default }) c.plain_generics

abbrev pub delay_named : List NamedDelay → List ℕ → Delay
delay_named ds name = option_map_or (λ d. d.delay) (find (λ d. bytes_eq d.name name) ds) (delay.One 0)

abbrev pub generic_delay : TypedCell → List Delay → List ℕ → Delay
generic_delay c values = delay_named (delays_of c values)

-- ---- controls

abbrev pub truth_in : Option Worth → Bool
truth_in (Some (Truth b)) = b
truth_in other = true

abbrev pub control_worth : List (Option Worth) → ControlValue → Bool
control_worth ws (control_value.Literal b) = b
control_worth ws (control_value.Constant n) = truth_in (worth_at ws n)

abbrev pub control_of : List (Option Worth) → Controls → Control → Bool
control_of ws k control.TimingChecksOn = control_worth ws k.timing_checks_on
control_of ws k control.XOn = control_worth ws k.x_on
control_of ws k control.MsgOn = control_worth ws k.msg_on

-- ---- bits of ports and of internal signals

-- The number of the bit of a name.
abbrev pub bit_of : TypedCell → List ℕ → ℕ
bit_of c name = unwrap_or (number_of (names_of c.ports c.signals) name) 0

-- What the first bit of a name is, where bits have these names.
abbrev pub input_named : List (List ℕ) → List Input → List ℕ → Input
input_named names inputs name = unwrap_or (option_and_then (slice_get inputs) (number_of names name)) absent

abbrev pub input_of : TypedCell → List Input → List ℕ → Input
input_of c = input_named (names_of c.ports c.signals)

-- ---- constants of a cell and of its processes

pub record NamedWorth : Type 0 where
  pub name : List ℕ
  pub worth : Worth

abbrev pub constant_of : List NamedWorth → List (Option Worth) → ConstantName → Option Worth
constant_of ns ws (constant.Cell name) = option_map (λ n. n.worth) (find (λ n. bytes_eq n.name name) ns)
constant_of ns ws (constant.Package n) = worth_at ws n

-- What names are worth where these constants are seen, the bits of ports and internal signals are so, and variables hold this.
abbrev pub names_with : TypedCell → List Delay → List (Option Worth) → List NamedWorth → List Input → List Slot → Names
names_with c values ws ns inputs slots = record {
  signal = λ name. (input_of c inputs name).value;
  variable = levels_of slots;
  constant = constant_of ns ws;
  generic = generic_delay c values;
  control = control_of ws c.controls;
}

-- In the value of a constant, and in the default of a variable, no signal and no variable is named.
abbrev pub in_values : TypedCell → List Delay → List (Option Worth) → List NamedWorth → Names
in_values c values ws ns = names_with c values ws ns [] []

abbrev pub constant_worth : Names → ConstantValue → Worth
constant_worth e (constants.Level t) = Level' (level e t)
constant_worth e (constants.Boolean b) = Truth (truth e b)
constant_worth e (constants.Time t) = Time (time e t)
constant_worth e (constants.Delay d t) = Delay' (delay_worth e t)
constant_worth e (constants.Table rows) = Rows rows

-- Behind those before them: each of these names only constants before it.
abbrev pub constants_worth : TypedCell → List Delay → List (Option Worth) → List NamedWorth → List Constant → List NamedWorth
constants_worth c values ws ns ks =
    fold (λ before k. before ++ record { name = k.name; worth = constant_worth (in_values c values ws before) k.value } ∷ []) ns ks

-- Those of the architecture.
abbrev pub cell_constants : TypedCell → List Delay → List NamedWorth
cell_constants c values = constants_worth c values (packages_worth c.packages) [] c.constants

-- Those that a process sees: its own behind those of the architecture.
abbrev pub process_constants : TypedCell → List Delay → CellProcess → List NamedWorth
process_constants c values p = constants_worth c values (packages_worth c.packages) (cell_constants c values) p.constants
