-- What the names in the typed trees of a cell mean.
use Rattle.std.specs.Prelude.{ℕ, Bool, List, map, unwrap_or, Option}
use Rattle.std.specs.List.{zip}
use Rattle.std.specs.Option.{option_map}
use Rattle.vital_cell.specs.Environments.{NamedDelay, NamedWorth, constant_of, delay_named, input_named}
use Rattle.vital_cell.specs.Statements.{Present}
use Rattle.vital_cell.specs.Variables as variables
use Rattle.vital_cell.specs.Variables.{levels_of}
use Rattle.vital_machine.specs.declared.input.Input.{Input}
use Rattle.vital_machine.specs.Seen.{Seen}
use Rattle.vital_objects.specs.declared.variable.Variable.{Variable}
use Rattle.vital_operands.specs.declared.tree.Control.{Control}
use Rattle.vital_operands.specs.declared.tree.Control.TheVariants as control
use Rattle.vital_cell.specs.declared.scope.ControlTruths.{ControlTruths}
use Rattle.vital_cell.specs.declared.scope.Scope.{Scope as Scope'}
use Rattle.vital_cell.specs.declared.worth.Worth.{Worth as Worth'}
use Rattle.vital_cell.specs.Named.{named}
use Rattle.vital_cell.specs.Worths as worths
use Rattle.vital_timing.specs.declared.delay.Delay.{Delay}
use Rattle.vital_typed_cells.specs.Bits.{number_of}
use Rattle.vital_typed_cells.specs.Expressions.{Names, Worth}

pub record Scope : Type 0 where
  -- The names of the bits, and the variables of the process.
  pub bits : List (List ℕ)
  pub variables : List Variable
  -- The constants of the cell that are known, and those of packages by their numbers.
  pub constants : List NamedWorth
  pub packages : List (Option Worth)
  pub generics : List NamedDelay
  pub controls : Control → Bool

-- ---- what is borrowed of it

abbrev pub named_worths : List (List ℕ) → List Worth' → List NamedWorth
named_worths names ws = map (λ p. record { name = p.0; worth = worths.lent p.1 }) (zip names ws)

abbrev pub named_delays : List (List ℕ) → List Delay → List NamedDelay
named_delays names ds = map (λ p. record { name = p.0; delay = p.1 }) (zip names ds)

abbrev pub package_worths : List (Option Worth') → List (Option Worth)
package_worths ws = map (λ w. option_map worths.lent w) ws

abbrev pub truth_of : ControlTruths → Control → Bool
truth_of k control.TimingChecksOn = k.timing_checks_on
truth_of k control.XOn = k.x_on
truth_of k control.MsgOn = k.msg_on

abbrev pub lent : Scope' → Scope
lent k = record {
  bits = k.bits.now;
  variables = k.variables.now;
  constants = named_worths k.constants.now k.worths.now;
  packages = package_worths k.packages.now;
  generics = named_delays k.generics.now k.delays.now;
  controls = truth_of k.controls;
}

-- ---- what is seen

abbrev pub names_of_variables : Scope → List (List ℕ)
names_of_variables k = map (λ v. v.name) k.variables

-- What names are worth where the bits are these and variables hold this.
abbrev pub names_at : Scope → List Input → List variables.Slot → Names
names_at k inputs slots = record {
  signal = λ name. (input_named k.bits inputs name).value;
  variable = levels_of slots;
  constant = constant_of k.constants k.packages;
  generic = delay_named k.generics;
  control = k.controls;
}

-- What they are worth where a process sees this.
abbrev pub names_of : Scope → Seen → Names
names_of k s = names_at k s.inputs (named (names_of_variables k) s.slots)

-- The number of a variable, and that of a bit.
abbrev pub variable_of : Scope → List ℕ → ℕ
variable_of k name = unwrap_or (number_of (names_of_variables k) name) 0

abbrev pub bit_of : Scope → List ℕ → ℕ
bit_of k name = unwrap_or (number_of k.bits name) 0

-- What an activation reads that does not change in it.
abbrev pub present : Scope → ℕ → List Input → Present
present k now inputs = record {
  now = now;
  names = names_at k inputs;
  bit = bit_of k;
  age = λ name. (input_named k.bits inputs name).age;
}
