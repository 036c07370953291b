-- What constants are worth, each of which names only those before it, and what variables begin as.
use Rattle.std.specs.Prelude.{◌≡◌, ℕ, Bool, true, false, List, [], ◌∷◌, ◌++◌, map, Option, ⊤}
use Rattle.std.specs.List.{AllZip, fold}
use Rattle.std.specs.Option.{option_map_or}
use Rattle.vital_cell.specs.Environments.{NamedWorth, cell_constants, constant_worth, control_of, delays_of, process_constants}
use Rattle.vital_cell.specs.Execution.{held_first}
use Rattle.vital_cell.specs.Variables as variables
use Rattle.vital_machine.specs.declared.slot.Slot.{Slot}
use Rattle.vital_machine.specs.declared.slot.Slot.TheVariants as slot
use Rattle.vital_machine.specs.Machine.{changed}
use Rattle.vital_objects.specs.declared.constant.Constant.{Constant}
use Rattle.vital_objects.specs.declared.constant.ConstantValue.{ConstantValue}
use Rattle.vital_objects.specs.declared.package_value.PackageValue.{PackageValue}
use Rattle.vital_objects.specs.declared.package_value.PackageValue.TheVariants as packaged
use Rattle.vital_objects.specs.declared.variable.Variable.{Variable}
use Rattle.vital_objects.specs.declared.variable.VariableKind.{VariableKind}
use Rattle.vital_objects.specs.declared.variable.VariableKind.TheVariants as kind
use Rattle.vital_sections.specs.declared.timing_check.TimingCheck.{TimingCheck}
use Rattle.vital_sections.specs.declared.timing_check.TimingCheck.TheVariants as check
use Rattle.vital_typed_cells.specs.SoundDeclarations.{is_sound_constant}
use Rattle.vital_cell.specs.Kinds.{is_of_kind}
use Rattle.vital_cell.specs.Named.{held_in}
use Rattle.vital_cell.specs.Scopes.{Scope, names_at}
use Rattle.vital_cell.specs.Sound.{tests}
use Rattle.vital_timing.specs.declared.delay.Delay.{Delay}
use Rattle.vital_timing_checks.specs.RecRems as recoveries
use Rattle.vital_typed_cells.specs.declared.process.CellProcess.{CellProcess}
use Rattle.vital_typed_cells.specs.declared.typed_cell.TypedCell.{TypedCell}
use Rattle.vital_typed_cells.specs.Bits.{names_of, number_of}
use Rattle.vital_typed_cells.specs.Expressions.{Delay', Level', Rows, Time, Truth, Worth, level, truth}
use Rattle.vital_typed_cells.specs.PackageWorths.{packages_worth}

-- Where these constants are known.
abbrev pub with_constants : Scope → List NamedWorth → Scope
with_constants k known = record {
  bits = k.bits;
  variables = k.variables;
  constants = known;
  packages = k.packages;
  generics = k.generics;
  controls = k.controls;
}

-- Where these constants of packages are known, and where nothing else is.
abbrev pub with_packages : Scope → List (Option Worth) → Scope
with_packages k known = record {
  bits = k.bits;
  variables = k.variables;
  constants = k.constants;
  packages = known;
  generics = k.generics;
  controls = k.controls;
}

abbrev pub only_packages : List (Option Worth) → Scope
only_packages known = record { bits = []; variables = []; constants = []; packages = known; generics = []; controls = λ c. true }

-- What a value is worth, in which no signal and no variable is named.
abbrev pub worth_in : Scope → ConstantValue → Worth
worth_in k value = constant_worth (names_at k [] []) value

-- The same of a constant of a package.
abbrev pub package_worth_in : Scope → PackageValue → Worth
package_worth_in k (packaged.Level t) = Level' (level (names_at k [] []) t)
package_worth_in k (packaged.Boolean b) = Truth (truth (names_at k [] []) b)
package_worth_in k (packaged.Time t) = Time t
package_worth_in k (packaged.Delay d) = Delay' d
package_worth_in k (packaged.Table rows) = Rows rows

abbrev pub named_worth : Scope → Constant → NamedWorth
named_worth k c = record { name = c.name; worth = worth_in k c.value }

-- Those known before, and these behind them.
abbrev pub worths_in : Scope → List NamedWorth → List Constant → List NamedWorth
worths_in k known constants = fold (λ before c. before ++ named_worth (with_constants k before) c ∷ []) known constants

-- The value of each names only what is known before it.
abbrev pub AreSoundIn : Scope → List NamedWorth → List Constant → Type 0
AreSoundIn k before [] = ⊤
AreSoundIn k before (c ∷ cs) = (is_sound_constant (tests (with_constants k before)) c.value ≡ true) × AreSoundIn k (before ++ named_worth (with_constants k before) c ∷ []) cs

-- What variables begin as.
abbrev pub first_in : Scope → List Variable → List variables.Slot
first_in k vs = map (λ v. record { name = v.name; held = held_first (names_at k [] []) v.kind }) vs

-- What a variable of a kind begins as before its checks are looked at: what a check of two signals keeps begins as that of setup and hold.
abbrev pub begins_as : VariableKind → Slot → Bool
begins_as kind.TimingData (slot.RecRem check) = false
begins_as other held = is_of_kind other held

pub record IsBegun (k : Scope) (v : Variable) (s : Slot) : Type 0 where
  pub held : held_in s ≡ held_first (names_at k [] []) v.kind
  pub kind : begins_as v.kind s ≡ true

-- What a check of recovery and removal keeps begins as its own.
abbrev pub suit : Slot → Slot
suit held = slot.RecRem recoveries.unused

abbrev pub suited_by : Option ℕ → List Slot → List Slot
suited_by o slots = option_map_or (λ n. changed n suit slots) o slots

abbrev pub suited : List (List ℕ) → List Slot → TimingCheck → List Slot
suited names slots (check.RecoveryRemoval c) = suited_by (number_of names c.reference.timing_data) slots
suited names slots other = slots

pub record AreFirst (k : Scope) (names : List (List ℕ)) (vs : List Variable) (checks : List TimingCheck) (slots : List Slot) : Type 0 where
  pub begun : List Slot
  pub begin : AllZip (IsBegun k) vs begun
  pub suit : slots ≡ fold (suited names) begun checks

-- ---- what is known of a cell with delays for its timing generics, outside its processes and in one of them

abbrev pub scope_of_cell : TypedCell → List Delay → Scope
scope_of_cell c values = record {
  bits = names_of c.ports c.signals;
  variables = [];
  constants = cell_constants c values;
  packages = packages_worth c.packages;
  generics = delays_of c values;
  controls = control_of (packages_worth c.packages) c.controls;
}

abbrev pub scope_of_process : TypedCell → List Delay → CellProcess → Scope
scope_of_process c values p = record {
  bits = names_of c.ports c.signals;
  variables = p.variables;
  constants = process_constants c values p;
  packages = packages_worth c.packages;
  generics = delays_of c values;
  controls = control_of (packages_worth c.packages) c.controls;
}
