-- What names mean among what a cell declares.
use Rattle.std.specs.Prelude.{ℕ, Bool, true, false, ◌&&◌, ◌==◌, nat_lt, List, Option}
use Rattle.std.specs.List.{list_any}
use Rattle.std.specs.Option.{option_map_or}
use Rattle.std.specs.Str.{bytes_eq}
use Rattle.vital_actuals.specs.Kinds.{is_driven_mode}
use Rattle.vital_operands.specs.declared.tree.ConstantName.{ConstantName}
use Rattle.vital_operands.specs.declared.tree.ConstantName.TheVariants as constant
use Rattle.vital_operands.specs.Named.{is_read_mode, same_type}
use Rattle.vital_timing.specs.declared.delay.DelayType.{DelayType}
use Rattle.vital_timing.specs.Delays.{type_of}
use Rattle.vital_objects.specs.declared.constant.Constant.{Constant}
use Rattle.vital_objects.specs.declared.constant.ConstantValue.{ConstantValue}
use Rattle.vital_objects.specs.declared.constant.ConstantValue.TheVariants as worth
use Rattle.vital_objects.specs.declared.generic.PlainGeneric.{PlainGeneric}
use Rattle.vital_objects.specs.declared.generic.TimingGeneric.{TimingGeneric}
use Rattle.vital_objects.specs.declared.package_value.PackageValue.{PackageValue}
use Rattle.vital_objects.specs.declared.package_value.PackageValue.TheVariants as packaged
use Rattle.vital_objects.specs.declared.port.Port.{Port}
use Rattle.vital_objects.specs.declared.signal.Signal.{Signal}
use Rattle.vital_objects.specs.declared.variable.Variable.{Variable}
use Rattle.vital_objects.specs.declared.variable.VariableKind.{VariableKind}
use Rattle.vital_objects.specs.declared.variable.VariableKind.TheVariants as kind
use Rattle.vital_objects.specs.PackageValues.{value_at}
use Rattle.vital_typed_cells.specs.Times.{are_short, is_short}

-- ---- ports and signals

-- A name is that of an in or inout port, of an out, inout or buffer port, or of an internal signal.
abbrev pub is_input_port : List Port → List ℕ → Bool
is_input_port ports name = list_any (λ p. bytes_eq p.name name && is_read_mode p.mode) ports

abbrev pub is_output_port : List Port → List ℕ → Bool
is_output_port ports name = list_any (λ p. bytes_eq p.name name && is_driven_mode p.mode) ports

abbrev pub is_internal : List Signal → List ℕ → Bool
is_internal signals name = list_any (λ s. bytes_eq s.name name) signals

-- ---- generics

-- A name is that of a generic of a type.
abbrev pub is_timing_generic : List TimingGeneric → DelayType → List ℕ → Bool
is_timing_generic gs d name = list_any (λ g. bytes_eq g.name name && same_type d (type_of g.default)) gs

abbrev pub is_plain_generic : List PlainGeneric → DelayType → List ℕ → Bool
is_plain_generic gs d name = list_any (λ g. bytes_eq g.name name && same_type d (type_of g.default)) gs

-- ---- constants

-- A test holds of the value of a constant of a name: one of the cell, or one of a package by its number.
abbrev pub constant_is : (ConstantValue → Bool) → (PackageValue → Bool) → List Constant → List (Option PackageValue) → ConstantName → Bool
constant_is of_cell of_package cs ps (constant.Cell name) = list_any (λ k. bytes_eq k.name name && of_cell k.value) cs
constant_is of_cell of_package cs ps (constant.Package n) = option_map_or of_package (value_at ps n) false

abbrev pub is_level : ConstantValue → Bool
is_level (worth.Level t) = true
is_level other = false

abbrev pub is_package_level : PackageValue → Bool
is_package_level (packaged.Level t) = true
is_package_level other = false

abbrev pub is_time : ConstantValue → Bool
is_time (worth.Time t) = true
is_time other = false

-- A time of at most 2^50 fs, and such a delay of a type.
abbrev pub is_package_time : PackageValue → Bool
is_package_time (packaged.Time t) = is_short t
is_package_time other = false

abbrev pub is_delay : DelayType → ConstantValue → Bool
is_delay d (worth.Delay e t) = same_type d e
is_delay d other = false

abbrev pub is_package_delay : DelayType → PackageValue → Bool
is_package_delay d (packaged.Delay t) = same_type d (type_of t) && are_short t
is_package_delay d other = false

abbrev pub is_package_truth : PackageValue → Bool
is_package_truth (packaged.Boolean b) = true
is_package_truth other = false

-- A test holds of the rows of a table.
abbrev pub has_rows : (List (List ℕ) → Bool) → ConstantValue → Bool
has_rows test (worth.Table rows) = test rows
has_rows test other = false

abbrev pub has_package_rows : (List (List ℕ) → Bool) → PackageValue → Bool
has_package_rows test (packaged.Table rows) = test rows
has_package_rows test other = false

-- ---- variables

-- A test holds of what a variable of a name keeps.
abbrev pub variable_is : (VariableKind → Bool) → List Variable → List ℕ → Bool
variable_is test vs name = list_any (λ v. bytes_eq v.name name && test v.kind) vs

abbrev pub is_scalar : VariableKind → Bool
is_scalar (kind.Level default) = true
is_scalar (kind.X01 default) = true
is_scalar other = false

abbrev pub is_x01 : VariableKind → Bool
is_x01 (kind.X01 default) = true
is_x01 other = false

-- A vector of a length, and one with an element at a number of places behind its left end.
abbrev pub is_vector : ℕ → VariableKind → Bool
is_vector n (kind.Vector length default) = n == length
is_vector n other = false

abbrev pub has_element : ℕ → VariableKind → Bool
has_element n (kind.Vector length default) = nat_lt n length
has_element n other = false

abbrev pub is_glitch_data : VariableKind → Bool
is_glitch_data kind.GlitchData = true
is_glitch_data other = false

abbrev pub is_timing_data : VariableKind → Bool
is_timing_data kind.TimingData = true
is_timing_data other = false

abbrev pub is_period_data : VariableKind → Bool
is_period_data kind.PeriodData = true
is_period_data other = false
