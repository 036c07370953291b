-- Declarations in which each name is in a scope, and means what is asked of it.
use Rattle.std.specs.Prelude.{◌≡◌, Bool, true, false, ◌&&◌, nat_le, List, [], ◌∷◌, ◌++◌, Option, ⊤}
use Rattle.std.specs.Option.{option_map_or}
use Rattle.vital_objects.specs.declared.constant.Constant.{Constant}
use Rattle.vital_objects.specs.declared.constant.ConstantValue.{ConstantValue}
use Rattle.vital_objects.specs.declared.constant.ConstantValue.TheVariants as worth
use Rattle.vital_objects.specs.declared.control.ControlValue.{ControlValue}
use Rattle.vital_objects.specs.declared.control.ControlValue.TheVariants as control
use Rattle.vital_objects.specs.declared.control.Controls.{Controls}
use Rattle.vital_objects.specs.declared.package_value.PackageValue.{PackageValue}
use Rattle.vital_objects.specs.declared.package_value.PackageValue.TheVariants as packaged
use Rattle.vital_objects.specs.declared.port.Port.{Port}
use Rattle.vital_objects.specs.declared.variable.VariableKind.{VariableKind}
use Rattle.vital_objects.specs.declared.variable.VariableKind.TheVariants as kind
use Rattle.vital_objects.specs.PackageValues.{value_at}
use Rattle.vital_typed_cells.specs.declared.typed_cell.TypedCell.{TypedCell}
use Rattle.vital_typed_cells.specs.ExprScopes.{Scope}
use Rattle.vital_typed_cells.specs.Times.{are_short, is_short}
use Rattle.vital_typed_cells.specs.Trees.{is_sound_boolean, is_sound_delay, is_sound_level, is_sound_time, is_sound_vector}
use Rattle.vital_typed_cells.specs.Named.{is_package_truth}
use Rattle.vital_typed_cells.specs.Scopes.{in_values, of_packages, scope_of}

-- ---- constants of packages

-- Times are at most 2^50 fs. The rows of a table name nothing.
abbrev pub is_sound_package : Scope → PackageValue → Bool
is_sound_package s (packaged.Level t) = is_sound_level s t
is_sound_package s (packaged.Boolean b) = is_sound_boolean s b
is_sound_package s (packaged.Time t) = is_short t
is_sound_package s (packaged.Delay d) = are_short d
is_sound_package s (packaged.Table rows) = true

-- What values of constants of packages may name where those before them are worth these.
abbrev pub names_in_packages : List (Option PackageValue) → Scope
names_in_packages known = scope_of (of_packages known)

-- Each constant that is worth something names only those before it.
abbrev pub AreSoundPackages : List (Option PackageValue) → List (Option PackageValue) → Type 0
AreSoundPackages before [] = ⊤
AreSoundPackages before (v ∷ vs) = (option_map_or (is_sound_package (names_in_packages before)) v true ≡ true) × AreSoundPackages (before ++ v ∷ []) vs

-- ---- the interface

-- The default of a port, if it has one.
abbrev pub is_sound_port : Scope → Port → Bool
is_sound_port s p = option_map_or (is_sound_level s) p.default true

-- A control is TRUE or FALSE, or a constant of a package of type BOOLEAN.
abbrev pub is_sound_control : TypedCell → ControlValue → Bool
is_sound_control c (control.Literal b) = true
is_sound_control c (control.Constant n) = option_map_or is_package_truth (value_at c.packages n) false

abbrev pub are_sound_controls : TypedCell → Controls → Bool
are_sound_controls c k = is_sound_control c k.timing_checks_on && (is_sound_control c k.x_on && is_sound_control c k.msg_on)

-- ---- constants and variables

-- The rows of a table name nothing.
abbrev pub is_sound_constant : Scope → ConstantValue → Bool
is_sound_constant s (worth.Level t) = is_sound_level s t
is_sound_constant s (worth.Boolean b) = is_sound_boolean s b
is_sound_constant s (worth.Time t) = is_sound_time s t
is_sound_constant s (worth.Delay d t) = is_sound_delay s d t
is_sound_constant s (worth.Table rows) = true

-- What values and defaults may name where these constants are seen.
abbrev pub names_in_values : TypedCell → List Constant → Scope
names_in_values c cs = scope_of (in_values c cs)

-- Each constant names only those before it, among which others are.
abbrev pub AreSoundConstants : TypedCell → List Constant → List Constant → List Constant → Type 0
AreSoundConstants c others before [] = ⊤
AreSoundConstants c others before (k ∷ ks) = (is_sound_constant (names_in_values c (before ++ others)) k.value ≡ true) × AreSoundConstants c others (before ++ k ∷ []) ks

-- A vector has at most 256 elements, and its default is as long.
abbrev pub is_sound_kind : Scope → VariableKind → Bool
is_sound_kind s (kind.Level default) = option_map_or (is_sound_level s) default true
is_sound_kind s (kind.X01 default) = option_map_or (is_sound_level s) default true
is_sound_kind s (kind.Vector n default) = nat_le n 256 && option_map_or (is_sound_vector s n) default true
is_sound_kind s kind.GlitchData = true
is_sound_kind s kind.TimingData = true
is_sound_kind s kind.PeriodData = true
