-- When what variables hold is of their kinds.
use Rattle.std.specs.Prelude.{◌≡◌, ◌==◌, ◌≤◌, ℕ, Bool, true, false, List, length, slice_get, ⊤}
use Rattle.std.specs.List.{AllZip}
use Rattle.std.specs.Option.{option_and_then, option_map_or}
use Rattle.vital_machine.specs.declared.slot.Slot.{Slot}
use Rattle.vital_machine.specs.declared.slot.Slot.TheVariants as slot
use Rattle.vital_objects.specs.declared.variable.Variable.{Variable}
use Rattle.vital_objects.specs.declared.variable.VariableKind.{VariableKind}
use Rattle.vital_objects.specs.declared.variable.VariableKind.TheVariants as kind
use Rattle.vital_sections.specs.declared.timing_check.TimingCheck.{TimingCheck}
use Rattle.vital_sections.specs.declared.timing_check.TimingCheck.TheVariants as check
use Rattle.vital_typed_cells.specs.KeptStates.{kept_by}
use Rattle.vital_typed_cells.specs.Bits.{number_of}

-- What a variable of a kind holds. A check of two signals keeps what a check of setup and hold keeps, or one of recovery and removal.
abbrev pub is_of_kind : VariableKind → Slot → Bool
is_of_kind (kind.Level default) (slot.Level l) = true
is_of_kind (kind.X01 default) (slot.X01 l) = true
is_of_kind (kind.Vector n default) (slot.Vector ls) = n == length ls
is_of_kind kind.GlitchData (slot.Glitch kept) = true
is_of_kind kind.TimingData (slot.SetupHold check) = true
is_of_kind kind.TimingData (slot.RecRem check) = true
is_of_kind kind.PeriodData (slot.PeriodPulse check) = true
is_of_kind other held = false

abbrev pub IsOfKind : Variable → Slot → Type 0
IsOfKind v held = is_of_kind v.kind held ≡ true

-- Each variable holds what is of its kind.
abbrev pub AreOfKinds : List Variable → List Slot → Type 0
AreOfKinds variables slots = AllZip IsOfKind variables slots

-- What a check keeps.
abbrev pub is_of_check : TimingCheck → Slot → Bool
is_of_check (check.SetupHold c) (slot.SetupHold kept) = true
is_of_check (check.RecoveryRemoval c) (slot.RecRem kept) = true
is_of_check (check.PeriodPulse c) (slot.PeriodPulse kept) = true
is_of_check other held = false

-- The variable of a check holds what such a check keeps.
abbrev pub keeps : List (List ℕ) → List Slot → TimingCheck → Bool
keeps names slots c = option_map_or (is_of_check c) (option_and_then (slice_get slots) (number_of names (kept_by c))) false

-- A vector has at most 256 elements.
abbrev pub IsShort : VariableKind → Type 0
IsShort (kind.Vector n default) = n ≤ 256
IsShort other = ⊤
