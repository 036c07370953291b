-- What the variables of a process hold, by their numbers in the order of their declarations.
use Rattle.std.specs.Prelude.{ℕ, nat_lt, List, [], ◌∷◌, length, slice_get, slice_set, if◌then◌else◌}
use Rattle.std.specs.Option.{option_map_or}
use Rattle.vital_machine.specs.declared.slot.Slot.{Slot}
use Rattle.vital_machine.specs.declared.slot.Slot.TheVariants as slot
use Rattle.vital_machine.specs.TruthTables.{fitted}
use Rattle.vital_logic.specs.declared.level.Level.{Level}
use Rattle.vital_logic.specs.Tables.{entry, x01_table}

-- The levels of a variable: one, or those of a vector from left to right.
abbrev pub levels_in : Slot → List Level
levels_in (slot.Level l) = l ∷ []
levels_in (slot.X01 l) = l ∷ []
levels_in (slot.Vector ls) = ls
levels_in other = []

-- Those of the variable of a number; none where there is none.
abbrev pub levels_at : List Slot → ℕ → List Level
levels_at slots number = option_map_or levels_in (slice_get slots number) []

-- A level that is put to a variable of one level, to an element of a vector and levels to a vector.
abbrev pub with_level : Level → Slot → Slot
with_level l (slot.Level old) = slot.Level l
with_level l (slot.X01 old) = slot.X01 (entry x01_table l)
with_level l other = other

abbrev pub with_element : ℕ → Level → Slot → Slot
with_element n l (slot.Vector ls) = slot.Vector (if nat_lt n (length ls) then slice_set ls n l else ls)
with_element n l other = other

abbrev pub with_levels : List Level → Slot → Slot
with_levels ls (slot.Vector old) = slot.Vector (fitted (length old) ls)
with_levels ls other = other
