-- What the variables of a process hold, by their names.
use Rattle.std.specs.Prelude.{ℕ, List, [], ◌∷◌, map}
use Rattle.std.specs.List.{zip}
use Rattle.vital_cell.specs.Statements as statements
use Rattle.vital_cell.specs.Variables as variables
use Rattle.vital_machine.specs.declared.slot.Slot.{Slot}
use Rattle.vital_machine.specs.declared.slot.Slot.TheVariants as slot
use Rattle.vital_machine.specs.Machine as machine

-- What it holds for the definitions of what processes do.
abbrev pub held_in : Slot → variables.Held
held_in (slot.Level l) = variables.Levels (l ∷ [])
held_in (slot.X01 l) = variables.Strengthless l
held_in (slot.Vector ls) = variables.Levels ls
held_in (slot.Glitch kept) = variables.Glitch kept
held_in (slot.SetupHold check) = variables.Timing check.kept
held_in (slot.RecRem check) = variables.Timing check.kept
held_in (slot.PeriodPulse check) = variables.Period check

-- Variables by their names.
abbrev pub named : List (List ℕ) → List Slot → List variables.Slot
named names slots = map (λ p. record { name = p.0; held = held_in p.1 }) (zip names slots)

-- What has been done, by the names of variables.
abbrev pub by_name : List (List ℕ) → machine.State → statements.State
by_name names s = record { slots = named names s.slots; effects = s.effects }
