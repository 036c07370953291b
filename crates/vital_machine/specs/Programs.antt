-- Programs as the list of their processes, and what the variables of all their processes hold.
use Rattle.std.specs.Prelude.{ℕ, Bool, List}
use Rattle.vital_machine.specs.declared.program.Process.{Process}
use Rattle.vital_machine.specs.declared.slot.Slot.{Slot}

-- The processes of a cell, how many bits its ports and internal signals have, and whether timing checks are executed.
pub record ProgramParts : Type 0 where
  pub processes : List Process
  pub bits : ℕ
  pub timing_checks_on : Bool

-- What the variables of each process hold, and room for the paths of a path delay at a call.
pub record SlotLists : Type 0 where
  pub listed : List (List Slot)
  pub room : ℕ
