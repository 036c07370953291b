-- The laws of numbered steps: they do what the statements of their process do, and variables begin as these ask.
use Rattle.std.specs.Prelude.{◌≡◌, ℕ, Bool, true, List, map}
use Rattle.std.specs.List.{IsDistinct, list_all}
use Rattle.std.specs.Str.{bytes_eq}
use Rattle.vital_cell.specs.Statements.{executed}
use Rattle.vital_machine.specs.declared.input.Input.{Input}
use Rattle.vital_machine.specs.declared.slot.Slot.{Slot}
use Rattle.vital_machine.specs.declared.steps.ProcessSteps.{ProcessSteps}
use Rattle.vital_machine.specs.Fits.{HaveTimes, kinds_of}
use Rattle.vital_machine.specs.Machine.{process}
use Rattle.vital_sections.specs.declared.sections.Sections.{Sections}
use Rattle.vital_sections.specs.declared.timing_check.TimingCheck.{TimingCheck}
use Rattle.vital_typed_cells.specs.KeptStates.{kept_by}
use Rattle.vital_typed_cells.specs.SoundSections.{are_sound_sections}
use Rattle.vital_typed_cells.specs.SoundStatements.{is_sound_check}
use Rattle.vital_cell.specs.Formed.{IsFormed}
use Rattle.vital_cell.specs.Kinds.{AreOfKinds, keeps}
use Rattle.vital_cell.specs.Named.{by_name, named}
use Rattle.vital_cell.specs.Scopes.{Scope, names_of_variables, present}
use Rattle.vital_cell.specs.Sound.{has_state_table, statement_tests}
use Rattle.vital_cell.specs.Steps.{AreSteps}
use Rattle.vital_cell.specs.Values.{AreFirst, first_in}

-- While variables hold what is of their kinds, and those of checks what these keep, the steps of a process do what its statements do, one
-- after the other, whatever is seen.
abbrev pub StepsStand : Type 0
StepsStand =
    (k : Scope) (sections : Sections) (steps : ProcessSteps) (first_driver : ℕ) (checks_on : Bool) (now : ℕ) (inputs : List Input) (slots : List Slot)
    → IsFormed k → AreOfKinds k.variables slots
    → are_sound_sections (has_state_table k) (statement_tests k) sections ≡ true
    → list_all (keeps (names_of_variables k) slots) sections.checks ≡ true
    → AreSteps k first_driver sections steps
    → by_name (names_of_variables k) (process inputs checks_on now slots steps)
    ≡ executed (present k now inputs) checks_on first_driver sections (named (names_of_variables k) slots)

-- Variables hold what is of the same kinds after it.
abbrev pub StepsKeepKinds : Type 0
StepsKeepKinds =
    (inputs : List Input) (checks_on : Bool) (now : ℕ) (slots : List Slot) (steps : ProcessSteps)
    → kinds_of (process inputs checks_on now slots steps).slots ≡ kinds_of slots

-- Where variables hold what is of the same kinds as others, they are of the kinds that those are of, and those of checks hold what is kept
-- where those do.
abbrev pub KindsSuit : Type 0
KindsSuit =
    (k : Scope) (checks : List TimingCheck) (slots others : List Slot) → kinds_of slots ≡ kinds_of others
    → AreOfKinds k.variables others → list_all (keeps (names_of_variables k) others) checks ≡ true
    → AreOfKinds k.variables slots × (list_all (keeps (names_of_variables k) slots) checks ≡ true)

-- Variables begin as they are declared, which is of their kinds, those of checks hold what these keep, and no time in them is above 0.
pub record BeginWell (k w : Scope) (checks : List TimingCheck) (slots : List Slot) : Type 0 where
  pub named : named (names_of_variables w) slots ≡ first_in k w.variables
  pub kinds : AreOfKinds w.variables slots
  pub kept : list_all (keeps (names_of_variables w) slots) checks ≡ true
  pub times : HaveTimes 0 slots

-- The first scope is that in which defaults are known, and the second one that of the statements.
abbrev pub SlotsBegin : Type 0
SlotsBegin =
    (k w : Scope) (checks : List TimingCheck) (slots : List Slot) → IsDistinct bytes_eq (names_of_variables w)
    → IsDistinct bytes_eq (map kept_by checks) → list_all (is_sound_check (statement_tests w)) checks ≡ true
    → AreFirst k (names_of_variables w) w.variables checks slots → BeginWell k w checks slots
