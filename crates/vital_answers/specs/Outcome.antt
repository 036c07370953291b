-- What a run did, beside what the definition answers.
use Rattle.std.specs.Prelude.{ℕ, ◌≡◌, ◌≢◌, ◌≤◌, Bool, true, false, [], take, Option, IfSome}
use Rattle.vital_base.specs.Faults.{Rose}
use Rattle.vital_base.specs.Shelves.{Files}
use Rattle.vital_base.specs.Sinks.{Told, appended, AppendsPrefix}
use Rattle.vital_report.specs.Reporters.{PrinterState, Printed, Stopped}
use Rattle.vital_answers.specs.declared.status.Status.{Status}
use Rattle.vital_answers.specs.declared.status.Status.TheVariants.{ReadFault, WriteFault, NoMemory}
use Rattle.vital_answers.specs.Answer.{Answer}

-- A run with this status, over a sink that told the old before it and the new after it, gave the answer: all of it; or reading
-- failed, and nothing was written; or writing or memory failed, and a prefix of it was written.
pub data Gives (answer : Answer) (status : Status) (old new : Told) : Type 0 where
  complete : status ≡ answer.status → new ≡ appended old answer.bytes → Gives answer status old new
  reading_failed : status ≡ ReadFault → new ≡ old → Gives answer status old new
  writing_failed : status ≡ WriteFault → AppendsPrefix old answer.bytes new → Gives answer status old new
  memory_failed : status ≡ NoMemory → AppendsPrefix old answer.bytes new → Gives answer status old new

-- Is it the status of a run that failed, and not of an answer?
abbrev pub is_failure : Status → Bool
is_failure ReadFault = true
is_failure WriteFault = true
is_failure NoMemory = true
is_failure other = false

-- ---- what is printed, of which the reporter may still hold the last bytes

-- Of the answer all was printed; or nothing, where reading failed; or a prefix, where writing or memory failed.
pub data PrintsAnswer (answer : Answer) (status : Status) (old new : PrinterState) : Type 0 where
  all : status ≡ answer.status → Printed answer.bytes old new → PrintsAnswer answer status old new
  nothing : status ≡ ReadFault → new ≡ old → PrintsAnswer answer status old new
  until_fault : status ≡ WriteFault → Stopped answer.bytes old new → PrintsAnswer answer status old new
  until_no_memory : status ≡ NoMemory → (count : ℕ) × Printed (take count answer.bytes) old new → PrintsAnswer answer status old new

-- What a stage that reads no file did, for whatever is the answer: what it printed of that, whether its printer goes on, and what
-- became of the sink's count of faults.
pub record Stage (IsAnswer : Answer → Type 0) (status : Status) (old new : PrinterState) : Type 0 where
  pub prints : (answer : Answer) → IsAnswer answer → PrintsAnswer answer status old new
  pub goes_on : is_failure status ≡ false → new.stopped ≡ false
  pub no_read_fault : status ≢ ReadFault
  pub rose : status ≡ WriteFault → Rose old.faults new.faults
  pub same_count : status ≢ WriteFault → new.faults ≡ old.faults
  pub never_falls : old.faults ≤ new.faults
  pub same_sink : new.lender ≡ old.lender

-- The same of all stages of a job, over a shelf that told these files, was steady or not, and had these counts of faults before
-- and after.
pub record Runs (IsAnswer : Files → Answer → Type 0) (status : Status) (told : Option Files) (is_steady : Type 0) (before after : ℕ) (old new : PrinterState) : Type 0 where
  pub prints : IfSome told (λ files. (answer : Answer) → IsAnswer files answer → PrintsAnswer answer status old new)
  pub goes_on : is_failure status ≡ false → new.stopped ≡ false
  pub read_fault_rose : status ≡ ReadFault → Rose before after
  pub read_fault_is_the_answer : status ≡ ReadFault → is_steady → IfSome told (λ files. (answer : Answer) → IsAnswer files answer → answer.status ≡ ReadFault)
  pub read_fault_prints_nothing : status ≡ ReadFault → new ≡ old
  pub write_fault_rose : status ≡ WriteFault → Rose old.faults new.faults
  pub same_shelf_count : status ≢ ReadFault → after ≡ before
  pub same_sink_count : status ≢ WriteFault → new.faults ≡ old.faults
  pub shelf_never_falls : before ≤ after
  pub sink_never_falls : old.faults ≤ new.faults
  pub same_sink : new.lender ≡ old.lender

-- What is held of an answer was written at its end, so that nothing is held any more, or writing failed. A run that failed before
-- is left as it is.
pub data Finishes (status ended : Status) (old new : PrinterState) : Type 0 where
  left : is_failure status ≡ true → ended ≡ status → new ≡ old → Finishes status ended old new
  written : is_failure status ≡ false → ended ≡ status → Printed [] old new → new.held ≡ [] → Finishes status ended old new
  failed : is_failure status ≡ false → ended ≡ WriteFault → Stopped [] old new → Finishes status ended old new
