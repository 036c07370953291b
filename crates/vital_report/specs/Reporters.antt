-- A reporter, which writes lines to a sink, and a printer, which keeps both.
use Rattle.std.specs.Prelude.{ℕ, ◌*◌, ◌<◌, ◌≤◌, Bool, true, false, ◌≡◌, ◌++◌, ◌⊎◌, List, length, take, Result, Ok, Err}
use Rattle.vital_base.specs.Faults.{Rose}
use Rattle.vital_base.specs.Sinks.{Told, appended, AppendsPrefix}
use Rattle.vital_report.specs.declared.print_error.PrintError.{PrintError}
use Rattle.vital_report.specs.declared.print_error.PrintError.TheVariants as error

-- A reporter: the bytes that it holds and has still to write, and whether it has stopped.
pub record ReporterState : Type 0 where
  pub held : List ℕ
  pub stopped : Bool

-- What the sink got in a call, and then what the reporter holds, are what it held before, and then the text.
abbrev pub PassesOn : Told → List ℕ → List ℕ → Told → List ℕ → Type 0
PassesOn told held text told' held' = (got : List ℕ) × (told' ≡ appended told got) × (got ++ held' ≡ held ++ text)

-- What is written when a text comes behind what was held: the sink got a multiple of 4,096 bytes of both, and the rest, fewer than 4,096
-- bytes, is held.
pub record WritesFull (told : Told) (held text : List ℕ) (told' : Told) (held' : List ℕ) : Type 0 where
  pub got : List ℕ
  pub count : ℕ
  pub told_is : told' ≡ appended told got
  pub split : got ++ held' ≡ held ++ text
  pub multiple : length got ≡ count * 4096
  pub rest : length held' < 4096

-- A printer: what its sink tells, the bytes that it holds and has still to write, whether it has stopped, how many faults its
-- sink had, and which sink it borrows.
pub record PrinterState : Type 0 where
  pub told : Told
  pub held : List ℕ
  pub stopped : Bool
  pub faults : ℕ
  pub lender : ℕ

-- What was written so far: what the sink got, and then what is held.
abbrev pub written : PrinterState → Told
written printer = appended printer.told printer.held

-- A text was printed after what was written before.
pub record Printed (text : List ℕ) (old new : PrinterState) : Type 0 where
  pub passes_on : PassesOn old.told old.held text new.told new.held
  pub goes_on : new.stopped ≡ false
  pub same_count : new.faults ≡ old.faults
  pub same_sink : new.lender ≡ old.lender

-- A prefix of what was to be written was written, and the sink failed, or the printer had stopped before.
pub record Stopped (text : List ℕ) (old new : PrinterState) : Type 0 where
  pub stopped : new.stopped ≡ true
  pub prefix : AppendsPrefix old.told (old.held ++ text) new.told
  pub rose_or_had_stopped : (old.stopped ≡ true) ⊎ Rose old.faults new.faults
  pub never_falls : old.faults ≤ new.faults
  pub same_sink : new.lender ≡ old.lender

-- A call that prints a text.
abbrev pub Prints : {T E : Type 0} → Result T E → List ℕ → PrinterState → PrinterState → Type 0
Prints (Ok x) text old new = Printed text old new
Prints (Err e) text old new = Stopped text old new

-- A call that prints a part of a run prints its text; or a prefix of that, where writing or memory failed.
abbrev pub PrintsPart : {T : Type 0} → Result T PrintError → List ℕ → PrinterState → PrinterState → Type 0
PrintsPart (Ok x) text old new = Printed text old new
PrintsPart (Err error.WriteFault) text old new = Stopped text old new
PrintsPart (Err error.NoMemory) text old new = (count : ℕ) × Printed (take count text) old new
