-- What is printed of the run of a network, part by part.
use Rattle.std.proofs.Common.{◌≡◌, ◌≢◌, ℕ, false, List, [], ◌++◌, Result, Ok, Err, refl, sym, ap, subst, ◌∙◌, append_assoc, arith}
use Rattle.std.proofs.lemmas.List.{append-nil}
use Rattle.std.specs.Prelude.{Bool, cond}
use Rattle.std.specs.List.{flat_map}
use Rattle.vital_base.specs.Faults.{Rose}
use Rattle.vital_kernel.specs.Kernels.{ComesTo, GoesOn, IsRunAfter, IsRunOf, PrintsRun, Simulation, told_by}
use Rattle.vital_kernel.specs.Lines.{lines_of, run_lines}
use Rattle.vital_kernel.specs.Runs.{DeltaPassed, End, Ended, HasOneRun, IsWholeRun, Run}
use Rattle.vital_kernel.specs.declared.run_error.RunError.{RunError}
use Rattle.vital_kernel.specs.declared.run_error.RunError.TheVariants as error
use Rattle.vital_kernel.specs.Networks.{Network}
use Rattle.vital_report.specs.Lines.{Said, bytes_of, end, refused_delta, text_of, version}
use Rattle.vital_report.specs.Reporters.{PrinterState, Printed, Stopped}
use Rattle.vital_stim.specs.declared.stimuli.StimLine.{StimLine}
use Rattle.vital_answers.specs.Answer.{Answer, refused}
use Rattle.vital_answers.specs.Outcome.{PrintsAnswer, Stage, all, nothing, until_fault, until_no_memory}
use Rattle.vital_run.specs.Runs.{IsRunAnswer, run_answer, run_text}
use Rattle.vital_answers.specs.declared.status.Status.{Status}
use Rattle.vital_answers.specs.declared.status.Status.TheVariants.{DeltaLimit, Done, NoMemory, ReadFault, WriteFault}
use Rattle.vital_run.proofs.OneRun.{only_told, told_of}
use Rattle.vital_answers.proofs.Parts.{Part, part_begins, part_breaks_in, part_ends, part_goes_on, part_stops}
use Rattle.vital_answers.proofs.Printing.{stage_breaks, stage_for, stage_stops}

-- ---- a part of an answer, and then its last line

last_printed : (answer : Answer) (last : Said) (result : Status) (start mid new : PrinterState) → Part start answer.bytes (bytes_of last ++ []) mid
    → result ≢ ReadFault → PrintsAnswer (refused last answer.status) result mid new → PrintsAnswer answer result start new
last_printed answer last result start mid new part no_read (all same p) =
    all same (part_ends start answer.bytes new (part_goes_on start answer.bytes (bytes_of last) [] mid new part p))
last_printed answer last result start mid new part no_read (nothing same p) = absurd (no_read same)
last_printed answer last result start mid new part no_read (until_fault same p) =
    until_fault same (part_stops start answer.bytes (bytes_of last) [] mid new part p)
last_printed answer last result start mid new part no_read (until_no_memory same w) =
    until_no_memory same (part_breaks_in start answer.bytes (bytes_of last) [] mid new part w)

-- a stage that printed the last line ends the answer
stage_ends : (answer : Answer) (last : Said) (result : Status) (start mid new : PrinterState) → Part start answer.bytes (bytes_of last ++ []) mid
    → Stage (λ other. other ≡ refused last answer.status) result mid new → Stage (λ other. other ≡ answer) result start new
stage_ends answer last result start mid new part s =
    let printed = s.prints (refused last answer.status) refl in
    let same = part.printed.same_count in
    record {
      prints = λ other e. subst (λ (a : Answer). PrintsAnswer a result start new) (sym e) (last_printed answer last result start mid new part s.no_read_fault printed);
      goes_on = s.goes_on;
      no_read_fault = s.no_read_fault;
      rose = λ e. subst (λ (count : ℕ). Rose count new.faults) same (s.rose e);
      same_count = λ e. s.same_count e ∙ same;
      never_falls = omega (arith, same, s.never_falls);
      same_sink = s.same_sink ∙ part.printed.same_sink;
    }

-- ---- the parts of what is told of a run

-- the last line of a run that ends so
abbrev last_line : ℕ → ℕ → End → Said
last_line until limit Ended = end until
last_line until limit (DeltaPassed time) = refused_delta time limit

text_is : (until limit : ℕ) (lines : List Said) (e : End)
    → (run_answer until limit lines e).bytes ≡ bytes_of version ++ (text_of lines ++ (bytes_of (last_line until limit e) ++ []))
text_is until limit lines e = told e ∙ parts (last_line until limit e)
  where
    told : (e : End) → (run_answer until limit lines e).bytes ≡ run_text lines (last_line until limit e)
    told Ended = refl
    told (DeltaPassed time) = refl

    parts : (last : Said) → run_text lines last ≡ bytes_of version ++ (text_of lines ++ (bytes_of last ++ []))
    parts last =
        append_assoc (bytes_of version) (text_of lines) (bytes_of last)
        ∙ ap (λ (rest : List ℕ). bytes_of version ++ (text_of lines ++ rest)) (sym (append-nil (bytes_of last)))

-- what is left of what is told of a run after its first line, and after its lines
abbrev after_version : ℕ → ℕ → Network → Run → List ℕ
after_version until limit n r = text_of (run_lines n r.happened) ++ (bytes_of (last_line until limit r.end) ++ [])

begins : (n : Network) (until limit : ℕ) (r : Run) (start : PrinterState) → start.stopped ≡ false
    → Part start (told_of n until limit r).bytes (bytes_of version ++ after_version until limit n r) start
begins n until limit r start going =
    let whole = (told_of n until limit r).bytes in
    subst (λ (left : List ℕ). Part start whole left start) (text_is until limit (run_lines n r.happened) r.end) (part_begins start whole going)

after_first : (n : Network) (until limit : ℕ) (r : Run) (start next : PrinterState) → start.stopped ≡ false → Printed (bytes_of version) start next
    → Part start (told_of n until limit r).bytes (after_version until limit n r) next
after_first n until limit r start next going p =
    part_goes_on start (told_of n until limit r).bytes (bytes_of version) (after_version until limit n r) start next (begins n until limit r start going) p

-- ---- the run of a simulation

-- what a call prints of the whole run of a simulation that has not begun, and to what it comes
prints_whole : (result : Result (Unit {0}) RunError) (until limit : ℕ) (k new : Simulation) (before after : PrinterState) → k.is_begun ≡ false → GoesOn result until limit k new before after
    → (r : Run) → IsWholeRun k.network k.lines until limit r → PrintsRun result (text_of (run_lines k.network r.happened)) before after × ComesTo result k new r
prints_whole result until limit k new before after unbegun g r is =
    let run : IsRunOf k until limit r = subst (λ (b : Bool). IsRunAfter b k until limit r) (sym unbegun) is in
    let told : told_by k r.happened ≡ run_lines k.network r.happened =
    ap (λ (b : Bool). cond b (flat_map (lines_of k.network) r.happened) (run_lines k.network r.happened)) unbegun in
    (subst (λ (lines : List Said). PrintsRun result (text_of lines) before after) told (g.prints r run), g.comes_to r run)

-- the first line could not be printed
pub version_stops : (k : Simulation) (until limit : ℕ) (one : HasOneRun k.network k.lines until limit) (start next : PrinterState) → start.stopped ≡ false
    → Stopped (bytes_of version) start next → Stage (IsRunAnswer k.network k.lines until limit) WriteFault start next
version_stops k until limit one start next going p =
    let n = k.network in
    let told = told_of n until limit one.run in
    stage_for (λ other. other ≡ told) (IsRunAnswer n k.lines until limit) WriteFault start next
    (stage_stops told start next going (part_stops start told.bytes (bytes_of version) (after_version until limit n one.run) start next (begins n until limit one.run start going) p))
    (only_told n k.lines until limit one)

-- the lines of the run could not be printed
pub run_stops : (k new : Simulation) (until limit : ℕ) (one : HasOneRun k.network k.lines until limit) (start mid last : PrinterState) → k.is_begun ≡ false → start.stopped ≡ false
    → Printed (bytes_of version) start mid → GoesOn (Err error.WriteFault) until limit k new mid last → Stage (IsRunAnswer k.network k.lines until limit) WriteFault start last
run_stops k new until limit one start mid last unbegun going first g =
    let n = k.network in
    let told = told_of n until limit one.run in
    let part = after_first n until limit one.run start mid going first in
    let failed = prints_whole (Err error.WriteFault) until limit k new mid last unbegun g one.run one.is in
    stage_for (λ other. other ≡ told) (IsRunAnswer n k.lines until limit) WriteFault start last
    (stage_stops told start last going
    (part_stops start told.bytes (text_of (run_lines n one.run.happened)) (bytes_of (last_line until limit one.run.end) ++ []) mid last part failed.0))
    (only_told n k.lines until limit one)

-- memory ran out in it
pub run_breaks : (k new : Simulation) (until limit : ℕ) (one : HasOneRun k.network k.lines until limit) (start mid last : PrinterState) → k.is_begun ≡ false → start.stopped ≡ false
    → Printed (bytes_of version) start mid → GoesOn (Err error.NoMemory) until limit k new mid last → Stage (IsRunAnswer k.network k.lines until limit) NoMemory start last
run_breaks k new until limit one start mid last unbegun going first g =
    let n = k.network in
    let told = told_of n until limit one.run in
    let part = after_first n until limit one.run start mid going first in
    let failed = prints_whole (Err error.NoMemory) until limit k new mid last unbegun g one.run one.is in
    stage_for (λ other. other ≡ told) (IsRunAnswer n k.lines until limit) NoMemory start last
    (stage_breaks told start last
    (part_breaks_in start told.bytes (text_of (run_lines n one.run.happened)) (bytes_of (last_line until limit one.run.end) ++ []) mid last part failed.0))
    (only_told n k.lines until limit one)

-- it ended so, and then the last line is printed
run_ends_so : (n : Network) (lines : List StimLine) (until limit : ℕ) (one : HasOneRun n lines until limit) (e : End) (result : Status) (start mid new last : PrinterState) → start.stopped ≡ false
    → one.run.end ≡ e → Printed (bytes_of version) start mid → Printed (text_of (run_lines n one.run.happened)) mid new
    → Stage (λ other. other ≡ refused (last_line until limit e) (run_answer until limit [] e).status) result new last → Stage (IsRunAnswer n lines until limit) result start last
run_ends_so n lines until limit one e result start mid new last going is first then s =
    let told = told_of n until limit one.run in
    let part = after_first n until limit one.run start mid going first in
    let text = text_of (run_lines n one.run.happened) in
    let line = last_line until limit one.run.end in
    let left = part_goes_on start told.bytes text (bytes_of line ++ []) mid new part then in
    let ended : Stage (λ other. other ≡ refused line (run_answer until limit [] one.run.end).status) result new last =
    subst (λ (x : End). Stage (λ other. other ≡ refused (last_line until limit x) (run_answer until limit [] x).status) result new last) (sym is) s in
    let same : (run_answer until limit [] one.run.end).status ≡ told.status = status_is one.run.end in
    stage_for (λ other. other ≡ told) (IsRunAnswer n lines until limit) result start last
    (stage_ends told line result start new last left (subst (λ (status : Status). Stage (λ other. other ≡ refused line status) result new last) same ended))
    (only_told n lines until limit one)
  where
    status_is : (x : End) → (run_answer until limit [] x).status ≡ (run_answer until limit (run_lines n one.run.happened) x).status
    status_is Ended = refl
    status_is (DeltaPassed time) = refl

-- the end time came
pub run_ends : (x : Unit {0}) (k later : Simulation) (until limit : ℕ) (one : HasOneRun k.network k.lines until limit) (result : Status) (start mid new last : PrinterState) → k.is_begun ≡ false
    → start.stopped ≡ false → Printed (bytes_of version) start mid → GoesOn (Ok x) until limit k later mid new → Stage (λ other. other ≡ refused (end until) Done) result new last
    → Stage (IsRunAnswer k.network k.lines until limit) result start last
run_ends x k later until limit one result start mid new last unbegun going first g s =
    let told = prints_whole (Ok x) until limit k later mid new unbegun g one.run one.is in
    run_ends_so k.network k.lines until limit one Ended result start mid new last going told.1.0 first told.0 s

-- the limit of delta numbers was reached
pub run_passes : (time : ℕ) (k later : Simulation) (until limit : ℕ) (one : HasOneRun k.network k.lines until limit) (result : Status) (start mid new last : PrinterState) → k.is_begun ≡ false
    → start.stopped ≡ false → Printed (bytes_of version) start mid → GoesOn (Err (error.DeltaLimit time)) until limit k later mid new
    → Stage (λ other. other ≡ refused (refused_delta time limit) DeltaLimit) result new last → Stage (IsRunAnswer k.network k.lines until limit) result start last
run_passes time k later until limit one result start mid new last unbegun going first g s =
    let told = prints_whole (Err (error.DeltaLimit time)) until limit k later mid new unbegun g one.run one.is in
    run_ends_so k.network k.lines until limit one (DeltaPassed time) result start mid new last going told.1.0 first told.0 s

-- and the printer goes on
pub ended_goes_on : (x : Unit {0}) (k later : Simulation) (until limit : ℕ) (one : HasOneRun k.network k.lines until limit) (mid new : PrinterState) → k.is_begun ≡ false
    → GoesOn (Ok x) until limit k later mid new → new.stopped ≡ false
ended_goes_on x k later until limit one mid new unbegun g = (prints_whole (Ok x) until limit k later mid new unbegun g one.run one.is).0.goes_on

pub passed_goes_on : (time : ℕ) (k later : Simulation) (until limit : ℕ) (one : HasOneRun k.network k.lines until limit) (mid new : PrinterState) → k.is_begun ≡ false
    → GoesOn (Err (error.DeltaLimit time)) until limit k later mid new → new.stopped ≡ false
passed_goes_on time k later until limit one mid new unbegun g = (prints_whole (Err (error.DeltaLimit time)) until limit k later mid new unbegun g one.run one.is).0.goes_on
