-- What a check printed, as a stage of a run.
use Rattle.std.proofs.Common.{◌≡◌, ◌≢◌, ℕ, true, false, List, ◌++◌, Some, None, ap, ◌∙◌}
use Rattle.std.specs.Prelude.{Bool, cond, Option}
use Rattle.std.specs.List.{list_any}
use Rattle.vital_level0.specs.Breaches.{HasOneFirst}
use Rattle.vital_level1.specs.declared.level.CellLevel.{CellLevel}
use Rattle.vital_limits.specs.declared.passed.PassedLimit.{PassedLimit}
use Rattle.vital_nodes.specs.declared.unit.Units.{Units}
use Rattle.vital_report.specs.Reporters.{PrinterState, Printed, Stopped}
use Rattle.vital_answers.specs.Answer.{Answer}
use Rattle.vital_report.specs.Lines.{text_of}
use Rattle.vital_answers.specs.Cells.{AreJudged, IsCellsAnswer, cells, cells_answer, is_below_level1, level_lines, limit_lines, status_of}
use Rattle.vital_answers.specs.Outcome.{Stage}
use Rattle.vital_answers.specs.declared.status.Status.TheVariants.{Done, Found, ReadFault, WriteFault}
use Rattle.vital_answers.proofs.Judged.{one_finding}
use Rattle.vital_answers.proofs.Printing.{stage_for, stage_prints, stage_stops}
use Rattle.vital_words.specs.declared.job.NamedFile.{NamedFile}

found_or_done : (found : Bool) → (cond found Found Done ≢ ReadFault) × (cond found Found Done ≢ WriteFault)
found_or_done true = (λ e. absurd cc, λ e. absurd cc)
found_or_done false = (λ e. absurd cc, λ e. absurd cc)

no_fault : (levels : List CellLevel) (limit : Option PassedLimit) → (status_of levels limit ≢ ReadFault) × (status_of levels limit ≢ WriteFault)
no_fault levels (Some passed) = (λ e. absurd cc, λ e. absurd cc)
no_fault levels None = found_or_done (list_any is_below_level1 levels)

-- each answer is that of this finding
pub is_answer : HasOneFirst → (files : List NamedFile) (library : List Units) (levels : List CellLevel) (limit : Option PassedLimit) → AreJudged (cells library) levels limit
    → (answer : Answer) → IsCellsAnswer files library answer → answer ≡ cells_answer files (cells library) levels limit
is_answer one files library levels limit are answer is =
    let same = one_finding one (cells library) levels is.0 limit is.1 are is.2 in
    is.3
    ∙ ap (λ (ls : List CellLevel). cells_answer files (cells library) ls is.1) same.0
    ∙ ap (λ (p : Option PassedLimit). cells_answer files (cells library) levels p) same.1

abbrev pub cells_text : List NamedFile → List Units → List CellLevel → Option PassedLimit → List ℕ
cells_text files library levels limit = text_of (level_lines files (cells library) levels) ++ text_of (limit_lines files limit)

pub cells_printed : HasOneFirst → (files : List NamedFile) (library : List Units) (levels : List CellLevel) (limit : Option PassedLimit) → AreJudged (cells library) levels limit
    → (old new : PrinterState) → Printed (cells_text files library levels limit) old new → Stage (IsCellsAnswer files library) (status_of levels limit) old new
cells_printed one files library levels limit are old new printed =
    let answer = cells_answer files (cells library) levels limit in
    let well = no_fault levels limit in
    stage_for (λ other. other ≡ answer) (IsCellsAnswer files library) (status_of levels limit) old new (stage_prints answer old new well.0 well.1 printed) (is_answer one files library levels limit are)

pub cells_stopped : HasOneFirst → (files : List NamedFile) (library : List Units) (levels : List CellLevel) (limit : Option PassedLimit) → AreJudged (cells library) levels limit
    → (old new : PrinterState) → old.stopped ≡ false → Stopped (cells_text files library levels limit) old new → Stage (IsCellsAnswer files library) WriteFault old new
cells_stopped one files library levels limit are old new going stopped =
    let answer = cells_answer files (cells library) levels limit in
    stage_for (λ other. other ≡ answer) (IsCellsAnswer files library) WriteFault old new (stage_stops answer old new going stopped) (is_answer one files library levels limit are)
