-- From what a stage did to what the run of a job did.
use Rattle.std.proofs.Common.{◌≡◌, ℕ, true, false, List, Option, Result, Ok, Err, refl, ap, subst, arith}
use Rattle.std.specs.Prelude.{IfSome}
use Rattle.vital_base.specs.Shelves.{Files}
use Rattle.vital_report.specs.Reporters.{PrinterState}
use Rattle.vital_answers.specs.Answer.{Answer}
use Rattle.vital_answers.specs.Loading.{too_long, follows_loading}
use Rattle.vital_answers.specs.Outcome.{PrintsAnswer, all, nothing, until_fault, until_no_memory, Stage, Runs}
use Rattle.vital_answers.specs.Refusals.{refused_words}
use Rattle.vital_run.specs.Stages.{IsLoadedAnswer, IsJobAnswer}
use Rattle.vital_answers.specs.declared.loading.Source.{Source}
use Rattle.vital_answers.specs.declared.status.Status.{Status}
use Rattle.vital_answers.specs.declared.status.Status.TheVariants.{Limit, ReadFault, WriteFault, NoMemory}
use Rattle.vital_answers.proofs.Printing.{if_told, if_also, stage_without_memory}
use Rattle.vital_words.specs.declared.job.Job.{Job}
use Rattle.vital_words.specs.declared.refusal.UsageFault.{UsageFault}

-- a stage that comes after all reading is the rest of the run
pub stage_runs : (IsAnswer : Files → Answer → Type 0) (P : Answer → Type 0) (status : Status) (told : Option Files) (is_steady : Type 0) (before after : ℕ) (old new : PrinterState)
    → IfSome told (λ files. (answer : Answer) → IsAnswer files answer → P answer) → after ≡ before → Stage P status old new → Runs IsAnswer status told is_steady before after old new
stage_runs IsAnswer P status told is_steady before after old new within same s =
    record {
      prints = if_also told _ _ within (λ files w answer h. s.prints answer (w answer h));
      goes_on = s.goes_on;
      read_fault_rose = λ e. absurd (s.no_read_fault e);
      read_fault_is_the_answer = λ e steady. absurd (s.no_read_fault e);
      read_fault_prints_nothing = λ e. absurd (s.no_read_fault e);
      write_fault_rose = s.rose;
      same_shelf_count = λ _. same;
      same_sink_count = s.same_count;
      shelf_never_falls = omega (arith, same);
      sink_never_falls = s.never_falls;
      same_sink = s.same_sink;
    }

-- where memory ran out before anything was printed
pub runs_without_memory : (IsAnswer : Files → Answer → Type 0) (told : Option Files) (is_steady : Type 0) (before after : ℕ) (old : PrinterState)
    → after ≡ before → old.stopped ≡ false → Runs IsAnswer NoMemory told is_steady before after old old
runs_without_memory IsAnswer told is_steady before after old same going =
    stage_runs IsAnswer (λ _. Unit {0}) NoMemory told is_steady before after old old (if_told told _ (λ files answer h. tt)) same (stage_without_memory (λ _. Unit {0}) old going)

-- files that were loaded
pub loaded_answer : (job : Job) (sources : List Source) (outcome : Result (List Source) Answer) → outcome ≡ Ok sources
    → (answer : Answer) → IsLoadedAnswer job outcome answer → IsLoadedAnswer job (Ok sources) answer
loaded_answer job sources outcome e answer h = subst (λ (o : Result (List Source) Answer). IsLoadedAnswer job o answer) e h

-- a file that is too long
pub long_answer : (job : Job) (name : List ℕ) (outcome : Result (List Source) Answer) → outcome ≡ Err (too_long name)
    → (answer : Answer) → IsLoadedAnswer job outcome answer → answer ≡ too_long name
long_answer job name outcome e answer h = subst (λ (o : Result (List Source) Answer). IsLoadedAnswer job o answer) e h

-- words that are refused
pub words_answer : (fault : UsageFault) (files : Files) (j : Result Job UsageFault) → j ≡ Err fault
    → (answer : Answer) → IsJobAnswer files j answer → answer ≡ refused_words fault
words_answer fault files j e answer h = subst (λ (o : Result Job UsageFault). IsJobAnswer files o answer) e h

-- the status of a file that is too long is none of those that follow loading
pub long_is_not_loaded : (name : List ℕ) (s : Status) (old new : PrinterState) → Stage (λ answer. answer ≡ too_long name) s old new → follows_loading s ≡ true → ⊥
long_is_not_loaded name s old new stage follows = ends (stage.prints (too_long name) refl)
  where
    is_not : (t : Status) → follows_loading t ≡ false → s ≡ t → ⊥
    is_not t none e = let same : follows_loading s ≡ follows_loading t = ap follows_loading e in cc

    ends : PrintsAnswer (too_long name) s old new → ⊥
    ends (all e p) = is_not Limit refl e
    ends (nothing e p) = is_not ReadFault refl e
    ends (until_fault e p) = is_not WriteFault refl e
    ends (until_no_memory e p) = is_not NoMemory refl e
