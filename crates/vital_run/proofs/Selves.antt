-- What a job that `self` runs gave, and what is told of it.
use Rattle.std.proofs.Common.{◌≡◌, ℕ, ◌+◌, ◌<◌, true, false, List, [], ◌++◌, length, drop, get_or, map, refl, sym, ap, subst, ◌∙◌}
use Rattle.std.proofs.lemmas.List.{drop_more}
use Rattle.vital_base.specs.Sinks.{Told, got, tallied, appended}
use Rattle.vital_base.specs.Tallies.{Tally, count, no_lines}
use Rattle.vital_report.specs.Lines.{bytes_of, said, text_of}
use Rattle.vital_report.specs.Reporters.{PrinterState}
use Rattle.vital_report.specs.declared.line.Line.{Line}
use Rattle.vital_answers.specs.Answer.{Answer}
use Rattle.vital_answers.specs.Outcome.{Finishes, Gives, complete, reading_failed, writing_failed, memory_failed, PrintsAnswer, is_failure}
use Rattle.vital_run.specs.Selves.{last_line, repeats_last_line, self_answer, tallied_answer, told_of_job}
use Rattle.vital_answers.specs.declared.status.Status.{Status}
use Rattle.vital_answers.specs.declared.status.Status.TheVariants as status
use Rattle.vital_run.proofs.Finishing.{gives}
use Rattle.vital_words.specs.declared.job.SelfRun.{SelfRun}

-- what was given where nothing failed: the whole answer
pub gives_all : (inner : Answer) (s : Status) (old new : Told) → is_failure s ≡ false → Gives inner s old new → (s ≡ inner.status) × (new ≡ appended old inner.bytes)
gives_all inner s old new well (complete same came) = (same, came)
gives_all inner s old new well (reading_failed same came) = absurd (let e : is_failure s ≡ true = ap is_failure same in cc)
gives_all inner s old new well (writing_failed same came) = absurd (let e : is_failure s ≡ true = ap is_failure same in cc)
gives_all inner s old new well (memory_failed same came) = absurd (let e : is_failure s ≡ true = ap is_failure same in cc)

-- a job that is refused did not fail
pub refused_well : (s : Status) → repeats_last_line s ≡ true → is_failure s ≡ false
refused_well status.Done is = absurd cc
refused_well status.ReadFault is = absurd cc
refused_well status.WriteFault is = absurd cc
refused_well status.NoMemory is = absurd cc
refused_well s is = refl

-- what is told of a job that is refused
pub told_refused : (run : SelfRun) (s : Status) (bytes : List ℕ) → repeats_last_line s ≡ true → told_of_job run s bytes ≡ last_line s bytes
told_refused run status.Done bytes is = absurd cc
told_refused run s bytes is = refl

-- a status that is none of the others is that of a refusal
pub is_refused : (s : Status) → (s ≡ status.Done → ⊥) → (s ≡ status.ReadFault → ⊥) → (s ≡ status.WriteFault → ⊥) → (s ≡ status.NoMemory → ⊥) → repeats_last_line s ≡ true
is_refused status.Done done read write memory = absurd (done refl)
is_refused status.ReadFault done read write memory = absurd (read refl)
is_refused status.WriteFault done read write memory = absurd (write refl)
is_refused status.NoMemory done read write memory = absurd (memory refl)
is_refused s done read write memory = refl

-- where a job ended well its tally is told
pub done_told : (run : SelfRun) (inner : Answer) (first tally : Tally) → first ≡ no_lines → Gives inner status.Done (tallied first) (tallied tally) → self_answer run inner ≡ tallied_answer run tally
done_told run inner first tally none gave =
    let all = gives_all inner status.Done (tallied first) (tallied tally) refl gave in
    let same : tally ≡ count first inner.bytes = cc in
    ap (λ (s : Status). told_of_job run s inner.bytes) (sym all.0) ∙ ap (λ (t : Tally). tallied_answer run (count t inner.bytes)) (sym none) ∙ ap (tallied_answer run) (sym same)

-- where it was refused its last line is told, whatever the sink that it ran over
pub refusal_told : (run : SelfRun) (inner : Answer) (s : Status) (old new : Told) → repeats_last_line s ≡ true → Gives inner s old new → self_answer run inner ≡ last_line s inner.bytes
refusal_told run inner s old new is gave =
    let all = gives_all inner s old new (refused_well s is) gave in
    ap (λ (t : Status). told_of_job run t inner.bytes) (sym all.0) ∙ told_refused run s inner.bytes is

-- over memory all bytes of an answer are kept
pub memory_holds : (inner : Answer) (s : Status) (first bytes : List ℕ) → first ≡ [] → is_failure s ≡ false → Gives inner s (got first) (got bytes) → bytes ≡ inner.bytes
memory_holds inner s first bytes none well gave =
    let all = gives_all inner s (got first) (got bytes) well gave in
    let same : bytes ≡ first ++ inner.bytes = cc in
    same ∙ ap (λ (xs : List ℕ). xs ++ inner.bytes) none

-- what a job gave over a sink, once what was held was written
pub gives_over : (answer : Answer) (s ended : Status) (old mid new : PrinterState) (before after : Told) → old.held ≡ [] → old.told ≡ before → after ≡ new.told → (s ≡ status.ReadFault → mid ≡ old)
    → PrintsAnswer answer s old mid → Finishes s ended mid new → Gives answer ended before after
gives_over answer s ended old mid new before after none first last unread prints finishes =
    subst (λ (t : Told). Gives answer ended t after) first
    (subst (λ (t : Told). Gives answer ended old.told t) (sym last) (gives answer s ended old mid new none unread prints finishes))

-- the next line, and then the others
pub next_line : (lines : List Line) (i : ℕ) (line : Line) → i < length lines → line ≡ get_or lines i line
    → text_of (map said (drop i lines)) ≡ bytes_of (said line) ++ text_of (map said (drop (i + 1) lines))
next_line lines i line within is =
    ap (λ (left : List Line). text_of (map said left)) (drop_more lines i line within)
    ∙ ap (λ (x : Line). bytes_of (said x) ++ text_of (map said (drop (i + 1) lines))) (sym is)
