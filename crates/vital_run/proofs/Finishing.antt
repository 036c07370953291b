-- From what the stages of a run printed to what it wrote at its end.
use Rattle.std.proofs.Common.{◌≡◌, ℕ, true, false, List, [], ◌++◌, Option, refl, sym, ap, subst, ◌∙◌}
use Rattle.std.specs.Prelude.{IfSome}
use Rattle.std.proofs.lemmas.List.{append-nil}
use Rattle.vital_base.specs.Shelves.{Files}
use Rattle.vital_base.specs.Sinks.{Told}
use Rattle.vital_report.specs.Reporters.{PrinterState}
use Rattle.vital_answers.specs.Answer.{Answer}
use Rattle.vital_answers.specs.Outcome.{Gives, complete, reading_failed, writing_failed, memory_failed, is_failure, PrintsAnswer, all, nothing, until_fault, until_no_memory, Finishes, left, written, failed}
use Rattle.vital_run.specs.Stages.{IsJobAnswer, IsOnlyAnswer}
use Rattle.vital_answers.specs.declared.status.Status.{Status}
use Rattle.vital_answers.specs.declared.status.Status.TheVariants as status
use Rattle.vital_run.proofs.OneAnswer.{Laws, given}
use Rattle.vital_answers.proofs.Printing.{if_also}
use Rattle.vital_answers.proofs.Texts.{printed_then, stopped_then, sink_got, sink_got_part, sink_stopped, prefix_of_first}
use Rattle.vital_words.specs.Jobs.{job}

-- an answer's status is that of no failure
no_failure : (s f : Status) → is_failure f ≡ true → is_failure s ≡ false → s ≡ f → ⊥
no_failure s f is not same = let e : is_failure s ≡ is_failure f = ap is_failure same in cc

-- a run that failed wrote a prefix
failed_gives : (answer : Answer) (s : Status) (old mid : PrinterState) → old.held ≡ [] → is_failure s ≡ true → (s ≡ status.ReadFault → mid ≡ old)
    → PrintsAnswer answer s old mid → Gives answer s old.told mid.told
failed_gives answer status.ReadFault old mid none is unread p = reading_failed refl (ap (λ (x : PrinterState). x.told) (unread refl))
failed_gives answer status.WriteFault old mid none is unread (all same p) = writing_failed refl (sink_got_part answer.bytes old mid none p)
failed_gives answer status.WriteFault old mid none is unread (nothing same p) = absurd cc
failed_gives answer status.WriteFault old mid none is unread (until_fault same p) = writing_failed refl (sink_stopped answer.bytes old mid none p)
failed_gives answer status.WriteFault old mid none is unread (until_no_memory same p) = absurd cc
failed_gives answer status.NoMemory old mid none is unread (all same p) = memory_failed refl (sink_got_part answer.bytes old mid none p)
failed_gives answer status.NoMemory old mid none is unread (nothing same p) = absurd cc
failed_gives answer status.NoMemory old mid none is unread (until_fault same p) = absurd cc
failed_gives answer status.NoMemory old mid none is unread (until_no_memory same (count, p)) =
    memory_failed refl (prefix_of_first old.told mid.told count answer.bytes (sink_got_part _ old mid none p))
failed_gives answer s old mid none is unread p = absurd cc

-- what a run gave, once what it held was written
pub gives : (answer : Answer) (s ended : Status) (old mid new : PrinterState) → old.held ≡ [] → (s ≡ status.ReadFault → mid ≡ old)
    → PrintsAnswer answer s old mid → Finishes s ended mid new → Gives answer ended old.told new.told
gives answer s ended old mid new none unread p (left is e same) =
    rw (e, same) (failed_gives answer s old mid none is unread p)
gives answer s ended old mid new none unread (all same p) (written not e more empty) =
    complete (e ∙ same) (rw append-nil at (sink_got (answer.bytes ++ []) old new none empty (printed_then answer.bytes [] old mid new p more)))
gives answer s ended old mid new none unread (nothing same p) (written not e more empty) = absurd (no_failure s status.ReadFault refl not same)
gives answer s ended old mid new none unread (until_fault same p) (written not e more empty) = absurd (no_failure s status.WriteFault refl not same)
gives answer s ended old mid new none unread (until_no_memory same p) (written not e more empty) = absurd (no_failure s status.NoMemory refl not same)
gives answer s ended old mid new none unread (all same p) (failed not e stops) =
    writing_failed e (rw append-nil at (sink_stopped (answer.bytes ++ []) old new none (stopped_then answer.bytes [] old mid new p stops)))
gives answer s ended old mid new none unread (nothing same p) (failed not e stops) = absurd (no_failure s status.ReadFault refl not same)
gives answer s ended old mid new none unread (until_fault same p) (failed not e stops) = absurd (no_failure s status.WriteFault refl not same)
gives answer s ended old mid new none unread (until_no_memory same p) (failed not e stops) = absurd (no_failure s status.NoMemory refl not same)

-- what the whole run gave
pub answered : Laws → (words same : List (List ℕ)) (told : Option Files) (s ended : Status) (old mid new : PrinterState) (before after : Told)
    → same ≡ words → old.held ≡ [] → old.told ≡ before → after ≡ new.told → (s ≡ status.ReadFault → mid ≡ old)
    → IfSome told (λ files. (answer : Answer) → IsJobAnswer files (job same) answer → PrintsAnswer answer s old mid) → Finishes s ended mid new
    → IfSome told (λ files. (answer : Answer) × IsOnlyAnswer words files answer × Gives answer ended before after)
answered laws words same told s ended old mid new before after e none first last unread prints finishes =
    if_also told _ _ prints (λ files p. given laws words files ended before after (λ answer is.
    subst (λ (t : Told). Gives answer ended t after) first
    (subst (λ (t : Told). Gives answer ended old.told t) (sym last)
    (gives answer s ended old mid new none unread (p answer (subst (λ (ws : List (List ℕ)). IsJobAnswer files (job ws) answer) (sym e) is)) finishes))))

pub same_lender : (s ended : Status) (mid new : PrinterState) → Finishes s ended mid new → new.lender ≡ mid.lender
same_lender s ended mid new (left is e same) = ap (λ (x : PrinterState). x.lender) same
same_lender s ended mid new (written not e more empty) = more.same_sink
same_lender s ended mid new (failed not e stops) = stops.same_sink
