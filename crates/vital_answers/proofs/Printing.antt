-- From what was printed to what a stage of a run did.
use Rattle.std.proofs.Common.{◌≡◌, ◌≢◌, ℕ, ◌+◌, false, List, length, take, Option, Some, None, refl, sym, subst, ◌∙◌, arith}
use Rattle.std.proofs.Math.Seq.{take-append-add}
use Rattle.std.specs.Prelude.{IfSome}
use Rattle.vital_base.specs.Faults.{Rose}
use Rattle.vital_report.specs.Lines.{Said, text_of}
use Rattle.vital_report.specs.Reporters.{PrinterState, Printed, Stopped}
use Rattle.vital_answers.specs.declared.status.Status.TheVariants.{ReadFault, WriteFault, NoMemory}
use Rattle.vital_answers.specs.declared.status.Status.{Status}
use Rattle.vital_answers.specs.Answer.{Answer, before}
use Rattle.vital_answers.specs.Outcome.{PrintsAnswer, Stage, all, nothing, until_fault, until_no_memory}
use Rattle.vital_answers.proofs.Texts.{printed_none, printed_then, stopped_rose, stopped_then, stopped_within}

-- all was printed
pub stage_prints : (answer : Answer) (old new : PrinterState) → answer.status ≢ ReadFault → answer.status ≢ WriteFault → Printed answer.bytes old new
    → Stage (λ other. other ≡ answer) answer.status old new
stage_prints answer old new no_read no_write p =
    record {
      prints = λ other e. subst (λ (x : Answer). PrintsAnswer x answer.status old new) (sym e) (all refl p);
      goes_on = λ _. p.goes_on;
      no_read_fault = no_read;
      rose = λ e. absurd (no_write e);
      same_count = λ e. p.same_count;
      never_falls = omega (arith, p.same_count);
      same_sink = p.same_sink;
    }

-- a prefix was printed
pub stage_stops : (answer : Answer) (old new : PrinterState) → old.stopped ≡ false → Stopped answer.bytes old new → Stage (λ other. other ≡ answer) WriteFault old new
stage_stops answer old new going p =
    record {
      prints = λ other e. subst (λ (x : Answer). PrintsAnswer x WriteFault old new) (sym e) (until_fault refl p);
      goes_on = λ e. absurd cc;
      no_read_fault = λ e. absurd cc;
      rose = λ e. stopped_rose answer.bytes old new going p;
      same_count = λ other. absurd (other refl);
      never_falls = p.never_falls;
      same_sink = p.same_sink;
    }

-- memory ran out when a prefix was printed
pub stage_breaks : (answer : Answer) (old new : PrinterState) → (count : ℕ) × Printed (take count answer.bytes) old new → Stage (λ other. other ≡ answer) NoMemory old new
stage_breaks answer old new (count, p) =
    record {
      prints = λ other e. subst (λ (x : Answer). PrintsAnswer x NoMemory old new) (sym e) (until_no_memory refl (count, p));
      goes_on = λ e. absurd cc;
      no_read_fault = λ e. absurd cc;
      rose = λ e. absurd cc;
      same_count = λ e. p.same_count;
      never_falls = omega (arith, p.same_count);
      same_sink = p.same_sink;
    }

-- nothing was printed
pub stage_without_memory : (IsAnswer : Answer → Type 0) (old : PrinterState) → old.stopped ≡ false → Stage IsAnswer NoMemory old old
stage_without_memory IsAnswer old going =
    record {
      prints = λ answer h. until_no_memory refl (0, printed_none old going);
      goes_on = λ e. going;
      no_read_fault = λ e. absurd cc;
      rose = λ e. absurd cc;
      same_count = λ e. refl;
      never_falls = omega arith;
      same_sink = refl;
    }

-- what is printed for each answer of one kind is printed for those of another that are of the first
pub stage_for : (P Q : Answer → Type 0) (status : Status) (old new : PrinterState) → Stage P status old new → ((answer : Answer) → Q answer → P answer) → Stage Q status old new
stage_for P Q status old new s within =
    record {
      prints = λ answer h. s.prints answer (within answer h);
      goes_on = s.goes_on;
      no_read_fault = s.no_read_fault;
      rose = s.rose;
      same_count = s.same_count;
      never_falls = s.never_falls;
      same_sink = s.same_sink;
    }

-- ---- lines, and then the rest of an answer

abbrev pub IsAfter : List Said → (Answer → Type 0) → Answer → Type 0
IsAfter lines P answer = (rest : Answer) × P rest × (answer ≡ before lines rest)

after : (lines : List Said) (rest : Answer) (status : Status) (start now next : PrinterState) → status ≢ ReadFault → Printed (text_of lines) start now
    → PrintsAnswer rest status now next → PrintsAnswer (before lines rest) status start next
after lines rest status start now next no_read p (all e q) = all e (printed_then (text_of lines) rest.bytes start now next p q)
after lines rest status start now next no_read p (nothing e same) = absurd (no_read e)
after lines rest status start now next no_read p (until_fault e q) = until_fault e (stopped_then (text_of lines) rest.bytes start now next p q)
after lines rest status start now next no_read p (until_no_memory e (count, q)) =
    until_no_memory e (
      length (text_of lines) + count,
      subst (λ (text : List ℕ). Printed text start next) (sym (take-append-add (text_of lines) rest.bytes count)) (printed_then (text_of lines) (take count rest.bytes) start now next p q),
    )

-- the lines were printed, and then came a stage
pub stage_after : (lines : List Said) (P : Answer → Type 0) (status : Status) (start now next : PrinterState) → Printed (text_of lines) start now → Stage P status now next
    → Stage (IsAfter lines P) status start next
stage_after lines P status start now next p s =
    record {
      prints = λ answer (rest, is, same). subst (λ (x : Answer). PrintsAnswer x status start next) (sym same) (after lines rest status start now next s.no_read_fault p (s.prints rest is));
      goes_on = s.goes_on;
      no_read_fault = s.no_read_fault;
      rose = λ e. subst (λ (n : ℕ). Rose n next.faults) p.same_count (s.rose e);
      same_count = λ other. s.same_count other ∙ p.same_count;
      never_falls = omega (arith, p.same_count, s.never_falls);
      same_sink = s.same_sink ∙ p.same_sink;
    }

-- the sink failed in the lines
pub stage_stops_before : (lines : List Said) (P : Answer → Type 0) (start next : PrinterState) → start.stopped ≡ false → Stopped (text_of lines) start next → Stage (IsAfter lines P) WriteFault start next
stage_stops_before lines P start next going p =
    record {
      prints = λ answer (rest, is, same). subst (λ (x : Answer). PrintsAnswer x WriteFault start next) (sym same) (until_fault refl (stopped_within (text_of lines) rest.bytes start next p));
      goes_on = λ e. absurd cc;
      no_read_fault = λ e. absurd cc;
      rose = λ e. stopped_rose (text_of lines) start next going p;
      same_count = λ other. absurd (other refl);
      never_falls = p.never_falls;
      same_sink = p.same_sink;
    }

-- what holds of all files holds of those that are told
pub if_told : {F : Type 0} (o : Option F) (P : F → Type 0) → ((x : F) → P x) → IfSome o P
if_told None P h = tt
if_told (Some x) P h = h x

pub if_also : {F : Type 0} (o : Option F) (P Q : F → Type 0) → IfSome o P → ((x : F) → P x → Q x) → IfSome o Q
if_also None P Q p h = tt
if_also (Some x) P Q p h = h x p
