-- A text that calls write part by part.
use Rattle.std.proofs.Common.{◌≡◌, ℕ, false, List, [], ◌++◌, length, take, drop, Result, Ok, Err, refl, sym, ap, subst, ◌∙◌, append_assoc}
use Rattle.std.proofs.Math.Seq.{take-append_seam}
use Rattle.std.proofs.lemmas.List.{append-nil, take-append-drop}
use Rattle.std.specs.Result.{IsErrAnd}
use Rattle.std.proofs.lemmas.Result.{err_from_is_err_and}
use Rattle.vital_report.specs.Reporters.{Printed, PrinterState, Prints, PrintsPart, Stopped}
use Rattle.vital_report.specs.declared.print_error.PrintError.{PrintError}
use Rattle.vital_report.specs.declared.print_error.PrintError.TheVariants as error
use Rattle.vital_answers.proofs.Texts.{printed_none, printed_then, stopped_then, stopped_within}

-- a front of a whole text was printed, and this rest of it is left
pub record Part (start : PrinterState) (whole rest : List ℕ) (now : PrinterState) : Type 0 where
  pub front : List ℕ
  pub parts : front ++ rest ≡ whole
  pub printed : Printed front start now

pub part_begins : (start : PrinterState) (whole : List ℕ) → start.stopped ≡ false → Part start whole whole start
part_begins start whole going = record { front = []; parts = refl; printed = printed_none start going }

-- one piece more
pub part_goes_on : (start : PrinterState) (whole piece rest : List ℕ) (now next : PrinterState) → Part start whole (piece ++ rest) now → Printed piece now next → Part start whole rest next
part_goes_on start whole piece rest now next p more =
    record {
      front = p.front ++ piece;
      parts = append_assoc p.front piece rest ∙ p.parts;
      printed = printed_then p.front piece start now next p.printed more;
    }

-- a prefix of one piece more
pub part_stops : (start : PrinterState) (whole piece rest : List ℕ) (now next : PrinterState) → Part start whole (piece ++ rest) now → Stopped piece now next → Stopped whole start next
part_stops start whole piece rest now next p failed =
    subst (λ (text : List ℕ). Stopped text start next) (append_assoc p.front piece rest ∙ p.parts)
    (stopped_within (p.front ++ piece) rest start next (stopped_then p.front piece start now next p.printed failed))

-- memory ran out within the rest
pub part_breaks : (start : PrinterState) (whole rest : List ℕ) (now : PrinterState) → Part start whole rest now → (count : ℕ) × Printed (take count whole) start now
part_breaks start whole rest now p =
    (length p.front, subst (λ (text : List ℕ). Printed text start now) (sym (ap (take (length p.front)) (sym p.parts) ∙ take-append_seam p.front rest)) p.printed)

-- a prefix of a piece is one of the whole
pub part_breaks_in : (start : PrinterState) (whole piece rest : List ℕ) (now next : PrinterState) → Part start whole (piece ++ rest) now → (count : ℕ) × Printed (take count piece) now next
    → (count : ℕ) × Printed (take count whole) start next
part_breaks_in start whole piece rest now next p broken =
    let parted : piece ++ rest ≡ take broken.0 piece ++ (drop broken.0 piece ++ rest) = ap (λ (xs : List ℕ). xs ++ rest) (sym (take-append-drop broken.0 piece)) ∙ append_assoc (take broken.0 piece) (drop broken.0 piece) rest in
    part_breaks start whole (drop broken.0 piece ++ rest) next
    (part_goes_on start whole (take broken.0 piece) (drop broken.0 piece ++ rest) now next (subst (λ (xs : List ℕ). Part start whole xs now) parted p) broken.1)

-- nothing is left
pub part_ends : (start : PrinterState) (whole : List ℕ) (now : PrinterState) → Part start whole [] now → Printed whole start now
part_ends start whole now p =
    subst (λ (text : List ℕ). Printed text start now) (sym (append-nil p.front) ∙ p.parts) p.printed

-- a fault that is passed on
pub prints_failed : {T E : Type 0} (Q : E → Type 0) (r : Result T E) (whole : List ℕ) (start next : PrinterState) → IsErrAnd r Q → Stopped whole start next → Prints r whole start next
prints_failed Q r whole start next failed w = let p = err_from_is_err_and r failed in rw p.1 w

-- the sink failed, and that is passed on
pub passes_fault : {T : Type 0} (r : Result T PrintError) (whole : List ℕ) (start next : PrinterState) → IsErrAnd r (λ e. e ≡ error.WriteFault) → Stopped whole start next → PrintsPart r whole start next
passes_fault r whole start next failed w =
    let p = err_from_is_err_and r failed in
    let is : r ≡ Err error.WriteFault = p.1 ∙ ap (λ (e : PrintError). Err e) p.2 in rw is w

-- memory ran out, and that is passed on
pub passes_no_memory : {T : Type 0} (r : Result T PrintError) (whole : List ℕ) (start next : PrinterState) → IsErrAnd r (λ e. e ≡ error.NoMemory) → (count : ℕ) × Printed (take count whole) start next
    → PrintsPart r whole start next
passes_no_memory r whole start next failed w =
    let p = err_from_is_err_and r failed in
    let is : r ≡ Err error.NoMemory = p.1 ∙ ap (λ (e : PrintError). Err e) p.2 in rw is w

-- a piece failed, and that is passed on
pub passes_failure : {T : Type 0} (U : Type 0) (r : Result T PrintError) (e : PrintError) (start : PrinterState) (whole piece rest : List ℕ) (now next : PrinterState) → IsErrAnd r (λ x. x ≡ e)
    → Part start whole (piece ++ rest) now → PrintsPart {T = U} (Err e) piece now next → PrintsPart r whole start next
passes_failure U r error.WriteFault start whole piece rest now next failed p w = passes_fault r whole start next failed (part_stops start whole piece rest now next p w)
passes_failure U r error.NoMemory start whole piece rest now next failed p w = passes_no_memory r whole start next failed (part_breaks_in start whole piece rest now next p w)

-- ---- two pieces one after the other

pub prints_both : {T E : Type 0} (r : Result T E) (first second : List ℕ) (start now next : PrinterState) → Printed first start now → Prints r second now next → Prints r (first ++ second) start next
prints_both (Ok x) first second start now next p w = printed_then first second start now next p w
prints_both (Err e) first second start now next p w = stopped_then first second start now next p w
