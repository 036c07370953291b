-- Texts that are printed one after the other.
use Rattle.std.proofs.Common.{◌≡◌, ◌∙◌, ℕ, List, [], ◌++◌, length, take, drop, false, inl, inr, Result, Ok, Err, OnOk, refl, ap, sym, subst, append_assoc}
use Rattle.std.proofs.Math.Seq.{take-append_seam}
use Rattle.std.proofs.lemmas.Bool.{false≢true}
use Rattle.std.proofs.lemmas.List.{append-nil, take-append-drop}
use Rattle.std.specs.Result.{IsErrAnd}
use Rattle.std.proofs.lemmas.Result.{err_from_is_err_and}
use Rattle.vital_base.proofs.Appending.{appended-appended, appended-nil}
use Rattle.vital_base.specs.Sinks.{Told, appended, AppendsPrefix}
use Rattle.vital_report.specs.Reporters.{PrinterState, Printed, Prints, PrintsPart, Stopped}
use Rattle.vital_report.specs.declared.print_error.PrintError.{PrintError}
use Rattle.vital_report.specs.declared.print_error.PrintError.TheVariants as error

-- a part of a text was appended, and the rest was not
appends_part : (told new : Told) (part rest text : List ℕ) → new ≡ appended told part → part ++ rest ≡ text → AppendsPrefix told text new
appends_part told new part rest text came split =
    (length part, came ∙ ap (appended told) (sym (ap (take (length part)) (sym split) ∙ take-append_seam part rest)))

-- nothing is printed
pub printed_none : (x : PrinterState) → x.stopped ≡ false → Printed [] x x
printed_none x going =
    record { passes_on = ([], sym (appended-nil x.told), sym (append-nil x.held)); goes_on = going; same_count = refl; same_sink = refl }

-- one text is printed, and then another
pub printed_then : (first second : List ℕ) (x y z : PrinterState) → Printed first x y → Printed second y z → Printed (first ++ second) x z
printed_then first second x y z one two =
    let p = one.passes_on in
    let q = two.passes_on in
    let came : z.told ≡ appended x.told (p.0 ++ q.0) =
    q.1 ∙ ap (λ (t : Told). appended t q.0) p.1 ∙ appended-appended x.told p.0 q.0 in
    let kept : (p.0 ++ q.0) ++ z.held ≡ x.held ++ (first ++ second) =
    append_assoc p.0 q.0 z.held ∙ ap (λ (xs : List ℕ). p.0 ++ xs) q.2 ∙ sym (append_assoc p.0 y.held second)
    ∙ ap (λ (xs : List ℕ). xs ++ second) p.2 ∙ append_assoc x.held first second in
    record {
      passes_on = (p.0 ++ q.0, came, kept);
      goes_on = two.goes_on;
      same_count = two.same_count ∙ one.same_count;
      same_sink = two.same_sink ∙ one.same_sink;
    }

-- one text is printed, and then the sink fails in another
pub stopped_then : (first second : List ℕ) (x y z : PrinterState) → Printed first x y → Stopped second y z → Stopped (first ++ second) x z
stopped_then first second x y z one two =
    let p = one.passes_on in
    let part = take two.prefix.0 (y.held ++ second) in
    let rest = drop two.prefix.0 (y.held ++ second) in
    let came : z.told ≡ appended x.told (p.0 ++ part) =
    two.prefix.1 ∙ ap (λ (t : Told). appended t part) p.1 ∙ appended-appended x.told p.0 part in
    let split : (p.0 ++ part) ++ rest ≡ x.held ++ (first ++ second) =
    append_assoc p.0 part rest ∙ ap (λ (xs : List ℕ). p.0 ++ xs) (take-append-drop two.prefix.0 (y.held ++ second))
    ∙ sym (append_assoc p.0 y.held second) ∙ ap (λ (xs : List ℕ). xs ++ second) p.2 ∙ append_assoc x.held first second in
    record {
      stopped = two.stopped;
      prefix = appends_part x.told z.told (p.0 ++ part) rest (x.held ++ (first ++ second)) came split;
      rose_or_had_stopped = elim two.rose_or_had_stopped [
        | inl had ↦ absurd (false≢true (sym one.goes_on ∙ had))
        | inr rose ↦ inr (rw one.same_count at rose)
      ];
      never_falls = rw one.same_count at two.never_falls;
      same_sink = two.same_sink ∙ one.same_sink;
    }

-- the sink fails in a text, and no more is printed
pub stopped_within : (first more : List ℕ) (x z : PrinterState) → Stopped first x z → Stopped (first ++ more) x z
stopped_within first more x z one =
    let part = take one.prefix.0 (x.held ++ first) in
    let rest = drop one.prefix.0 (x.held ++ first) ++ more in
    let split : part ++ rest ≡ x.held ++ (first ++ more) =
    sym (append_assoc part (drop one.prefix.0 (x.held ++ first)) more)
    ∙ ap (λ (xs : List ℕ). xs ++ more) (take-append-drop one.prefix.0 (x.held ++ first)) ∙ append_assoc x.held first more in
    record {
      stopped = one.stopped;
      prefix = appends_part x.told z.told part rest (x.held ++ (first ++ more)) one.prefix.1 split;
      rose_or_had_stopped = one.rose_or_had_stopped;
      never_falls = one.never_falls;
      same_sink = one.same_sink;
    }

-- ---- a text that is flushed

pub flushed : (text : List ℕ) (x y z : PrinterState) → Printed text x y → Printed [] y z → Printed text x z
flushed text x y z one two = rw (append-nil text) at (printed_then text [] x y z one two)

pub flush_failed : (text : List ℕ) (x y z : PrinterState) → Printed text x y → Stopped [] y z → Stopped text x z
flush_failed text x y z one two = rw (append-nil text) at (stopped_then text [] x y z one two)

-- a part of a run is printed behind what was held
pub part_behind : {T : Type 0} (r : Result T PrintError) (text : List ℕ) (x y z : PrinterState) → Printed [] x y → PrintsPart r text y z → PrintsPart r text x z
part_behind (Ok ok) text x y z one two = printed_then [] text x y z one two
part_behind (Err error.WriteFault) text x y z one two = stopped_then [] text x y z one two
part_behind (Err error.NoMemory) text x y z one two = (two.0, printed_then [] (take two.0 text) x y z one two.1)

-- ---- a text that is printed piece by piece

-- a front of a whole text was printed, and this rest of it is left
pub record Left (start : PrinterState) (whole rest : List ℕ) (now : PrinterState) : Type 0 where
  pub front : List ℕ
  pub parts : front ++ rest ≡ whole
  pub printed : Printed front start now

pub left_all : (start : PrinterState) (whole : List ℕ) → start.stopped ≡ false → Left start whole whole start
left_all start whole going = record { front = []; parts = refl; printed = printed_none start going }

-- one piece more
pub left_less : (start : PrinterState) (whole piece rest : List ℕ) (now next : PrinterState) → Left start whole (piece ++ rest) now → Printed piece now next → Left start whole rest next
left_less start whole piece rest now next p more =
    record {
      front = p.front ++ piece;
      parts = append_assoc p.front piece rest ∙ p.parts;
      printed = printed_then p.front piece start now next p.printed more;
    }

-- a prefix of one piece more
pub left_stops : (start : PrinterState) (whole piece rest : List ℕ) (now next : PrinterState) → Left start whole (piece ++ rest) now → Stopped piece now next → Stopped whole start next
left_stops start whole piece rest now next p failed =
    subst (λ (text : List ℕ). Stopped text start next) (append_assoc p.front piece rest ∙ p.parts)
    (stopped_within (p.front ++ piece) rest start next (stopped_then p.front piece start now next p.printed failed))

-- memory ran out within the rest
pub left_breaks : (start : PrinterState) (whole rest : List ℕ) (now : PrinterState) → Left start whole rest now → (count : ℕ) × Printed (take count whole) start now
left_breaks start whole rest now p =
    (length p.front, subst (λ (text : List ℕ). Printed text start now) (sym (ap (take (length p.front)) (sym p.parts) ∙ take-append_seam p.front rest)) p.printed)

-- a prefix of a piece is one of the whole
pub left_breaks_in : (start : PrinterState) (whole piece rest : List ℕ) (now next : PrinterState) → Left start whole (piece ++ rest) now → (count : ℕ) × Printed (take count piece) now next
    → (count : ℕ) × Printed (take count whole) start next
left_breaks_in start whole piece rest now next p broken =
    let parted : piece ++ rest ≡ take broken.0 piece ++ (drop broken.0 piece ++ rest) = ap (λ (xs : List ℕ). xs ++ rest) (sym (take-append-drop broken.0 piece)) ∙ append_assoc (take broken.0 piece) (drop broken.0 piece) rest in
    left_breaks start whole (drop broken.0 piece ++ rest) next
    (left_less start whole (take broken.0 piece) (drop broken.0 piece ++ rest) now next (subst (λ (xs : List ℕ). Left start whole xs now) parted p) broken.1)

-- nothing is left
pub left_none : (start : PrinterState) (whole : List ℕ) (now : PrinterState) → Left start whole [] now → Printed whole start now
left_none start whole now p =
    subst (λ (text : List ℕ). Printed text start now) (sym (append-nil p.front) ∙ p.parts) p.printed

-- ---- faults that are passed on

pub prints_failed : {T E : Type 0} (Q : E → Type 0) (r : Result T E) (whole : List ℕ) (start next : PrinterState) → IsErrAnd r Q → Stopped whole start next → Prints r whole start next
prints_failed Q r whole start next failed w = let p = err_from_is_err_and r failed in rw p.1 w

-- the sink failed
pub part_stops : {T : Type 0} (r : Result T PrintError) (whole : List ℕ) (start next : PrinterState) → IsErrAnd r (λ e. e ≡ error.WriteFault) → Stopped whole start next → PrintsPart r whole start next
part_stops r whole start next failed w =
    let p = err_from_is_err_and r failed in
    let is : r ≡ Err error.WriteFault = p.1 ∙ ap (λ (e : PrintError). Err e) p.2 in rw is w

-- memory ran out
pub part_breaks : {T : Type 0} (r : Result T PrintError) (whole : List ℕ) (start next : PrinterState) → IsErrAnd r (λ e. e ≡ error.NoMemory) → (count : ℕ) × Printed (take count whole) start next
    → PrintsPart r whole start next
part_breaks r whole start next failed w =
    let p = err_from_is_err_and r failed in
    let is : r ≡ Err error.NoMemory = p.1 ∙ ap (λ (e : PrintError). Err e) p.2 in rw is w

-- the whole failed
pub part_passed : {T : Type 0} (U : Type 0) (r : Result T PrintError) (e : PrintError) (whole : List ℕ) (start next : PrinterState) → IsErrAnd r (λ x. x ≡ e) → PrintsPart {T = U} (Err e) whole start next
    → PrintsPart r whole start next
part_passed U r error.WriteFault whole start next failed w = part_stops r whole start next failed w
part_passed U r error.NoMemory whole start next failed w = part_breaks r whole start next failed w

-- a piece failed
pub part_failed : {T : Type 0} (U : Type 0) (r : Result T PrintError) (e : PrintError) (start : PrinterState) (whole piece rest : List ℕ) (now next : PrinterState) → IsErrAnd r (λ x. x ≡ e)
    → Left start whole (piece ++ rest) now → PrintsPart {T = U} (Err e) piece now next → PrintsPart r whole start next
part_failed U r error.WriteFault start whole piece rest now next failed p w = part_stops r whole start next failed (left_stops start whole piece rest now next p w)
part_failed U r error.NoMemory start whole piece rest now next failed p w = part_breaks r whole start next failed (left_breaks_in start whole piece rest now next p w)

-- the last piece
pub part_last : {T : Type 0} (r : Result T PrintError) (start : PrinterState) (whole piece : List ℕ) (now next : PrinterState) → Left start whole piece now → PrintsPart r piece now next → PrintsPart r whole start next
part_last (Ok x) start whole piece now next p w =
    left_none start whole next (left_less start whole piece [] now next (rw (append-nil piece) p) w)
part_last (Err error.WriteFault) start whole piece now next p w = left_stops start whole piece [] now next (rw (append-nil piece) p) w
part_last (Err error.NoMemory) start whole piece now next p w = left_breaks_in start whole piece [] now next (rw (append-nil piece) p) w

-- what is only for an `Ok` holds of an error
pub on_err_of : {T E : Type 0} (P : Type 0) (Q : E → Type 0) (r : Result T E) → IsErrAnd r Q → OnOk r P
on_err_of P Q (Ok x) h = absurd h
on_err_of P Q (Err e) h = tt
