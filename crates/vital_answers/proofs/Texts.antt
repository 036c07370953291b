-- Texts that are printed one after the other.
use Rattle.std.proofs.Common.{◌≡◌, ◌∙◌, ℕ, List, [], ◌++◌, length, take, drop, false, inl, inr, refl, ap, sym, subst, append_assoc}
use Rattle.std.proofs.Math.Seq.{take-append_seam}
use Rattle.std.proofs.lemmas.Bool.{false≢true}
use Rattle.std.proofs.lemmas.List.{append-nil, take-append-drop}
use Rattle.vital_base.specs.Faults.{Rose}
use Rattle.vital_base.proofs.Appending.{appended-appended, appended-nil}
use Rattle.vital_base.specs.Sinks.{Told, appended, AppendsPrefix}
use Rattle.vital_report.specs.Reporters.{PrinterState, Printed, Stopped}

-- a part of a text was appended, and the rest was not
pub appends_part : (told new : Told) (part rest text : List ℕ) → new ≡ appended told part → part ++ rest ≡ text → AppendsPrefix told text new
appends_part told new part rest text came split =
    (length part, came ∙ ap (appended told) (sym (ap (take (length part)) (sym split) ∙ take-append_seam part rest)))

-- nothing is printed
pub printed_none : (x : PrinterState) → x.stopped ≡ false → Printed [] x x
printed_none x going =
    record { passes_on = ([], sym (appended-nil x.told), sym (append-nil x.held)); goes_on = going; same_count = refl; same_sink = refl }

-- one text is printed, and then another
pub printed_then : (first second : List ℕ) (x y z : PrinterState) → Printed first x y → Printed second y z → Printed (first ++ second) x z
printed_then first second x y z one two =
    let p = one.passes_on in
    let q = two.passes_on in
    let came : z.told ≡ appended x.told (p.0 ++ q.0) =
    q.1 ∙ ap (λ (t : Told). appended t q.0) p.1 ∙ appended-appended x.told p.0 q.0 in
    let kept : (p.0 ++ q.0) ++ z.held ≡ x.held ++ (first ++ second) =
    append_assoc p.0 q.0 z.held ∙ ap (λ (xs : List ℕ). p.0 ++ xs) q.2 ∙ sym (append_assoc p.0 y.held second)
    ∙ ap (λ (xs : List ℕ). xs ++ second) p.2 ∙ append_assoc x.held first second in
    record {
      passes_on = (p.0 ++ q.0, came, kept);
      goes_on = two.goes_on;
      same_count = two.same_count ∙ one.same_count;
      same_sink = two.same_sink ∙ one.same_sink;
    }

-- one text is printed, and then the sink fails in another
pub stopped_then : (first second : List ℕ) (x y z : PrinterState) → Printed first x y → Stopped second y z → Stopped (first ++ second) x z
stopped_then first second x y z one two =
    let p = one.passes_on in
    let part = take two.prefix.0 (y.held ++ second) in
    let rest = drop two.prefix.0 (y.held ++ second) in
    let came : z.told ≡ appended x.told (p.0 ++ part) =
    two.prefix.1 ∙ ap (λ (t : Told). appended t part) p.1 ∙ appended-appended x.told p.0 part in
    let split : (p.0 ++ part) ++ rest ≡ x.held ++ (first ++ second) =
    append_assoc p.0 part rest ∙ ap (λ (xs : List ℕ). p.0 ++ xs) (take-append-drop two.prefix.0 (y.held ++ second))
    ∙ sym (append_assoc p.0 y.held second) ∙ ap (λ (xs : List ℕ). xs ++ second) p.2 ∙ append_assoc x.held first second in
    record {
      stopped = two.stopped;
      prefix = appends_part x.told z.told (p.0 ++ part) rest (x.held ++ (first ++ second)) came split;
      rose_or_had_stopped = elim two.rose_or_had_stopped [
        | inl had ↦ absurd (false≢true (sym one.goes_on ∙ had))
        | inr rose ↦ inr (rw one.same_count at rose)
      ];
      never_falls = rw one.same_count at two.never_falls;
      same_sink = two.same_sink ∙ one.same_sink;
    }

-- the sink fails in a text, and no more is printed
pub stopped_within : (first more : List ℕ) (x z : PrinterState) → Stopped first x z → Stopped (first ++ more) x z
stopped_within first more x z one =
    let part = take one.prefix.0 (x.held ++ first) in
    let rest = drop one.prefix.0 (x.held ++ first) ++ more in
    let split : part ++ rest ≡ x.held ++ (first ++ more) =
    sym (append_assoc part (drop one.prefix.0 (x.held ++ first)) more)
    ∙ ap (λ (xs : List ℕ). xs ++ more) (take-append-drop one.prefix.0 (x.held ++ first)) ∙ append_assoc x.held first more in
    record {
      stopped = one.stopped;
      prefix = appends_part x.told z.told part rest (x.held ++ (first ++ more)) one.prefix.1 split;
      rose_or_had_stopped = one.rose_or_had_stopped;
      never_falls = one.never_falls;
      same_sink = one.same_sink;
    }

-- ---- what a sink got, where nothing was held before

-- nothing is held after it either
pub sink_got : (text : List ℕ) (x y : PrinterState) → x.held ≡ [] → y.held ≡ [] → Printed text x y → y.told ≡ appended x.told text
sink_got text x y none left one =
    let p = one.passes_on in
    let all : p.0 ≡ text =
    sym (append-nil p.0) ∙ ap (λ (xs : List ℕ). p.0 ++ xs) (sym left) ∙ p.2 ∙ ap (λ (xs : List ℕ). xs ++ text) none in
    p.1 ∙ ap (appended x.told) all

pub sink_got_part : (text : List ℕ) (x y : PrinterState) → x.held ≡ [] → Printed text x y → AppendsPrefix x.told text y.told
sink_got_part text x y none one =
    let p = one.passes_on in
    appends_part x.told y.told p.0 y.held text p.1 (p.2 ∙ ap (λ (xs : List ℕ). xs ++ text) none)

pub sink_stopped : (text : List ℕ) (x y : PrinterState) → x.held ≡ [] → Stopped text x y → AppendsPrefix x.told text y.told
sink_stopped text x y none one = subst (λ (held : List ℕ). AppendsPrefix x.told (held ++ text) y.told) none one.prefix

-- a prefix of a prefix
pub prefix_of_first : (told new : Told) (count : ℕ) (text : List ℕ) → AppendsPrefix told (take count text) new → AppendsPrefix told text new
prefix_of_first told new count text (less, came) =
    let first = take count text in
    appends_part told new (take less first) (drop less first ++ drop count text) text came
    (sym (append_assoc (take less first) (drop less first) (drop count text))
    ∙ ap (λ (xs : List ℕ). xs ++ drop count text) (take-append-drop less first) ∙ take-append-drop count text)

-- what failed rose the count
pub stopped_rose : (text : List ℕ) (x y : PrinterState) → x.stopped ≡ false → Stopped text x y → Rose x.faults y.faults
stopped_rose text x y going one =
    elim one.rose_or_had_stopped [
      | inl had ↦ absurd (false≢true (sym going ∙ had))
      | inr rose ↦ rose
    ]
