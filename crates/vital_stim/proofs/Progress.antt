-- How far the lines of a text have been read.
use Rattle.std.proofs.Common.{◌≡◌, ℕ, ◌+◌, ◌<◌, ◌≤◌, ◌^◌, true, false, List, [], ◌∷◌, ◌++◌, length, drop, get_or, refl, sym, ◌∙◌, ap, Result, Ok, Err, append_assoc, append-nil, suc, add-one, drop-cons, arith}
use Rattle.std.proofs.Math.Seq.{drop-length}
use Rattle.std.proofs.lemmas.List.Splits.{length-slice_split}
use Rattle.std.proofs.lemmas.List.Sums.{count_by-le-length}
use Rattle.std.specs.Prelude.{Option}
use Rattle.vital_base.specs.declared.ports.PortBit.{PortBit}
use Rattle.vital_stim.specs.Builder.{Holds, port_count}
use Rattle.vital_stim.specs.Parts.{is_line_end, lines_of, fields_of, is_passed_over}
use Rattle.vital_stim.specs.Stimuli.{◌>>=◌, Stimulus, stimulus_for, stimuli_from, with_ports, stim}
use Rattle.vital_stim.specs.declared.builder.StimuliBuilder.{StimuliBuilder}
use Rattle.vital_stim.specs.declared.fault.StimFault.{StimFault}
use Rattle.vital_stim.specs.declared.fault.StimWhy.{StimWhy}
use Rattle.vital_stim.specs.declared.stimuli.Stimuli.{Stimuli}

-- these stimuli, and then what is read
abbrev pub after : List Stimulus → Result (List Stimulus) StimFault → Result (List Stimulus) StimFault
after front read = read >>= λ others. Ok (front ++ others)

-- So many lines of the text are read, and the builder holds what they say.
pub record Progress (given : Option (List PortBit)) (text : List ℕ) (builder : StimuliBuilder) (number latest seen : ℕ) : Type 0 where
  pub stimuli : List Stimulus
  pub held : Holds given builder stimuli
  pub so_far : stimuli_from given 1 0 (lines_of text) ≡ after stimuli (stimuli_from given (number + 1) latest (drop seen (lines_of text)))
  pub counted : number ≡ seen
  pub few : port_count builder ≤ number

-- the line that is read next
pub record IsNext (text : List ℕ) (seen : ℕ) (line : List ℕ) : Type 0 where
  pub within : seen < length (lines_of text)
  pub is : line ≡ get_or (lines_of text) seen line

pub next_is : (text : List ℕ) (seen : ℕ) (line : List ℕ) → (seen < length (lines_of text)) × (line ≡ get_or (lines_of text) seen line) → IsNext text seen line
next_is text seen line turn = record { within = turn.0; is = turn.1 }

next-line : (text : List ℕ) (seen : ℕ) (line : List ℕ) → IsNext text seen line → drop seen (lines_of text) ≡ line ∷ drop (seen + 1) (lines_of text)
next-line text seen line next =
    drop-cons (lines_of text) seen line next.within
    ∙ ap (λ first. first ∷ drop (suc seen) (lines_of text)) (sym next.is)
    ∙ ap (λ n. line ∷ drop n (lines_of text)) (sym (add-one seen))

-- the number of a line is small
pub is_small : (given : Option (List PortBit)) (text : List ℕ) (builder : StimuliBuilder) (number latest seen : ℕ) (line : List ℕ) → Progress given text builder number latest seen → IsNext text seen line → length text ≤ 16_777_216 → number + 1 < 2 ^ 32
is_small given text builder number latest seen line so next short =
    omega (arith, so.counted, next.within, short, length-slice_split is_line_end text, count_by-le-length is_line_end text)

-- a line that is passed over
pub passes : (given : Option (List PortBit)) (text : List ℕ) (builder : StimuliBuilder) (number latest seen : ℕ) (line : List ℕ) → Progress given text builder number latest seen → IsNext text seen line → is_passed_over line ≡ true → Progress given text builder (number + 1) latest (seen + 1)
passes given text builder number latest seen line so next passed = record {
  stimuli = so.stimuli;
  held = so.held;
  so_far = so.so_far ∙ ap (λ lines. after so.stimuli (stimuli_from given (number + 1) latest lines)) (next-line text seen line next) ∙ rw passed refl;
  counted = ap (λ n. n + 1) so.counted;
  few = omega (arith, so.few);
}

-- a line that says something
takes-step : (front : List Stimulus) (s : Stimulus) (read : Result (List Stimulus) StimFault) → after front (read >>= λ others. Ok (s ∷ others)) ≡ after (front ++ s ∷ []) read
takes-step front s (Ok others) = ap Ok (sym (append_assoc front (s ∷ []) others))
takes-step front s (Err fault) = refl

pub takes : (given : Option (List PortBit)) (text : List ℕ) (old new : StimuliBuilder) (number latest seen : ℕ) (line : List ℕ) (s : Stimulus) → Progress given text old number latest seen → IsNext text seen line → is_passed_over line ≡ false → stimulus_for given latest (fields_of line) ≡ Ok s → ((stimuli : List Stimulus) → Holds given old stimuli → Holds given new (stimuli ++ s ∷ [])) → port_count new ≤ port_count old + 1 → Progress given text new (number + 1) s.time (seen + 1)
takes given text old new number latest seen line s so next unpassed says puts few = record {
  stimuli = so.stimuli ++ s ∷ [];
  held = puts so.stimuli so.held;
  so_far = so.so_far ∙ ap (λ lines. after so.stimuli (stimuli_from given (number + 1) latest lines)) (next-line text seen line next) ∙ rw (unpassed, says) (takes-step so.stimuli s (stimuli_from given (number + 1 + 1) s.time (drop (seen + 1) (lines_of text))));
  counted = ap (λ n. n + 1) so.counted;
  few = omega (arith, so.few, few);
}

-- a line with a fault
pub fails : (given : Option (List PortBit)) (text : List ℕ) (builder : StimuliBuilder) (number latest seen : ℕ) (line : List ℕ) (why : StimWhy) → Progress given text builder number latest seen → IsNext text seen line → is_passed_over line ≡ false → stimulus_for given latest (fields_of line) ≡ Err why → stim text given ≡ Err (record { line = number + 1; why = why })
fails given text builder number latest seen line why so next unpassed says =
    let read : stimuli_from given 1 0 (lines_of text) ≡ Err (record { line = number + 1; why = why }) = so.so_far ∙ ap (λ lines. after so.stimuli (stimuli_from given (number + 1) latest lines)) (next-line text seen line next) ∙ rw (unpassed, says) refl in
    ap (λ r. r >>= λ stimuli. Ok (with_ports given stimuli)) read

-- the end
pub ends : (given : Option (List PortBit)) (text : List ℕ) (builder : StimuliBuilder) (number latest seen : ℕ) (built : Stimuli) → (so : Progress given text builder number latest seen) → seen ≡ length (lines_of text) → built ≡ with_ports given so.stimuli → stim text given ≡ Ok built
ends given text builder number latest seen built so all is =
    let none : drop seen (lines_of text) ≡ [] = rw all (drop-length (lines_of text)) in
    let read : stimuli_from given 1 0 (lines_of text) ≡ Ok so.stimuli = so.so_far ∙ ap (λ lines. after so.stimuli (stimuli_from given (number + 1) latest lines)) none ∙ ap Ok (append-nil so.stimuli) in
    ap (λ r. r >>= λ stimuli. Ok (with_ports given stimuli)) read ∙ ap Ok (sym is)
