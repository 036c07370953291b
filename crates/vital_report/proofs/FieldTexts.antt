-- The fields of a line, one after the other.
use Rattle.std.proofs.Common.{◌≡◌, ◌∙◌, ◌<◌, ◌≤◌, ◌^◌, ℕ, List, [], ◌∷◌, ◌++◌, codes, decimal, length, ap, append_assoc, rules, sym}
use Rattle.std.proofs.lemmas.Grind.{flat_map-append}
use Rattle.std.proofs.lemmas.Fmt.{length-decimal-le}
use Rattle.vital_logic.specs.declared.level.Level.{Level}
use Rattle.vital_logic.specs.Levels.{byte_of}
use Rattle.vital_report.specs.Fields.{event_start, fields_text}
use Rattle.vital_report.specs.Lines.{bytes_of, event}

-- the fields of the first, and then those of the second
pub fields_text-append : (xs ys : List (List ℕ)) → fields_text (xs ++ ys) ≡ fields_text xs ++ fields_text ys
fields_text-append xs ys = flat_map-append (λ field. codes " " ++ field) xs ys

-- texts that are joined by blanks, from the first or from the last on
joined_by_blanks : (t d n : List ℕ) (v : ℕ)
    → t ++ (32 ∷ []) ++ d ++ (32 ∷ []) ++ (n ++ (32 ∷ v ∷ 10 ∷ [])) ≡ (t ++ (32 ∷ (d ++ (32 ∷ (n ++ (32 ∷ v ∷ [])))))) ++ (10 ∷ [])
joined_by_blanks t d n v =
    let tail = n ++ (32 ∷ v ∷ 10 ∷ []) in
    let last = 32 ∷ v ∷ [] in
    append_assoc (t ++ (32 ∷ []) ++ d) (32 ∷ []) tail ∙ append_assoc (t ++ (32 ∷ [])) d (32 ∷ tail) ∙ append_assoc t (32 ∷ []) (d ++ (32 ∷ tail))
    ∙ sym (append_assoc t (32 ∷ (d ++ (32 ∷ (n ++ last)))) (10 ∷ []) ∙ ap (λ (xs : List ℕ). t ++ (32 ∷ xs)) (append_assoc d (32 ∷ (n ++ last)) (10 ∷ []))
    ∙ ap (λ (xs : List ℕ). t ++ (32 ∷ (d ++ (32 ∷ xs)))) (append_assoc n last (10 ∷ [])))

-- the line of an event is its start, its name, and then a blank, its value and LF
event_bytes : (time delta : ℕ) (name : List ℕ) (value : Level)
    → event_start time delta ++ (name ++ (32 ∷ byte_of value ∷ 10 ∷ [])) ≡ bytes_of (event time delta name value)
event_bytes time delta name value =
    ap (λ (xs : List ℕ). codes "event " ++ xs) (joined_by_blanks (decimal time) (decimal delta) name (byte_of value))

pub event_line : (time delta : ℕ) (name : List ℕ) (value : Level) (start named : List ℕ) (letter : ℕ)
    → start ≡ event_start time delta → named ≡ name → letter ≡ byte_of value
    → start ++ (named ++ (32 ∷ letter ∷ 10 ∷ [])) ≡ bytes_of (event time delta name value)
event_line time delta name value start named letter start_is named_is letter_is =
    ap (λ (xs : List ℕ). xs ++ (named ++ (32 ∷ letter ∷ 10 ∷ []))) start_is
    ∙ ap (λ (xs : List ℕ). event_start time delta ++ (xs ++ (32 ∷ letter ∷ 10 ∷ []))) named_is
    ∙ ap (λ (x : ℕ). event_start time delta ++ (name ++ (32 ∷ x ∷ 10 ∷ []))) letter_is
    ∙ event_bytes time delta name value

-- a number of 64 bits has at most 20 digits
pub at_most_20_digits : (n : ℕ) → n < 2 ^ 64 → length (decimal n) ≤ 20
at_most_20_digits n h = search (rules, length-decimal-le 20)
