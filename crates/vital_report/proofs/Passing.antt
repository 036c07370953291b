-- Texts that are put one after the other.
use Rattle.std.proofs.Common.{◌≡◌, ◌∙◌, ◌+◌, ◌<◌, ℕ, List, [], ◌++◌, length, take, drop, Result, Ok, Err, IsErr, refl, ap, sym, append_assoc, arith, rules, length-append}
use Rattle.std.proofs.Math.Seq.{take-append_seam}
use Rattle.std.proofs.lemmas.List.{take-append-drop}
use Rattle.vital_base.specs.Sinks.{Told, appended, AppendsPrefix}
use Rattle.vital_base.proofs.Appending.{appended-appended, appended-nil}
use Rattle.vital_report.specs.Held.{Going, Puts}
use Rattle.vital_report.specs.Reporters.{WritesFull}

-- what came of a whole is a prefix of it
pub prefix_of : (told told' : Told) (part rest whole : List ℕ)
    → told' ≡ appended told part → part ++ rest ≡ whole → AppendsPrefix told whole told'
prefix_of told told' part rest whole came split =
    (length part, came ∙ ap (appended told) (sym (ap (take (length part)) (sym split) ∙ take-append_seam part rest)))

-- a prefix of a text is one of the whole that begins with it
pub prefix_within : (told : Told) (text more whole : List ℕ) (told' : Told)
    → AppendsPrefix told text told' → text ++ more ≡ whole → AppendsPrefix told whole told'
prefix_within told text more whole told' h split =
    prefix_of told told' (take h.0 text) (drop h.0 text ++ more) whole h.1
    (sym (append_assoc (take h.0 text) (drop h.0 text) more) ∙ ap (λ (xs : List ℕ). xs ++ more) (take-append-drop h.0 text) ∙ split)

-- first bytes were written, and then a prefix of the rest
pub prefix_behind : (told : Told) (got rest whole : List ℕ) (told' told'' : Told)
    → told' ≡ appended told got → AppendsPrefix told' rest told'' → got ++ rest ≡ whole → AppendsPrefix told whole told''
prefix_behind told got rest whole told' told'' one two split =
    let part = take two.0 rest in
    prefix_of told told'' (got ++ part) (drop two.0 rest) whole
    (two.1 ∙ ap (λ (t : Told). appended t part) one ∙ appended-appended told got part)
    (append_assoc got part (drop two.0 rest) ∙ ap (λ (xs : List ℕ). got ++ xs) (take-append-drop two.0 rest) ∙ split)

-- a fault in the first text
pub fault_puts : {T E : Type 0} (r : Result T E) (told : Told) (held first second : List ℕ) (told' : Told) (held' : List ℕ)
    → IsErr r → AppendsPrefix told (held ++ first) told' → Puts r told held (first ++ second) told' held'
fault_puts (Ok x) told held first second told' held' is_err h = search rules
fault_puts (Err e) told held first second told' held' is_err h =
    prefix_within told (held ++ first) second (held ++ (first ++ second)) told' h (append_assoc held first second)

-- one text is put, and then another
pub wrote_then : (told : Told) (held first : List ℕ) (told' : Told) (held' second : List ℕ) (told'' : Told) (held'' : List ℕ)
    → WritesFull told held first told' held' → WritesFull told' held' second told'' held'' → WritesFull told held (first ++ second) told'' held''
wrote_then told held first told' held' second told'' held'' one two = record {
  got = one.got ++ two.got;
  count = one.count + two.count;
  told_is = two.told_is ∙ ap (λ (t : Told). appended t two.got) one.told_is ∙ appended-appended told one.got two.got;
  split = append_assoc one.got two.got held'' ∙ ap (λ (xs : List ℕ). one.got ++ xs) two.split ∙ sym (append_assoc one.got held' second)
      ∙ ap (λ (xs : List ℕ). xs ++ second) one.split ∙ append_assoc held first second;
  multiple = let a = one.multiple in let b = two.multiple in rw (length-append one.got two.got) (omega (arith, a, b));
  rest = two.rest;
}

-- one text is put, and then comes a fault in another
pub fault_then : (told : Told) (held first : List ℕ) (told' : Told) (held' second : List ℕ) (told'' : Told)
    → WritesFull told held first told' held' → AppendsPrefix told' (held' ++ second) told'' → AppendsPrefix told (held ++ (first ++ second)) told''
fault_then told held first told' held' second told'' one two =
    prefix_behind told one.got (held' ++ second) (held ++ (first ++ second)) told' told'' one.told_is two
    (sym (append_assoc one.got held' second) ∙ ap (λ (xs : List ℕ). xs ++ second) one.split ∙ append_assoc held first second)

pub puts_then : {T E : Type 0} (r : Result T E) (told : Told) (held first : List ℕ) (told' : Told) (held' second : List ℕ) (told'' : Told) (held'' : List ℕ)
    → WritesFull told held first told' held' → Puts r told' held' second told'' held'' → Puts r told held (first ++ second) told'' held''
puts_then (Ok x) told held first told' held' second told'' held'' one two = wrote_then told held first told' held' second told'' held'' one two
puts_then (Err e) told held first told' held' second told'' held'' one two = fault_then told held first told' held' second told'' one two

-- nothing was put so far
pub nothing_put : (told : Told) (held text : List ℕ) → Going told held text told held text
nothing_put told held text = record { got = []; count = 0; told_is = sym (appended-nil told); split = refl; multiple = refl }

-- what is held was written when first bytes of the rest made it full
pub goes_on : (told : Told) (held text : List ℕ) (told' : Told) (held' rest : List ℕ) (told'' : Told) (first later : List ℕ)
    → Going told held text told' held' rest → told'' ≡ appended told' (held' ++ first) → length held' + length first ≡ 4096 → first ++ later ≡ rest
    → Going told held text told'' [] later
goes_on told held text told' held' rest told'' first later h came full split = record {
  got = h.got ++ (held' ++ first);
  count = h.count + 1;
  told_is = came ∙ ap (λ (t : Told). appended t (held' ++ first)) h.told_is ∙ appended-appended told h.got (held' ++ first);
  split = append_assoc h.got (held' ++ first) later ∙ ap (λ (xs : List ℕ). h.got ++ xs) (append_assoc held' first later ∙ ap (λ (xs : List ℕ). held' ++ xs) split) ∙ h.split;
  multiple = let a = h.multiple in rw (length-append h.got (held' ++ first), length-append held' first) (omega (arith, a, full));
}

-- a fault when first bytes of the rest made full what is held
pub fault_going : {T E : Type 0} (r : Result T E) (told : Told) (held text : List ℕ) (told' : Told) (held' rest : List ℕ) (told'' : Told)
    (held'' first later : List ℕ)
    → IsErr r → Going told held text told' held' rest → AppendsPrefix told' (held' ++ first) told'' → first ++ later ≡ rest
    → Puts r told held text told'' held''
fault_going (Ok x) told held text told' held' rest told'' held'' first later is_err h prefix split = search rules
fault_going (Err e) told held text told' held' rest told'' held'' first later is_err h prefix split =
    let more = prefix_within told' (held' ++ first) later (held' ++ rest) told'' prefix
    (append_assoc held' first later ∙ ap (λ (xs : List ℕ). held' ++ xs) split) in
    prefix_behind told h.got (held' ++ rest) (held ++ text) told' told'' h.told_is more h.split

-- the rest is held
pub all_put : (told : Told) (held text : List ℕ) (told' : Told) (held' rest held'' : List ℕ)
    → Going told held text told' held' rest → held'' ≡ held' ++ rest → length held'' < 4096 → WritesFull told held text told' held''
all_put told held text told' held' rest held'' h holds short = record {
  got = h.got;
  count = h.count;
  told_is = h.told_is;
  split = ap (λ (xs : List ℕ). h.got ++ xs) holds ∙ h.split;
  multiple = h.multiple;
  rest = short;
}
