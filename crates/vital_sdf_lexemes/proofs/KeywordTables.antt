-- Keywords in a table, found by their first letter.
use Rattle.std.proofs.Common.{◌≡◌, ℕ, zero, suc, ◌+◌, ◌-◌, ◌<◌, ◌≤◌, Bool, true, false, not, ◌&&◌, ◌==◌, cond, List, [], ◌∷◌, ◌++◌, length, map, take, drop, get_or, refl, ap, sym, subst, ◌∙◌, ⊎_elim, arith, eqb, Option, Some, None}
use Rattle.std.specs.Prelude.{nat_le, slice_range}
use Rattle.std.specs.Str.{bytes_eq}
use Rattle.std.specs.List.{list_all, take-map, drop-map}
use Rattle.std.proofs.lemmas.Bool.{false_from_ne_true, false≢true, true≢false, and_left, ne_eqb, not-true, and_parts, cond-true, cond-false, cases_Bool, cases_lt, eq-eqb, leb-true}
use Rattle.std.proofs.lemmas.Bool.Decides.{nat_tests}
use Rattle.std.proofs.lemmas.List.{ext_get_or, get_or-map, length-map, take-append-drop, drop-drop}
use Rattle.std.proofs.lemmas.Slice.Eq.{bytes_eq-Decides}
use Rattle.std.specs.Char.{is_ascii_alphabetic, to_ascii_lowercase}
use Rattle.vital_sdf_lexemes.specs.Keywords.{keywords}
use Rattle.vital_sdf_lexemes.specs.WordKinds.{kind_in, keyword}
use Rattle.vital_sdf_lexemes.specs.declared.kinds.Kind.{Kind}

-- the list begins with a byte of the class
abbrev pub begins : (ℕ → Bool) → List ℕ → Bool
begins class [] = false
begins class (b ∷ bytes) = class b

-- where each entry begins outside a class, none is what begins in it
pub kind_in-other : (class : ℕ → Bool) (table : List (List ℕ × Kind)) (b : ℕ) (w : List ℕ) → list_all (λ entry. begins (λ x. not (class x)) entry.0) table ≡ true → class b ≡ true → kind_in table (b ∷ w) ≡ None
kind_in-other class [] b w outside of_class = refl
kind_in-other class (([], k) ∷ table) b w outside of_class = absurd (false≢true outside)
kind_in-other class ((x ∷ xs, k) ∷ table) b w outside of_class =
    let parts = and_parts (not (class x)) _ outside in
    let differ : eqb x b ≡ false = ne_eqb x b (λ e. true≢false (sym of_class ∙ ap class (sym e) ∙ not-true (class x) parts.0)) in
    cond-false (eqb x b && bytes_eq xs w) (Some k) (kind_in table (b ∷ w)) (and_left (eqb x b) (bytes_eq xs w) differ) ∙ kind_in-other class table b w parts.1 of_class

module _ (lower word : List ℕ) where
  same_word : bytes_eq lower (map to_ascii_lowercase word) ≡ true → lower ≡ map to_ascii_lowercase word
  same_word h = (bytes_eq-Decides lower (map to_ascii_lowercase word)).0 h

  pub other_byte : (i : ℕ) → i < length word → (to_ascii_lowercase (get_or word i 0) ≡ get_or lower i 0 → ⊥) → bytes_eq lower (map to_ascii_lowercase word) ≡ false
  other_byte i inside differ = false_from_ne_true _ (λ h. differ (sym (ap (λ l. get_or l i 0) (same_word h) ∙ get_or-map to_ascii_lowercase word i 0 0 inside)))

  pub same_bytes : length word ≡ length lower → ((k : ℕ) → k < length lower → to_ascii_lowercase (get_or word k 0) ≡ get_or lower k 0) → bytes_eq lower (map to_ascii_lowercase word) ≡ true
  same_bytes lengths each =
      (bytes_eq-Decides lower (map to_ascii_lowercase word)).1
      (ext_get_or 0 lower (map to_ascii_lowercase word) (sym lengths ∙ sym (length-map word to_ascii_lowercase)) (λ k below. sym (get_or-map to_ascii_lowercase word k 0 0 (omega (arith, lengths, below)) ∙ each k below)))

-- a letter in lower case is one of a to z
pub lower_letter : (b : ℕ) → is_ascii_alphabetic b ≡ true → (97 ≤ to_ascii_lowercase b) × (to_ascii_lowercase b ≤ 122)
lower_letter b letter = grind (arith, nat_tests)

-- the test holds of each number below n
abbrev pub all_below : (ℕ → Bool) → ℕ → Bool
all_below test zero = true
all_below test (suc n) = test n && all_below test n

below : (test : ℕ → Bool) (n k : ℕ) → all_below test n ≡ true → k < n → test k ≡ true
below test zero k all inside = absurd (omega arith)
below test (suc n) k all inside =
    let parts = and_parts (test n) (all_below test n) all in
    ⊎_elim (λ less. below test n k parts.1 less) (λ more. let here : k ≡ n = omega arith in ap test here ∙ parts.0) (cases_lt k n)

-- no entry begins with the letter of this place in the alphabet, from 0
abbrev pub has_no : ℕ → List (List ℕ × Kind) → Bool
has_no k table = list_all (λ entry. begins (λ b. not (b == 97 + k)) entry.0) table

-- the entries of this letter are at most those from its start up to the next one
abbrev pub starts_at : List ℕ → List (List ℕ × Kind) → ℕ → Bool
starts_at starts table k =
    nat_le (get_or starts k 0) (get_or starts (k + 1) 0) && (nat_le (get_or starts (k + 1) 0) (length table)
    && (has_no k (take (get_or starts k 0) table) && has_no k (drop (get_or starts (k + 1) 0) table)))

pub record Starts (starts : List ℕ) (table : List (List ℕ × Kind)) (k : ℕ) : Type 0 where
  pub in_order : get_or starts k 0 ≤ get_or starts (k + 1) 0
  pub within : get_or starts (k + 1) 0 ≤ length table
  pub none_before : has_no k (take (get_or starts k 0) table) ≡ true
  pub none_after : has_no k (drop (get_or starts (k + 1) 0) table) ≡ true

pub starts_of : (starts : List ℕ) (table : List (List ℕ × Kind)) → all_below (starts_at starts table) 26 ≡ true → (k : ℕ) → k < 26 → Starts starts table k
starts_of starts table all k inside =
    let here = below (starts_at starts table) 26 k all inside in
    let ordered = and_parts (nat_le (get_or starts k 0) (get_or starts (k + 1) 0)) _ here in
    let bounded = and_parts (nat_le (get_or starts (k + 1) 0) (length table)) _ ordered.1 in
    let none = and_parts (has_no k (take (get_or starts k 0) table)) (has_no k (drop (get_or starts (k + 1) 0) table)) bounded.1 in
    record { in_order = leb-true _ _ ordered.0; within = leb-true _ _ bounded.0; none_before = none.0; none_after = none.1 }

kind_in-append : (xs ys : List (List ℕ × Kind)) (bytes : List ℕ) → kind_in xs bytes ≡ None → kind_in (xs ++ ys) bytes ≡ kind_in ys bytes
kind_in-append [] ys bytes none = refl
kind_in-append (entry ∷ xs) ys bytes none =
    ⊎_elim
    (λ same. let found : Some entry.1 ≡ None = sym (cond-true (bytes_eq entry.0 bytes) (Some entry.1) (kind_in xs bytes) same) ∙ none in cc)
    (λ other.
    cond-false (bytes_eq entry.0 bytes) (Some entry.1) (kind_in (xs ++ ys) bytes) other
    ∙ kind_in-append xs ys bytes (sym (cond-false (bytes_eq entry.0 bytes) (Some entry.1) (kind_in xs bytes) other) ∙ none))
    (cases_Bool (bytes_eq entry.0 bytes))

kind_in-append_none : (xs ys : List (List ℕ × Kind)) (bytes : List ℕ) → kind_in ys bytes ≡ None → kind_in (xs ++ ys) bytes ≡ kind_in xs bytes
kind_in-append_none [] ys bytes none = none
kind_in-append_none (entry ∷ xs) ys bytes none = ap (λ k. cond (bytes_eq entry.0 bytes) (Some entry.1) k) (kind_in-append_none xs ys bytes none)

-- the entries of its letter tell the kind of a word
pub of_letter : (starts : List ℕ) (table : List (List ℕ × Kind)) (k b : ℕ) (w : List ℕ) → Starts starts table k → b ≡ 97 + k → kind_in (slice_range table (get_or starts k 0) (get_or starts (k + 1) 0)) (b ∷ w) ≡ kind_in table (b ∷ w)
of_letter starts table k b w s letter =
    let from = get_or starts k 0 in
    let to = get_or starts (k + 1) 0 in
    let own = slice_range table from to in
    let ordered : from ≤ to = s.in_order in
    let last : from + (to - from) ≡ to = omega arith in
    let before = kind_in-other (λ x. x == 97 + k) (take from table) b w s.none_before (eq-eqb b (97 + k) letter) in
    let after = kind_in-other (λ x. x == 97 + k) (drop to table) b w s.none_after (eq-eqb b (97 + k) letter) in
    let rest : own ++ drop to table ≡ drop from table = ap (λ d. own ++ d) (sym (drop-drop (to - from) from table ∙ ap (λ n. drop n table) last)) ∙ take-append-drop (to - from) (drop from table) in
    let parts : take from table ++ (own ++ drop to table) ≡ table = ap (λ d. take from table ++ d) rest ∙ take-append-drop from table in
    sym (kind_in-append_none own (drop to table) (b ∷ w) after) ∙ sym (kind_in-append (take from table) (own ++ drop to table) (b ∷ w) before) ∙ ap (λ t. kind_in t (b ∷ w)) parts

-- so the keyword of a word is that in the entries of its letter
pub by_letter : {E : Type 0} (entry_of : E → List ℕ × Kind) (table : List E) (start end : ℕ) (word : List ℕ) (letter : ℕ) (found : Option Kind) → map entry_of table ≡ keywords → 0 < length word → is_ascii_alphabetic (get_or word 0 0) ≡ true
    → letter ≡ to_ascii_lowercase (get_or word 0 0) → ((rest : List ℕ) → kind_in (slice_range keywords start end) ((97 + (letter - 97)) ∷ rest) ≡ kind_in keywords ((97 + (letter - 97)) ∷ rest))
    → found ≡ kind_in (map entry_of (take (end - start) (drop start table))) (map to_ascii_lowercase word) → found ≡ keyword word
unfolding keyword
by_letter entry_of table start end [] letter found all some first letter_is own found_is = absurd (omega arith)
by_letter entry_of table start end (b ∷ bytes) letter found all some first letter_is own found_is =
    let bounds = lower_letter b first in
    let here : 97 + (letter - 97) ≡ to_ascii_lowercase b = omega (arith, bounds.0, letter_is) in
    let entries : map entry_of (take (end - start) (drop start table)) ≡ slice_range keywords start end =
    sym (take-map entry_of (end - start) (drop start table)) ∙ sym (ap (λ t. take (end - start) t) (drop-map entry_of start table)) ∙ ap (λ t. slice_range t start end) all in
    found_is ∙ ap (λ t. kind_in t (to_ascii_lowercase b ∷ map to_ascii_lowercase bytes)) entries
    ∙ subst (λ (l : ℕ). kind_in (slice_range keywords start end) (l ∷ map to_ascii_lowercase bytes) ≡ kind_in keywords (l ∷ map to_ascii_lowercase bytes)) here (own (map to_ascii_lowercase bytes))

-- each keyword begins with a letter, and what is no letter is the same in small letters
other_in_lower_case : (b : ℕ) → is_ascii_alphabetic b ≡ false → is_ascii_alphabetic (to_ascii_lowercase b) ≡ false
other_in_lower_case b other = grind (arith, nat_tests)

-- so what begins with no letter is no keyword
pub by_no_letter : (word : List ℕ) → is_ascii_alphabetic (get_or word 0 0) ≡ false → keyword word ≡ None
unfolding keyword
by_no_letter [] other = refl
by_no_letter (b ∷ bytes) other = kind_in-other (λ x. not (is_ascii_alphabetic x)) keywords (to_ascii_lowercase b) (map to_ascii_lowercase bytes) refl (ap not (other_in_lower_case b other))

pub by_no_byte : (word : List ℕ) → length word < 1 → keyword word ≡ None
unfolding keyword
by_no_byte [] none = refl
by_no_byte (b ∷ bytes) none = absurd (omega arith)
