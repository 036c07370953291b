-- Bytes of a class with underlines between them.
use Rattle.std.proofs.Common.{◌≡◌, ℕ, ◌+◌, ◌<◌, ◌≤◌, Bool, true, false, ◌&&◌, eqb, List, [], ◌∷◌, ◌++◌, length, get_or, refl, ap, sym, ◌∙◌, ⊎_elim, arith}
use Rattle.std.specs.Prelude.{slice_range}
use Rattle.std.proofs.lemmas.Bool.{and_parts, and_from, and_left, and_right, or_cases, or_left, or_right, or_from, eq-eqb, ne_eqb, cases_lt, cases_eq, false≢true}
use Rattle.vital_vhdl_lexemes.specs.Finding.{IsUnderlinedRun}
use Rattle.vital_vhdl_lexemes.specs.Forms.{begins, continues, are_underlined}
use Rattle.vital_vhdl_lexemes.specs.Longest.{IsLongest, NoneFits}
use Rattle.vital_vhdl_lexemes.proofs.Ranges.{range-split, range-none, range-head, range-one, range-two}

begins-append : (class : ℕ → Bool) (xs ys : List ℕ) → begins class xs ≡ true → begins class (xs ++ ys) ≡ true
begins-append class [] ys h = absurd (false≢true h)
begins-append class (x ∷ xs) ys h = h

pub continues-append : (class : ℕ → Bool) (xs ys : List ℕ) → continues class xs ≡ true → continues class (xs ++ ys) ≡ true
continues-append class [] ys h = absurd (false≢true h)
continues-append class (x ∷ xs) ys h =
    ⊎_elim (λ e. or_left (class x) _ e)
    (λ e. let parts = and_parts (eqb x 95) (begins class xs) e in or_right (class x) _ (and_from (eqb x 95) _ parts.0 (begins-append class xs ys parts.1)))
    (or_cases (class x) _ h)

pub are_underlined-append : (class : ℕ → Bool) (xs ys : List ℕ) → are_underlined class xs ≡ true → are_underlined class (xs ++ ys) ≡ are_underlined class ys
are_underlined-append class [] ys h = refl
are_underlined-append class (x ∷ xs) ys h =
    let parts = and_parts (continues class (x ∷ xs)) (are_underlined class xs) h in
    ap (λ b. b && are_underlined class (xs ++ ys)) (continues-append class (x ∷ xs) ys parts.0) ∙ are_underlined-append class xs ys parts.1

module _ (class : ℕ → Bool) (text : List ℕ) where
  pub stops_before : (end : ℕ) → class (get_or text end 0) ≡ false → (get_or text end 0 ≡ 95 → end + 1 < length text → class (get_or text (end + 1) 0) ≡ false) → NoneFits (continues class) text end
  stops_before end other after = λ e above within.
      ⊎_elim
      (λ below.
      let head = range-head text end e below within in
      ap (continues class) head ∙ or_from (class (get_or text end 0)) _ other
      (⊎_elim
      (λ underline.
      ⊎_elim
      (λ more. and_right (eqb (get_or text end 0) 95) _ (ap (begins class) (range-head text (end + 1) e more within) ∙ after underline (omega arith)))
      (λ none. let same : e ≡ end + 1 = omega arith in and_right (eqb (get_or text end 0) 95) _ (ap (begins class) (ap (λ n. slice_range text (end + 1) n) same ∙ range-none text (end + 1))))
      (cases_lt (end + 1) e))
      (λ ne. and_left (eqb (get_or text end 0) 95) _ (ne_eqb _ _ ne))
      (cases_eq (get_or text end 0) 95)))
      (λ none. let same : e ≡ end = omega arith in ap (λ n. continues class (slice_range text end n)) same ∙ ap (continues class) (range-none text end))
      (cases_lt end e)

  pub underlined_first : (at : ℕ) → at < length text → class (get_or text at 0) ≡ true → are_underlined class (slice_range text at (at + 1)) ≡ true
  underlined_first at inside here = ap (are_underlined class) (range-one text at inside) ∙ and_from _ true (or_left _ _ here) refl

  pub underlined_more : (at end : ℕ) → at ≤ end → end < length text → are_underlined class (slice_range text at end) ≡ true → class (get_or text end 0) ≡ true → are_underlined class (slice_range text at (end + 1)) ≡ true
  underlined_more at end forward inside before here =
      ap (are_underlined class) (range-split text at end (end + 1) forward (omega arith)) ∙ are_underlined-append class _ _ before ∙ underlined_first end inside here

  pub underlined_past : (at end : ℕ) → at ≤ end → end + 1 < length text → are_underlined class (slice_range text at end) ≡ true → get_or text end 0 ≡ 95 → class (get_or text (end + 1) 0) ≡ true → are_underlined class (slice_range text at (end + 2)) ≡ true
  underlined_past at end forward inside before underline here =
      ap (are_underlined class) (range-split text at end (end + 2) forward (omega arith)) ∙ are_underlined-append class _ _ before
      ∙ ap (are_underlined class) (range-two text end inside)
      ∙ and_from _ _ (or_right _ _ (and_from _ _ (eq-eqb _ 95 underline) here)) (and_from _ true (or_left _ _ here) refl)

  -- where bytes begin as they ought to, those up to a stop are the longest that fit
  pub underlined_longest : (first : ℕ → Bool) (at end : ℕ) → first (get_or text at 0) ≡ true → IsUnderlinedRun class text at end → IsLongest (λ w. begins first w && are_underlined class w) text at end
  underlined_longest first at end begun run =
      let forward : at < end = run.forward in
      record {
        forward = omega arith;
        within = run.within;
        passes = and_from _ _ (ap (begins first) (range-head text at end run.forward run.within) ∙ begun) run.joined;
        longest = λ more above within. and_right (begins first (slice_range text at more)) _
            (ap (are_underlined class) (range-split text at end more (omega arith) (omega arith)) ∙ are_underlined-append class _ _ run.joined
            ∙ ap (are_underlined class) (range-head text end more above within)
            ∙ and_left _ _ (sym (ap (continues class) (range-head text end more above within)) ∙ run.stops more (omega arith) within));
      }
