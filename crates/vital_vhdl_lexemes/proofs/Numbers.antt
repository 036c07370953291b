-- The longest number at an offset.
use Rattle.std.proofs.Common.{◌≡◌, ℕ, ◌+◌, ◌<◌, ◌≤◌, true, false, ◌&&◌, eqb, List, [], ◌∷◌, ◌++◌, length, get_or, refl, ap, sym, ◌∙◌, ⊎_elim, arith}
use Rattle.std.specs.Prelude.{slice_range}
use Rattle.std.proofs.lemmas.Bool.{and_parts, and_from, and_left, and_right, ne_eqb, eq-eqb, cases_lt, cases_eq, false≢true, cond-true, cond-false}
use Rattle.vital_vhdl_lexemes.specs.Bytes.{is_digit}
use Rattle.vital_vhdl_lexemes.specs.Forms.{begins, continues, are_underlined, is_integer, ends_number, is_number}
use Rattle.vital_vhdl_lexemes.specs.Longest.{IsLongest, NoneFits}
use Rattle.vital_vhdl_lexemes.proofs.Ranges.{range-split, range-none, range-head}
use Rattle.vital_vhdl_lexemes.proofs.Underlined.{continues-append}

-- no point stands in an integer
no_point : (x : ℕ) (xs : List ℕ) → continues is_digit (x ∷ xs) ≡ true → eqb x 46 ≡ false
no_point x xs h = ne_eqb x 46 (λ e. false≢true (sym (ap (λ b. continues is_digit (b ∷ xs)) e) ∙ h))

ends_number-append : (xs ys : List ℕ) → are_underlined is_digit xs ≡ true → ends_number (xs ++ ys) ≡ ends_number ys
ends_number-append [] ys h = refl
ends_number-append (x ∷ xs) ys h =
    let parts = and_parts (continues is_digit (x ∷ xs)) (are_underlined is_digit xs) h in
    cond-false (eqb x 46) (is_integer (xs ++ ys)) (continues is_digit (x ∷ (xs ++ ys)) && ends_number (xs ++ ys)) (no_point x xs parts.0)
    ∙ ap (λ b. b && ends_number (xs ++ ys)) (continues-append is_digit (x ∷ xs) ys parts.0)
    ∙ ends_number-append xs ys parts.1

module _ (text : List ℕ) (at point : ℕ) (whole : IsLongest is_integer text at point) where
  whole_parts : (begins is_digit (slice_range text at point) ≡ true) × (are_underlined is_digit (slice_range text at point) ≡ true)
  whole_parts = and_parts _ _ whole.passes

  begins_all : (more : ℕ) → point ≤ more → more ≤ length text → begins is_digit (slice_range text at more) ≡ true
  begins_all more above within =
      ⊎_elim
      (λ forward. ap (begins is_digit) (range-head text at more (omega arith) within) ∙ sym (ap (begins is_digit) (range-head text at point forward whole.within)) ∙ whole_parts.0)
      (λ none. let same : point ≡ at = omega (arith, whole.forward) in absurd (false≢true (sym (ap (begins is_digit) (ap (λ n. slice_range text at n) same ∙ range-none text at)) ∙ whole_parts.0)))
      (cases_lt at point)

  rest : (more : ℕ) → point ≤ more → ends_number (slice_range text at more) ≡ ends_number (slice_range text point more)
  rest more above = ap ends_number (range-split text at point more whole.forward above) ∙ ends_number-append (slice_range text at point) (slice_range text point more) whole_parts.1

  -- with no point, or no digit after it
  pub number_of_integer : NoneFits (continues is_digit) text point → (get_or text point 0 ≡ 46 → point + 1 < length text → is_digit (get_or text (point + 1) 0) ≡ false) → IsLongest is_number text at point
  number_of_integer stops no_fraction = record {
    forward = whole.forward;
    within = whole.within;
    passes = and_from _ _ whole_parts.0 (rest point (omega arith) ∙ ap ends_number (range-none text point));
    longest = λ more above within.
        let head = range-head text point more above within in
        let x = get_or text point 0 in
        let r = slice_range text (point + 1) more in
        and_right (begins is_digit (slice_range text at more)) _ (rest more (omega arith) ∙ ap ends_number head
        ∙ ⊎_elim
        (λ dot. cond-true (eqb x 46) (is_integer r) (continues is_digit (x ∷ r) && ends_number r) (eq-eqb x 46 dot) ∙ and_left (begins is_digit r) _
        (⊎_elim
        (λ further. ap (begins is_digit) (range-head text (point + 1) more further within) ∙ no_fraction dot (omega arith))
        (λ none. let same : more ≡ point + 1 = omega arith in ap (begins is_digit) (ap (λ n. slice_range text (point + 1) n) same ∙ range-none text (point + 1)))
        (cases_lt (point + 1) more)))
        (λ other. cond-false (eqb x 46) (is_integer r) (continues is_digit (x ∷ r) && ends_number r) (ne_eqb x 46 other) ∙ and_left (continues is_digit (x ∷ r)) _ (sym (ap (continues is_digit) head) ∙ stops more (omega arith) within))
        (cases_eq x 46));
  }

  -- with a point and an integer after it
  pub number_with_fraction : (end : ℕ) → point < length text → get_or text point 0 ≡ 46 → IsLongest is_integer text (point + 1) end → IsLongest is_number text at end
  number_with_fraction end inside dot fraction =
      let after : (more : ℕ) → point < more → more ≤ length text → ends_number (slice_range text at more) ≡ is_integer (slice_range text (point + 1) more) = λ more above within.
      rest more (omega arith) ∙ ap ends_number (range-head text point more above within)
      ∙ cond-true (eqb (get_or text point 0) 46) (is_integer (slice_range text (point + 1) more)) (continues is_digit (get_or text point 0 ∷ slice_range text (point + 1) more) && ends_number (slice_range text (point + 1) more)) (eq-eqb _ 46 dot) in
      let from : at ≤ point = whole.forward in
      let to : point + 1 ≤ end = fraction.forward in
      record {
        forward = omega arith;
        within = fraction.within;
        passes = and_from _ _ (begins_all end (omega arith) fraction.within) (after end (omega arith) fraction.within ∙ fraction.passes);
        longest = λ more above within. and_right (begins is_digit (slice_range text at more)) _ (after more (omega arith) within ∙ fraction.longest more above within);
      }
