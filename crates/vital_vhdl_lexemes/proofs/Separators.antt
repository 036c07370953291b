-- The longest separator at an offset.
use Rattle.std.proofs.Common.{◌≡◌, ℕ, zero, suc, ◌+◌, ◌-◌, ◌<◌, ◌≤◌, Bool, true, false, not, ◌&&◌, ◌==◌, eqb, List, [], ◌∷◌, ◌++◌, length, get_or, refl, ap, sym, subst, ◌∙◌, ⊎_elim, arith}
use Rattle.std.specs.Prelude.{slice_range}
use Rattle.std.specs.List.{list_all}
use Rattle.std.proofs.lemmas.Bool.{and_parts, and_from, and_left, and_right, ne_eqb, eq-eqb, cases_lt, cases_eq, false≢true}
use Rattle.vital_vhdl_lexemes.specs.Bytes.{is_blank}
use Rattle.vital_vhdl_lexemes.specs.Finding.{IsRun}
use Rattle.vital_vhdl_lexemes.specs.Forms.{is_separator}
use Rattle.vital_vhdl_lexemes.specs.Longest.{IsLongest, NoneFits}
use Rattle.vital_lex.specs.Lexicon.{Parted, last, more}
use Rattle.vital_vhdl_lexemes.specs.Vhdl.{vhdl}
use Rattle.vital_vhdl_lexemes.proofs.Found.{separator_found, no_separator_found}
use Rattle.vital_vhdl_lexemes.proofs.Ranges.{range-split, range-none, range-head, range-one}

-- what a comment goes over
abbrev pub no_line_feed : ℕ → Bool
no_line_feed = λ b. not (b == 10)

list_all-append : (test : ℕ → Bool) (xs ys : List ℕ) → list_all test xs ≡ true → list_all test (xs ++ ys) ≡ list_all test ys
list_all-append test [] ys h = refl
list_all-append test (x ∷ xs) ys h =
    let parts = and_parts (test x) (list_all test xs) h in
    ap (λ b. b && list_all test (xs ++ ys)) parts.0 ∙ list_all-append test xs ys parts.1

module _ (text : List ℕ) where
  pub run_more : (class : ℕ → Bool) (at end : ℕ) → at ≤ end → end < length text → list_all class (slice_range text at end) ≡ true → class (get_or text end 0) ≡ true → list_all class (slice_range text at (end + 1)) ≡ true
  run_more class at end forward inside before here =
      ap (list_all class) (range-split text at end (end + 1) forward (omega arith)) ∙ list_all-append class (slice_range text at end) (slice_range text end (end + 1)) before
      ∙ ap (list_all class) (range-one text end inside) ∙ and_from _ true here refl

  module _ (at : ℕ) (inside : at < length text) where
    no_dash : (b : ℕ) → is_blank b ≡ true → eqb b 45 ≡ false
    no_dash b blank = ne_eqb b 45 (λ e. false≢true (sym (ap is_blank e) ∙ blank))

    pub blank_is_longest : is_blank (get_or text at 0) ≡ true → IsLongest is_separator text at (at + 1)
    blank_is_longest blank = record {
      forward = omega arith;
      within = omega arith;
      passes = ap is_separator (range-one text at inside) ∙ blank;
      longest = λ more above within.
          ap is_separator (range-head text at more (omega arith) within ∙ ap (λ r. get_or text at 0 ∷ r) (range-head text (at + 1) more above within))
          ∙ and_left (eqb (get_or text at 0) 45 && eqb (get_or text (at + 1) 0) 45) (list_all no_line_feed (slice_range text (at + 1 + 1) more)) (and_left (eqb (get_or text at 0) 45) _ (no_dash (get_or text at 0) blank));
    }

    pub comment_is_longest : (end : ℕ) → get_or text at 0 ≡ 45 → at + 1 < length text → get_or text (at + 1) 0 ≡ 45 → IsRun no_line_feed text (at + 2) end → IsLongest is_separator text at end
    comment_is_longest end first more_than_one second run =
        let forward : at + 2 ≤ end = run.forward in
        let next : at + 1 + 1 ≡ at + 2 = omega arith in
        let body : (e : ℕ) → at + 2 ≤ e → e ≤ length text → is_separator (slice_range text at e) ≡ list_all no_line_feed (slice_range text (at + 2) e) = λ e above e_within.
        ap is_separator (range-head text at e (omega arith) e_within ∙ ap (λ r. get_or text at 0 ∷ r) (range-head text (at + 1) e (omega arith) e_within ∙ ap (λ n. get_or text (at + 1) 0 ∷ slice_range text n e) next))
        ∙ ap (λ b. b && eqb (get_or text (at + 1) 0) 45 && list_all no_line_feed (slice_range text (at + 2) e)) (eq-eqb _ 45 first)
        ∙ ap (λ b. b && list_all no_line_feed (slice_range text (at + 2) e)) (eq-eqb _ 45 second) in
        record {
          forward = omega arith;
          within = run.within;
          passes = body end forward run.within ∙ run.passes;
          longest = λ more above more_within.
              body more (omega arith) more_within
              ∙ ap (list_all no_line_feed) (range-split text (at + 2) end more forward (omega arith)) ∙ list_all-append no_line_feed (slice_range text (at + 2) end) (slice_range text end more) run.passes
              ∙ ap (list_all no_line_feed) (range-head text end more above more_within)
              ∙ and_left (no_line_feed (get_or text end 0)) (list_all no_line_feed (slice_range text (end + 1) more)) (run.stops (omega arith));
        }

    pub no_separator : is_blank (get_or text at 0) ≡ false → (get_or text at 0 ≡ 45 → at + 1 < length text → get_or text (at + 1) 0 ≡ 45 → ⊥) → NoneFits is_separator text at
    no_separator not_blank not_comment = λ e above within.
        ⊎_elim
        (λ some.
        let head = range-head text at e some within in
        ⊎_elim
        (λ two.
        ap is_separator (head ∙ ap (λ r. get_or text at 0 ∷ r) (range-head text (at + 1) e two within))
        ∙ and_left (eqb (get_or text at 0) 45 && eqb (get_or text (at + 1) 0) 45) (list_all no_line_feed (slice_range text (at + 1 + 1) e)) (⊎_elim
        (λ dash. and_right (eqb (get_or text at 0) 45) (eqb (get_or text (at + 1) 0) 45) (ne_eqb _ 45 (not_comment dash (omega arith))))
        (λ other. and_left (eqb (get_or text at 0) 45) _ (ne_eqb _ 45 other))
        (cases_eq (get_or text at 0) 45)))
        (λ one. let here : e ≡ at + 1 = omega arith in ap (λ n. is_separator (slice_range text at n)) here ∙ ap is_separator (range-one text at inside) ∙ not_blank)
        (cases_lt (at + 1) e))
        (λ none. let here : e ≡ at = omega arith in ap (λ n. is_separator (slice_range text at n)) here ∙ ap is_separator (range-none text at))
        (cases_lt at e)

-- blanks are separators, each of one byte
module _ (text : List ℕ) (target : ℕ) where
  blanks : (n at end : ℕ) → at + n ≡ end → end ≤ length text → list_all is_blank (slice_range text at end) ≡ true → Parted vhdl text end target → Parted vhdl text at target
  blanks zero at end count within all rest = let here : end ≡ at = omega arith in subst (λ (a : ℕ). Parted vhdl text a target) here rest
  blanks (suc n) at end count within all rest =
      let some : at < end = omega arith in
      let parts = and_parts (is_blank (get_or text at 0)) (list_all is_blank (slice_range text (at + 1) end)) (sym (ap (list_all is_blank) (range-head text at end some within)) ∙ all) in
      more (separator_found text at (at + 1) (blank_is_longest text at (omega arith) parts.0)) (blanks n (at + 1) end (omega arith) within parts.1 rest)

  pub past_blanks : (at end : ℕ) → IsRun is_blank text at end → Parted vhdl text end target → Parted vhdl text at target
  past_blanks at end passed rest = let forward : at ≤ end = passed.forward in blanks (end - at) at end (omega arith) passed.within passed.passes rest

-- a comment is one, and so is what follows it
pub past_comment : (text : List ℕ) (target at end : ℕ) → IsLongest is_separator text at end → Parted vhdl text end target → Parted vhdl text at target
past_comment text target at end comment rest = more (separator_found text at end comment) rest

pub none_follows : (text : List ℕ) (at : ℕ) → at ≤ length text → NoneFits is_separator text at → Parted vhdl text at at
none_follows text at inside none = last inside (no_separator_found text at none)

pub none_at_end : (text : List ℕ) (at : ℕ) → at ≡ length text → NoneFits is_separator text at
none_at_end text at at_end = λ e above within. let here : e ≡ at = omega arith in ap (λ n. is_separator (slice_range text at n)) here ∙ ap is_separator (range-none text at)
