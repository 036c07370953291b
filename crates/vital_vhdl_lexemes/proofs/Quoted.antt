-- What stands between two marks, and the marks that may close it.
use Rattle.std.proofs.Common.{◌≡◌, ℕ, ◌+◌, ◌<◌, ◌≤◌, true, false, ◌&&◌, eqb, List, [], ◌∷◌, ◌++◌, length, get_or, refl, ap, sym, ◌∙◌, ⊎_elim, arith, append_assoc, append-nil}
use Rattle.std.specs.Prelude.{slice_range, Option, Some, None, MatchOption}
use Rattle.std.proofs.lemmas.Bool.{and_left, ne_eqb, eq-eqb, cases_lt, cond-true, cond-false}
use Rattle.vital_vhdl_lexemes.specs.Bytes.{is_graphic}
use Rattle.vital_vhdl_lexemes.specs.Forms.{closes}
use Rattle.vital_vhdl_lexemes.specs.Longest.{IsLongest, NoneFits}
use Rattle.vital_vhdl_lexemes.proofs.Ranges.{range-split, range-head, range-one, range-two}

same : (mark : ℕ) → eqb mark mark ≡ true
same mark = eq-eqb mark mark refl

closes-pair : (mark : ℕ) (ys : List ℕ) → closes mark (mark ∷ mark ∷ ys) ≡ closes mark ys
closes-pair mark ys = cond-true (eqb mark mark) _ _ (same mark) ∙ ap (λ b. b && closes mark ys) (same mark)

closes-graphic : (mark b : ℕ) (ys : List ℕ) → (b ≡ mark → ⊥) → is_graphic b ≡ true → closes mark (b ∷ ys) ≡ closes mark ys
closes-graphic mark b [] other graphic = ne_eqb b mark other
closes-graphic mark b (c ∷ ys) other graphic = cond-false (eqb b mark) _ _ (ne_eqb b mark other) ∙ ap (λ g. g && closes mark (c ∷ ys)) graphic

closes-other : (mark b : ℕ) (ys : List ℕ) → (b ≡ mark → ⊥) → is_graphic b ≡ false → closes mark (b ∷ ys) ≡ false
closes-other mark b [] other graphic = ne_eqb b mark other
closes-other mark b (c ∷ ys) other graphic = cond-false (eqb b mark) _ _ (ne_eqb b mark other) ∙ and_left (is_graphic b) _ graphic

closes-single : (mark c : ℕ) (ys : List ℕ) → (c ≡ mark → ⊥) → closes mark (mark ∷ c ∷ ys) ≡ false
closes-single mark c ys other = cond-true (eqb mark mark) _ _ (same mark) ∙ and_left (eqb c mark) _ (ne_eqb c mark other)

-- Up to `end` nothing decides whether what follows is closed.
pub record IsOpen (mark : ℕ) (text : List ℕ) (at end : ℕ) : Type 0 where
  pub open_after : (ys : List ℕ) → closes mark (slice_range text at end ++ ys) ≡ closes mark ys

-- Up to `end` this is the last offset that closes, if one does.
pub record IsLastClosed (mark : ℕ) (text : List ℕ) (at end closed : ℕ) : Type 0 where
  pub forward : at ≤ closed
  pub within : closed ≤ end
  pub passes : closes mark (slice_range text at closed) ≡ true
  pub last : (more : ℕ) → closed < more → more ≤ end → closes mark (slice_range text at more) ≡ false

abbrev pub NoneClosed : ℕ → List ℕ → ℕ → ℕ → Type 0
NoneClosed mark text at end = (more : ℕ) → at ≤ more → more ≤ end → closes mark (slice_range text at more) ≡ false

abbrev pub LastClosed : ℕ → List ℕ → ℕ → ℕ → Option ℕ → Type 0
LastClosed mark text at end closed = MatchOption closed (NoneClosed mark text at end) (IsLastClosed mark text at end)

module _ (mark : ℕ) (text : List ℕ) (at : ℕ) where
  module _ (end : ℕ) (forward : at ≤ end) (open_here : IsOpen mark text at end) where
    beyond : (more : ℕ) → end ≤ more → closes mark (slice_range text at more) ≡ closes mark (slice_range text end more)
    beyond more above = ap (closes mark) (range-split text at end more forward above) ∙ open_here.open_after _

    step : (more : ℕ) → end ≤ more → (ys : List ℕ) → closes mark (slice_range text at more ++ ys) ≡ closes mark (slice_range text end more ++ ys)
    step more above ys = ap (λ r. closes mark (r ++ ys)) (range-split text at end more forward above) ∙ ap (closes mark) (append_assoc (slice_range text at end) (slice_range text end more) ys) ∙ open_here.open_after _

    pub open_graphic : end < length text → (get_or text end 0 ≡ mark → ⊥) → is_graphic (get_or text end 0) ≡ true → IsOpen mark text at (end + 1)
    open_graphic inside other graphic = record {
      open_after = λ ys. step (end + 1) (omega arith) ys ∙ ap (λ r. closes mark (r ++ ys)) (range-one text end inside) ∙ closes-graphic mark _ ys other graphic;
    }

    pub open_pair : end + 1 < length text → get_or text end 0 ≡ mark → get_or text (end + 1) 0 ≡ mark → IsOpen mark text at (end + 2)
    open_pair inside first second = record {
      open_after = λ ys. step (end + 2) (omega arith) ys ∙ ap (λ r. closes mark (r ++ ys)) (range-two text end inside ∙ ap (λ b. b ∷ get_or text (end + 1) 0 ∷ []) first ∙ ap (λ b. mark ∷ b ∷ []) second) ∙ closes-pair mark ys;
    }

    closed_at_mark : end < length text → get_or text end 0 ≡ mark → closes mark (slice_range text at (end + 1)) ≡ true
    closed_at_mark inside first = beyond (end + 1) (omega arith) ∙ ap (closes mark) (range-one text end inside ∙ ap (λ b. b ∷ []) first) ∙ same mark

    pub closed_graphic : (closed : Option ℕ) → end < length text → (get_or text end 0 ≡ mark → ⊥) → is_graphic (get_or text end 0) ≡ true → LastClosed mark text at end closed → LastClosed mark text at (end + 1) closed
    closed_graphic closed inside other graphic before =
        let here : closes mark (slice_range text at (end + 1)) ≡ false = beyond (end + 1) (omega arith) ∙ ap (closes mark) (range-one text end inside) ∙ closes-graphic mark _ [] other graphic in
        let at_last : (more : ℕ) → end < more → more ≤ end + 1 → closes mark (slice_range text at more) ≡ false = λ more above within.
        let last : more ≡ end + 1 = omega arith in ap (λ n. closes mark (slice_range text at n)) last ∙ here in
        elim closed as (λ o. LastClosed mark text at end o → LastClosed mark text at (end + 1) o) [
          | None ↦ λ b more above within. ⊎_elim (λ past. at_last more past within) (λ up_to. b more above up_to) (cases_lt end more)
          | Some k ↦ λ b. record {
            forward = b.forward;
            within = omega (arith, b.within);
            passes = b.passes;
            last = λ more above within. ⊎_elim (λ past. at_last more past within) (λ up_to. b.last more above up_to) (cases_lt end more);
          }
        ] before

    pub closed_pair : end + 1 < length text → get_or text end 0 ≡ mark → get_or text (end + 1) 0 ≡ mark → LastClosed mark text at (end + 2) (Some (end + 1))
    closed_pair inside first second = record {
      forward = omega arith;
      within = omega arith;
      passes = closed_at_mark (omega arith) first;
      last = λ more above within.
          let last : more ≡ end + 2 = omega arith in
          ap (λ n. closes mark (slice_range text at n)) last
          ∙ ap (closes mark) (sym (append-nil (slice_range text at (end + 2)))) ∙ (open_pair inside first second).open_after [];
    }

    -- a mark with no second one closes, and nothing longer fits
    pub closed_single : end < length text → get_or text end 0 ≡ mark → (end + 1 < length text → get_or text (end + 1) 0 ≡ mark → ⊥) → IsLongest (closes mark) text at (end + 1)
    closed_single inside first alone = record {
      forward = omega arith;
      within = omega arith;
      passes = closed_at_mark inside first;
      longest = λ more above within.
          beyond more (omega arith)
          ∙ ap (closes mark) (range-head text end more (omega arith) within ∙ ap (λ b. b ∷ slice_range text (end + 1) more) first ∙ ap (λ r. mark ∷ r) (range-head text (end + 1) more above within))
          ∙ closes-single mark _ _ (alone (omega arith));
    }

    -- where nothing closes beyond the end, the last offset that closes is the longest
    all_closed : (closed : Option ℕ) → end ≤ length text → LastClosed mark text at end closed → ((more : ℕ) → end < more → more ≤ length text → closes mark (slice_range text at more) ≡ false) → MatchOption closed (NoneFits (closes mark) text at) (IsLongest (closes mark) text at)
    all_closed closed inside before none =
        elim closed as (λ o. LastClosed mark text at end o → MatchOption o (NoneFits (closes mark) text at) (IsLongest (closes mark) text at)) [
          | None ↦ λ b more above within. ⊎_elim (λ past. none more past within) (λ up_to. b more above up_to) (cases_lt end more)
          | Some k ↦ λ b. record {
            forward = b.forward;
            within = omega (arith, b.within);
            passes = b.passes;
            longest = λ more above within. ⊎_elim (λ past. none more past within) (λ up_to. b.last more above up_to) (cases_lt end more);
          }
        ] before

    pub closed_at_other : (closed : Option ℕ) → end < length text → (get_or text end 0 ≡ mark → ⊥) → is_graphic (get_or text end 0) ≡ false → LastClosed mark text at end closed → MatchOption closed (NoneFits (closes mark) text at) (IsLongest (closes mark) text at)
    closed_at_other closed inside other graphic before =
        all_closed closed (omega arith) before (λ more above within. beyond more (omega arith) ∙ ap (closes mark) (range-head text end more above within) ∙ closes-other mark _ _ other graphic)
