use Rattle.std.proofs.Common.{◌≡◌, ◌<◌, get_or, sym, ◌∙◌, arith, inl, inr}
use Rattle.vital_stim.proofs.NumberLemmas.{number_from, at_end, room, stops, ends_at, is_none, none_at, some_at, is_digit_small}
use Rattle.vital_stim.proofs.digits.number_at.Goals as goal
use Rattle.vital_stim.proofs.digits.number_at.Goals.{then-not-is_ascii_digit-via-then-not-is_ascii_digit, then-not-is_ascii_digit-via-else-not-is_ascii_digit+then-count-eq-MOST_DIGITS, in_default, in-len1-up+then-is_blank}

pub returns-then-not-is_ascii_digit-clause-none : goal.returns-then-not-is_ascii_digit-clause-none
returns-then-not-is_ascii_digit-clause-none c =
    let blank = sym c.is_blank.ensures ∙ c.if-is_blank.false in
    let l = c.loop-rest in
    elim c.then-not-is_ascii_digit.branch [
      | then-not-is_ascii_digit-via-then-not-is_ascii_digit w ↦ is_none _ (sym l.invariant.reads ∙ stops l.value l.count l.rest.now c.in-len1-up.len_at_least blank (inl (sym c.is_ascii_digit.ensures.value ∙ w.if-not-is_ascii_digit.true)))
      | then-not-is_ascii_digit-via-else-not-is_ascii_digit+then-count-eq-MOST_DIGITS w ↦ is_none _ (sym l.invariant.reads ∙ stops l.value l.count l.rest.now c.in-len1-up.len_at_least blank (inr w.if-count-eq-MOST_DIGITS.true))
    ]

pub overflow_mul-value : goal.overflow_mul-value
overflow_mul-value c =
    let few : c.loop-rest.count < 19 = omega (arith, c.loop-rest.invariant.few, c.if-count-eq-MOST_DIGITS.false) in
    omega (arith, room c.loop-rest.value c.loop-rest.count c.loop-rest.invariant.small few)

pub overflow_add-value : goal.overflow_add-value
overflow_add-value c =
    let few : c.loop-rest.count < 19 = omega (arith, c.loop-rest.invariant.few, c.if-count-eq-MOST_DIGITS.false) in
    let digit = is_digit_small (get_or c.loop-rest.rest.now 0 0) (sym c.is_ascii_digit.ensures.value ∙ c.if-not-is_ascii_digit.false) in
    omega (arith, room c.loop-rest.value c.loop-rest.count c.loop-rest.invariant.small few, digit, c.from.ensures)

pub returns-then-count-eq0-clause-none : goal.returns-then-count-eq0-clause-none
returns-then-count-eq0-clause-none c =
    let l = c.loop-rest in
    let at : number_from l.value l.count l.rest.now ≡ at_end l.value l.count l.rest.now = elim c.if-rest-lt1.branch [
      | in_default w ↦ ends_at _ _ _ (inl w.in_default.len_below)
      | in-len1-up+then-is_blank w ↦ ends_at _ _ _ (inr (w.in-len1-up.len_at_least, sym w.is_blank.ensures ∙ w.if-is_blank.true))
    ] in
    none_at _ _ _ _ c.if-count-eq0.true l.invariant.reads at

pub returns-else-count-eq0-clause-number : goal.returns-else-count-eq0-clause-number
returns-else-count-eq0-clause-number c =
    let l = c.loop-rest in
    let at : number_from l.value l.count l.rest.now ≡ at_end l.value l.count l.rest.now = elim c.if-rest-lt1.branch [
      | in_default w ↦ ends_at _ _ _ (inl w.in_default.len_below)
      | in-len1-up+then-is_blank w ↦ ends_at _ _ _ (inr (w.in-len1-up.len_at_least, sym w.is_blank.ensures ∙ w.if-is_blank.true))
    ] in
    (some_at _ _ _ _ c.if-count-eq0.false l.invariant.reads at).0

pub returns-else-count-eq0-clause-after : goal.returns-else-count-eq0-clause-after
returns-else-count-eq0-clause-after c =
    let l = c.loop-rest in
    let at : number_from l.value l.count l.rest.now ≡ at_end l.value l.count l.rest.now = elim c.if-rest-lt1.branch [
      | in_default w ↦ ends_at _ _ _ (inl w.in_default.len_below)
      | in-len1-up+then-is_blank w ↦ ends_at _ _ _ (inr (w.in-len1-up.len_at_least, sym w.is_blank.ensures ∙ w.if-is_blank.true))
    ] in
    (some_at _ _ _ _ c.if-count-eq0.false l.invariant.reads at).1
