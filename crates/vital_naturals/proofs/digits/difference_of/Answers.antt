use Rattle.std.proofs.Common.{◌≡◌, ℕ, ◌+◌, ◌*◌, ◌^◌, List, [], ◌∷◌, length, length-append, take, sym, ap, subst, arith}
use Rattle.vital_naturals.proofs.DigitLemmas.{digit_taken, digits_pushed, taken}
use Rattle.vital_naturals.proofs.digits.difference_of.Goals as goal
use Rattle.vital_naturals.specs.Digits.{value}

pub loop-place-preserved : goal.loop-place-preserved
loop-place-preserved c =
    let left = c.loop-place.left.items in
    let digit = c.digit_left-digit.result.0 in
    let ten = c.digit_left-digit.result.1 in
    let P : List ℕ → Type 0 = λ ds. value ds + value (take (c.loop-place.place + 1) c.args.lower.now) ≡ value (take (c.loop-place.place + 1) c.args.upper.now) + 10 ^ (c.loop-place.place + 1) * ten in (
      omega (arith, ap length c.in_ok-push.ensures.items, length-append left (digit ∷ []), c.loop-place.invariant.0),
      c.digit_left-digit.ensures.borrowed,
      digits_pushed left c.push.new.self.items digit c.loop-place.invariant.2 c.digit_left-digit.ensures.small c.in_ok-push.ensures.items,
      subst P (sym c.in_ok-push.ensures.items) (digit_taken left c.args.upper.now c.args.lower.now c.loop-place.place c.loop-place.borrowed c.digit_at.result c.digit_at-in-loop-place.result digit ten c.loop-place.invariant.0 c.loop-place.invariant.3 c.digit_at.ensures.digit c.digit_at-in-loop-place.ensures.digit c.digit_left-digit.ensures.left),
    )

pub returns-clause-value : goal.returns-clause-value
returns-clause-value c =
    taken c.loop-place.left.items c.args.upper.now c.args.lower.now c.loop-place.place c.loop-place.borrowed (omega arith) (omega arith) c.loop-place.invariant.3 c.loop-place.invariant.2 c.loop-place.invariant.0 c.requires.less c.loop-place.invariant.1
