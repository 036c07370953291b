use Rattle.std.proofs.Common.{◌≡◌, ℕ, ◌+◌, ◌*◌, ◌/◌, ◌%◌, ◌^◌, List, [], ◌∷◌, length, length-append, take, sym, ap, subst, arith}
use Rattle.vital_naturals.proofs.DigitLemmas.{digits_added, digits_pushed, summed, summed_with}
use Rattle.vital_naturals.proofs.digits.sum_of.Goals as goal
use Rattle.vital_naturals.proofs.digits.sum_of.Goals.{then-carry-gt0+in_ok-push-2, else-carry-gt0}
use Rattle.vital_naturals.specs.Digits.{value}

pub loop-place-preserved : goal.loop-place-preserved
loop-place-preserved c =
    let sum = c.loop-place.sum.items in
    let digit = c.digit_at.result + c.digit_at-in-loop-place.result + c.loop-place.carry in
    let P : List ℕ → Type 0 = λ ds. value ds + 10 ^ (c.loop-place.place + 1) * (digit / 10) ≡ value (take (c.loop-place.place + 1) c.args.first.now) + value (take (c.loop-place.place + 1) c.args.second.now) in (
      omega (arith, ap length c.in_ok-push.ensures.items, length-append sum (digit % 10 ∷ []), c.loop-place.invariant.0),
      omega (arith, c.digit_at.ensures.small, c.digit_at-in-loop-place.ensures.small, c.loop-place.invariant.1),
      digits_pushed sum c.push.new.self.items (digit % 10) c.loop-place.invariant.2 (omega arith) c.in_ok-push.ensures.items,
      subst P (sym c.in_ok-push.ensures.items) (digits_added sum c.args.first.now c.args.second.now c.loop-place.place c.loop-place.carry c.digit_at.result c.digit_at-in-loop-place.result c.loop-place.invariant.0 c.loop-place.invariant.3 c.digit_at.ensures.digit c.digit_at-in-loop-place.ensures.digit),
    )

pub returns-clause-value : goal.returns-clause-value
returns-clause-value c =
    let sum = c.loop-place.sum.items in
    let first = c.args.first.now in
    let second = c.args.second.now in
    elim c.if-carry-gt0.branch [
      | then-carry-gt0+in_ok-push-2 w ↦
          rw w.sum-is (summed_with sum _ first second c.loop-place.place c.loop-place.carry (omega arith) (omega arith) c.loop-place.invariant.3 c.loop-place.invariant.0 w.in_ok-push-2.ensures.items)
      | else-carry-gt0 w ↦
          rw w.sum-is (summed sum first second c.loop-place.place c.loop-place.carry (omega arith) (omega arith) c.loop-place.invariant.3 (omega arith))
    ]
