use Rattle.std.proofs.Common.{◌≡◌, ◌+◌, ◌-◌, ◌*◌, ◌^◌, ◌<◌, ◌≤◌, get_or, length, take, sym, ◌∙◌, ap, arith}
use Rattle.std.specs.Char.{digit_value}
use Rattle.std.specs.Str.Parse.{digits_value}
use Rattle.vital_declarations.specs.Digits.{behind_zeros, digits_of, gap_to}
use Rattle.vital_declarations.proofs.GapLemmas.{digit-more, drop-more, length-padded, value-padded}
use Rattle.vital_declarations.proofs.number.gap.Goals as goal

pub loop-preserved : goal.loop-preserved
loop-preserved c =
    let width = c.width_of-width.result in
    let upper_count = c.count_digits-upper_count.result in
    let lower_count = c.count_digits-lower_count.result in
    let upper = behind_zeros (width - upper_count) (digits_of c.args.upper.now) in
    let lower = behind_zeros (width - lower_count) (digits_of c.args.lower.now) in
    let upper_within : upper_count ≤ width = c.width_of-width.ensures.upper in
    let lower_within : lower_count ≤ width = c.width_of-width.ensures.lower in
    let upper_width : length upper ≡ width = length-padded width upper_count (digits_of c.args.upper.now) c.count_digits-upper_count.ensures upper_within in
    let lower_width : length lower ≡ width = length-padded width lower_count (digits_of c.args.lower.now) c.count_digits-lower_count.ensures lower_within in
    let upper_there : c.loop.counter < length upper = omega arith in
    let lower_there : c.loop.counter < length lower = omega arith in
    let upper_more = digit-more upper c.loop.counter c.next.result upper_there (c.next.ensures.value ∙ ap (λ ds. digit_value (get_or ds 0 48)) c.loop.invariant.1) in
    let lower_more = digit-more lower c.loop.counter c.next-in-loop.result lower_there (c.next-in-loop.ensures.value ∙ ap (λ ds. digit_value (get_or ds 0 48)) c.loop.invariant.2) in (
      c.next_gap-gap.ensures _ _ c.loop.invariant.0
          ∙ ap (λ m. gap_to (2 ^ 64) m (digits_value 10 (take c.loop.counter lower) * 10 + c.next-in-loop.result)) (sym upper_more)
          ∙ ap (λ n. gap_to (2 ^ 64) (digits_value 10 (take (c.loop.counter + 1) upper)) n) (sym lower_more),
      drop-more upper _ _ c.loop.counter c.loop.invariant.1 c.next.ensures.others,
      drop-more lower _ _ c.loop.counter c.loop.invariant.2 c.next-in-loop.ensures.others,
    )

pub returns : goal.returns
returns c =
    let width = c.width_of-width.result in
    let upper_count = c.count_digits-upper_count.result in
    let lower_count = c.count_digits-lower_count.result in
    let upper_within : upper_count ≤ width = c.width_of-width.ensures.upper in
    let lower_within : lower_count ≤ width = c.width_of-width.ensures.lower in
    let all : c.loop.counter ≡ width = omega arith in
    c.loop.invariant.0
    ∙ ap (λ k. gap_to (2 ^ 64) (digits_value 10 (take k (behind_zeros (width - upper_count) (digits_of c.args.upper.now)))) (digits_value 10 (take k (behind_zeros (width - lower_count) (digits_of c.args.lower.now))))) all
    ∙ ap (λ m. gap_to (2 ^ 64) m (digits_value 10 (take width (behind_zeros (width - lower_count) (digits_of c.args.lower.now))))) (value-padded width upper_count c.args.upper.now c.count_digits-upper_count.ensures upper_within)
    ∙ ap (λ n. gap_to (2 ^ 64) (digits_value 10 (digits_of c.args.upper.now)) n) (value-padded width lower_count c.args.lower.now c.count_digits-lower_count.ensures lower_within)
