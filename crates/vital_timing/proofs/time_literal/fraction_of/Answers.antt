use Rattle.std.proofs.Common.{◌≡◌, true, false, ◌*◌, ◌+◌, ◌/◌, ap, sym, ◌∙◌, arith}
use Rattle.std.specs.Char.{is_ascii_digit}
use Rattle.vital_timing.specs.TimeLiterals.{carried}
use Rattle.vital_timing.proofs.Carries.{taken-digit, taken-other, taken-small}
use Rattle.vital_timing.proofs.time_literal.fraction_of.Goals as goal

pub loop-last-preserved-then-is_ascii_digit : goal.loop-last-preserved-then-is_ascii_digit
loop-last-preserved-then-is_ascii_digit c =
    let last = c.in-Some.last.now in
    let digit : is_ascii_digit last ≡ true = sym c.is_ascii_digit.ensures.value ∙ c.if-is_ascii_digit.true in
    record {
      value =
          ap (λ d. carried c.args.worth c.in-Some.front.now ((d * c.args.worth + c.loop-last.carry) / 10)) c.from.ensures
          ∙ taken-digit c.args.worth c.loop-last.carry last _ c.loop-last.rest.now c.in-Some.front.now c.in-Some.ensures.cases.0 digit c.loop-last.invariant.value;
      small = omega (arith, c.from.ensures, ap (λ d. (d * c.args.worth + c.loop-last.carry) / 10) c.from.ensures, taken-small c.args.worth c.loop-last.carry last digit c.loop-last.invariant.small);
    }

pub loop-last-preserved : goal.loop-last-preserved
loop-last-preserved c =
    let last = c.in-Some.last.now in
    let digit : is_ascii_digit last ≡ false = sym c.is_ascii_digit.ensures.value ∙ c.if-is_ascii_digit.false in
    record {
      value = taken-other c.args.worth c.loop-last.carry last _ c.loop-last.rest.now c.in-Some.front.now c.in-Some.ensures.cases.0 digit c.loop-last.invariant.value;
      small = c.loop-last.invariant.small;
    }
