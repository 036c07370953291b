use Rattle.std.proofs.Common.{◌≡◌, ◌-◌, true, [], ◌∷◌, ◌++◌}
use Rattle.std.specs.Char.{is_ascii_digit}
use Rattle.vital_naturals.proofs.DigitLemmas.{digits_pushed}
use Rattle.vital_naturals.proofs.LiteralLemmas.{digit_below, digit_pushed}
use Rattle.vital_naturals.proofs.digits.digits_of_literal.Goals as goal

pub loop-byte-preserved-in_ok-push : goal.loop-byte-preserved-in_ok-push
loop-byte-preserved-in_ok-push c =
    let ds = c.loop-byte.digits.items in
    let byte = c.in-Some.byte.now in
    let is : c.loop-byte.rest.now ≡ c.in-Some.others.now ++ byte ∷ [] = c.in-Some.ensures.cases.0 in
    let digit : is_ascii_digit byte ≡ true = cc c.if-is_ascii_digit.ensures.value in (
      digits_pushed ds c.push.new.self.items (byte - 48) c.loop-byte.invariant.0 (digit_below byte digit) c.in_ok-push.ensures.items,
      digit_pushed ds c.push.new.self.items c.loop-byte.rest.now c.in-Some.others.now byte _ c.in_ok-push.ensures.items is digit c.loop-byte.invariant.1,
    )
