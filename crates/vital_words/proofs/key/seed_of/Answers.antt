use Rattle.std.proofs.Common.{◌≡◌, ◌<◌, ◌∙◌, true, length, get_or, ap, sym, arith}
use Rattle.std.specs.Char.{is_ascii_digit}
use Rattle.std.proofs.lemmas.Bool.Decides.{nat_tests}
use Rattle.std.proofs.lemmas.List.{drop_all}
use Rattle.vital_words.proofs.Seeds.{seed_after, refused, accepted}
use Rattle.vital_words.proofs.key.seed_of.Goals as goal

pub returns-in_err-checked_mul : goal.returns-in_err-checked_mul
returns-in_err-checked_mul c =
    let some : 0 < length c.args.value.now = grind (arith, nat_tests) in
    let digit : is_ascii_digit (get_or c.args.value.now c.loop-digit.digit-index 0) ≡ true = cc in
    let no_room = c.in_err-checked_mul.ensures in
    c.from_residual.ensures
    ∙ refused c.args.value.now c.loop-digit.digit-index c.loop-digit.seed some c.if-value-gt-LONGEST_SEED.false c.loop-digit-test.true digit c.loop-digit.invariant.read (omega (arith, no_room))

pub returns-in_err-seed : goal.returns-in_err-seed
returns-in_err-seed c =
    let some : 0 < length c.args.value.now = grind (arith, nat_tests) in
    let digit : is_ascii_digit (get_or c.args.value.now c.loop-digit.digit-index 0) ≡ true = cc in
    let no_room = c.in_err-seed.ensures in
    let tenfold = c.in_ok-checked_mul.ensures in
    c.from_residual-in_err-seed.ensures
    ∙ refused c.args.value.now c.loop-digit.digit-index c.loop-digit.seed some c.if-value-gt-LONGEST_SEED.false c.loop-digit-test.true digit c.loop-digit.invariant.read (omega (arith, no_room, tenfold))

pub returns : goal.returns
returns c =
    let some : 0 < length c.args.value.now = grind (arith, nat_tests) in
    let read = ap (seed_after c.loop-digit.seed) (drop_all c.loop-digit.digit-index c.args.value.now c.loop-digit-test.false) in
    accepted c.args.value.now c.loop-digit.seed some c.if-value-gt-LONGEST_SEED.false (omega arith) (sym read ∙ c.loop-digit.invariant.read)
