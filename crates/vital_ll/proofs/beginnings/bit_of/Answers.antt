use Rattle.std.proofs.Common.{◌≡◌, ◌+◌, ◌-◌, ◌*◌, ◌%◌, ◌^◌, sym, subst, arith}
use Rattle.vital_ll.specs.Marks.{has, is_of_kind}
use Rattle.vital_ll.specs.Masks.{token_at}
use Rattle.vital_ll.proofs.Bits.{kind_inside}
use Rattle.vital_ll.proofs.beginnings.bit_of.Goals as goal

pub returns-then-bit-base-lt128 : goal.returns-then-bit-base-lt128
returns-then-bit-base-lt128 c = λ i low.
    subst (λ k. has (1 * 2 ^ ((k + 1) - c.args.base) % 2 ^ 128) i ≡ is_of_kind c.args.kind (token_at (c.args.base + i))) (sym c.from-bit.ensures)
    (kind_inside c.args.kind c.args.base i (omega (arith, c.from-bit.ensures)) (omega (arith, c.from-bit.ensures)))
