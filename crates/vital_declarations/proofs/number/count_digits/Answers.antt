use Rattle.std.proofs.Common.{arith, take}
use Rattle.std.specs.Char.{is_ascii_digit}
use Rattle.std.proofs.lemmas.List.{length-take}
use Rattle.std.proofs.lemmas.List.Sums.{length-filter, count_by-le-length}
use Rattle.vital_declarations.proofs.number.count_digits.Goals as goal

pub overflow_add-count : goal.overflow_add-count
overflow_add-count c =
    let shown = length-filter is_ascii_digit (take c.loop-byte.byte-index c.args.literal.now) in
    let least = count_by-le-length is_ascii_digit (take c.loop-byte.byte-index c.args.literal.now) in
    omega (arith, length-take c.loop-byte.byte-index c.args.literal.now)
