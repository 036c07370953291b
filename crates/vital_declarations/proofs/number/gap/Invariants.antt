use Rattle.std.proofs.Common.{◌≡◌, ◌-◌, ◌^◌, take, drop}
use Rattle.std.specs.Str.Parse.{digits_value}
use Rattle.vital_declarations.specs.Digits.{behind_zeros, digits_of, gap_to, shown}
use Rattle.vital_declarations.proofs.number.gap.Given as goal

abbrev pub invariant-loop : goal.invariant-loop
invariant-loop l =
    (l.gap ≡ gap_to (2 ^ 64) (digits_value 10 (take l.counter (behind_zeros (l.width - l.upper_count) (digits_of l.upper)))) (digits_value 10 (take l.counter (behind_zeros (l.width - l.lower_count) (digits_of l.lower)))))
    × (shown l.upper_digits ≡ drop l.counter (behind_zeros (l.width - l.upper_count) (digits_of l.upper)))
    × (shown l.lower_digits ≡ drop l.counter (behind_zeros (l.width - l.lower_count) (digits_of l.lower)))
