use Rattle.std.proofs.Common.{◌≡◌, ◌+◌, ◌*◌, ◌^◌, ◌≤◌, length, take}
use Rattle.vital_naturals.specs.Digits.{AreDigits, value}
use Rattle.vital_naturals.proofs.digits.difference_of.Given as goal

abbrev pub invariant-loop-place : goal.invariant-loop-place
invariant-loop-place l =
    (length l.left.items ≡ l.place)
    × (l.borrowed ≤ 1)
    × AreDigits l.left.items
    × (value l.left.items + value (take l.place l.lower) ≡ value (take l.place l.upper) + 10 ^ l.place * l.borrowed)
