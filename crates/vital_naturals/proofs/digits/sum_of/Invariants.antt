use Rattle.std.proofs.Common.{◌≡◌, ◌+◌, ◌*◌, ◌^◌, ◌≤◌, length, take}
use Rattle.vital_naturals.specs.Digits.{AreDigits, value}
use Rattle.vital_naturals.proofs.digits.sum_of.Given as goal

abbrev pub invariant-loop-place : goal.invariant-loop-place
invariant-loop-place l =
    (length l.sum.items ≡ l.place)
    × (l.carry ≤ 1)
    × AreDigits l.sum.items
    × (value l.sum.items + 10 ^ l.place * l.carry ≡ value (take l.place l.first) + value (take l.place l.second))
