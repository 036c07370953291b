use Rattle.std.proofs.Common.{◌≡◌, ◌+◌, ◌*◌, ◌^◌, length, take}
use Rattle.vital_naturals.specs.Digits.{AreDigits, value}
use Rattle.vital_naturals.proofs.word.digits_of_word.Given as goal

abbrev pub invariant-loop-place : goal.invariant-loop-place
invariant-loop-place l =
    (length l.digits ≡ 20) × AreDigits (take l.place l.digits) × (value (take l.place l.digits) + 10 ^ l.place * l.rest ≡ l.word)
