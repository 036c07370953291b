-- Bytes appended to what a sink tells.
use Rattle.std.proofs.Common.{◌≡◌, ℕ, ◌+◌, ◌-◌, List, [], ◌++◌, length, take, drop, refl, ap, sym, append_assoc}
use Rattle.std.proofs.Math.Seq.{take-add, take-length}
use Rattle.std.proofs.lemmas.List.{append-nil, length-drop}
use Rattle.std.proofs.lemmas.List.Sums.{fold-append}
use Rattle.vital_base.specs.Sinks.{Told, got, tallied, untold, appended}
use Rattle.vital_base.specs.Tallies.{with_byte}

-- one piece after another is both pieces in one
pub appended-appended : (told : Told) (xs ys : List ℕ) → appended (appended told xs) ys ≡ appended told (xs ++ ys)
appended-appended untold xs ys = refl
appended-appended (tallied before) xs ys = ap tallied (sym (fold-append with_byte before xs ys))
appended-appended (got before) xs ys = ap got (append_assoc before xs ys)

pub appended-nil : (told : Told) → appended told [] ≡ told
appended-nil untold = refl
appended-nil (tallied before) = refl
appended-nil (got before) = ap got (append-nil before)

-- the rest of a piece as its slice gives it
pub rest_is : (n : ℕ) (piece : List ℕ) → take (length piece - n) (drop n piece) ≡ drop n piece
rest_is n piece = rw (← length-drop n piece) (take-length (drop n piece))

-- the first bytes of a piece, and then the first of its rest
pub appended-take-add : (told : Told) (piece : List ℕ) (n m : ℕ)
    → appended (appended told (take n piece)) (take m (take (length piece - n) (drop n piece))) ≡ appended told (take (n + m) piece)
appended-take-add told piece n m =
    rw (rest_is n piece, take-add n m piece) (appended-appended told (take n piece) (take m (drop n piece)))
