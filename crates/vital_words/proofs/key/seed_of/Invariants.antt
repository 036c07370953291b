use Rattle.std.proofs.Common.{◌≡◌, ◌^◌, ◌<◌, drop}
use Rattle.vital_words.proofs.Seeds.{seed_after}
use Rattle.vital_words.proofs.key.seed_of.Given as goal

abbrev pub invariant-loop-digit : goal.invariant-loop-digit
invariant-loop-digit l = record { read : seed_after l.seed (drop l.digit-index l.value) ≡ seed_after 0 l.value; fits : l.seed < 2 ^ 64 }
