use Rattle.std.proofs.Common.{◌≡◌, ℕ, ◌*◌, ◌^◌}
use Rattle.vital_sdf_words.specs.Readings.{capped}
use Rattle.vital_sdf_words.proofs.reading.Reading.rounded.Given as goal

abbrev pub invariant-loop : goal.invariant-loop
invariant-loop l = (n : ℕ) → l.self.tenths ≡ capped n → l.tenths ≡ capped (n * 10 ^ l.counter)
