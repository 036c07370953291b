use Rattle.std.proofs.Common.{◌≡◌, ℕ, List, ◌++◌, drop}
use Rattle.vital_sdf_words.specs.TidyNames.{tidied_after}
use Rattle.vital_sdf_words.proofs.tidy_name.TidyName.extend.Given as goal

abbrev pub invariant-loop-byte : goal.invariant-loop-byte
invariant-loop-byte l = (rest : List ℕ) → tidied_after l.self (drop l.byte-index l.bytes ++ rest) ≡ tidied_after l.initial.self (l.bytes ++ rest)
