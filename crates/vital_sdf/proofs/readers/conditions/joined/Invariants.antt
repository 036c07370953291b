use Rattle.std.proofs.Common.{◌≡◌, ◌++◌, drop}
use Rattle.vital_sdf.specs.Conditions.{joined}
use Rattle.vital_sdf.proofs.readers.conditions.joined.Given as goal

abbrev pub invariant-loop-token : goal.invariant-loop-token
invariant-loop-token l = joined l.cursor.text l.tokens ≡ l.bytes.items ++ joined l.cursor.text (drop l.token-index l.tokens)
