use Rattle.std.proofs.Common.{◌≡◌, false}
use Rattle.vital_rows.proofs.parts.put_parts.Given as goal

abbrev pub invariant-loop : goal.invariant-loop
invariant-loop l = l.kernel.is_given_up ≡ false
