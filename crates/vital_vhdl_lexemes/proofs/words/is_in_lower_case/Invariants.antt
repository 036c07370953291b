use Rattle.std.proofs.Common.{◌≡◌, ℕ, ◌<◌, get_or}
use Rattle.vital_vhdl_lexemes.specs.Bytes.{lower_case}
use Rattle.vital_vhdl_lexemes.proofs.words.is_in_lower_case.Given as goal

abbrev pub invariant-loop-i : goal.invariant-loop-i
invariant-loop-i l = (k : ℕ) → k < l.i → lower_case (get_or l.word k 0) ≡ get_or l.lower k 0
