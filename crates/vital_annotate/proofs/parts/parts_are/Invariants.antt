use Rattle.std.proofs.Common.{◌≡◌, ℕ, ◌<◌, get_or}
use Rattle.std.specs.Prelude.{[], true}
use Rattle.vital_annotate.specs.Parts.{part_is}
use Rattle.vital_annotate.proofs.parts.parts_are.Given as goal

abbrev pub invariant-loop-i : goal.invariant-loop-i
invariant-loop-i l = (k : ℕ) → k < l.i → part_is (get_or l.labels k (record { ref_ptr = (0, 0); now = [] })).now (get_or l.parts k (record { ref_ptr = (0, 0); now = [] })).now ≡ true
