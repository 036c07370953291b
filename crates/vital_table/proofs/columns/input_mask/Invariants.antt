use Rattle.std.proofs.Common.{◌≡◌, take}
use Rattle.std.specs.Prelude.{slice_index}
use Rattle.vital_table.specs.Masks.{mask_of}
use Rattle.vital_table.specs.Matches.{input_matches}
use Rattle.vital_table.proofs.columns.input_mask.Given as goal

abbrev pub invariant-loop-number : goal.invariant-loop-number
invariant-loop-number l = l.mask ≡ mask_of (λ row. input_matches (slice_index row l.column) l.old l.new) (take l.number l.rows)
