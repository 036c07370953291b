use Rattle.std.proofs.Common.{◌≡◌, take}
use Rattle.std.specs.Prelude.{slice_index}
use Rattle.vital_table.specs.Masks.{mask_of}
use Rattle.vital_table.specs.Matches.{level_matches}
use Rattle.vital_table.proofs.columns.state_mask.Given as goal

abbrev pub invariant-loop-number : goal.invariant-loop-number
invariant-loop-number l = l.mask ≡ mask_of (λ row. level_matches (slice_index row l.column) l.level) (take l.number l.rows)
