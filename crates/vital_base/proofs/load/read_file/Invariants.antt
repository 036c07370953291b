use Rattle.std.proofs.Common.{◌≡◌, ◌≤◌, ◌-◌, vec_len}
use Rattle.vital_base.proofs.Loading.{LeavesWhereTold, AskedSoFar}
use Rattle.vital_base.proofs.load.read_file.Given as goal

abbrev pub invariant-loop-bytes : goal.invariant-loop-bytes
invariant-loop-bytes g l = record {
  keeps_files : g.S.Shelf.files l.shelf ≡ g.S.Shelf.files l.fn.shelf;
  stays_steady : g.S.Shelf.is_steady l.fn.shelf → g.S.Shelf.is_steady l.shelf;
  same_count : g.S.Shelf.faults l.shelf ≡ g.S.Shelf.faults l.fn.shelf;
  short : vec_len l.bytes ≤ 16_777_216;
  asked : AskedSoFar l.name (vec_len l.bytes) (g.S.Shelf.history l.fn.shelf) (g.S.Shelf.history l.shelf);
  leaves : LeavesWhereTold (g.S.Shelf.files l.fn.shelf) l.name l.bytes.items (g.S.Shelf.opened l.shelf);
}

abbrev pub decreases-loop-bytes : goal.decreases-loop-bytes
decreases-loop-bytes g l = 16_777_216 - vec_len l.bytes
