use Rattle.std.proofs.Common.{◌≡◌, ℕ, List, map, take, drop}
use Rattle.std.specs.Prelude.{is_some}
use Rattle.vital_names.specs.FirstNames.{first_in}
use Rattle.vital_structure.specs.Contents.{lent}
use Rattle.vital_structure.specs.Faults.{first_fault, first_fault_behind, is_declared}
use Rattle.vital_structure.proofs.faults.first_fault.Given as goal

abbrev pub invariant-loop-content : goal.invariant-loop-content
invariant-loop-content l =
    ((q : List ℕ) → is_some (first_in l.names q) ≡ is_declared (map lent (take l.content-index l.contents)) q)
    × (first_fault (map lent l.contents) ≡ first_fault_behind (map lent (take l.content-index l.contents)) (map lent (drop l.content-index l.contents)))
