-- The names of constants of packages in the processes of one cell.
use Rattle.std.proofs.Common.{◌≡◌, List, map}
use Rattle.std.specs.List.{flat_map}
use Rattle.vital_names.specs.Sites.{Cell}
use Rattle.vital_nodes.specs.declared.stmt.Process.{Process}
use Rattle.vital_uses.proofs.PutLemmas.{of-processes}
use Rattle.vital_level1.specs.Packages.{named_in_process}

pub named_in_processes : (cell : Cell) (us : List (Cell × Process)) (ps : List Process) → us ≡ map (λ p. (cell, p)) ps → flat_map (λ u. named_in_process u.0 u.1) us ≡ flat_map (named_in_process cell) ps
named_in_processes cell us ps are = of-processes named_in_process cell us ps are
