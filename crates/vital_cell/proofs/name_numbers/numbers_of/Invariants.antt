use Rattle.std.proofs.Common.{◌≡◌, ℕ, List, map, take}
use Rattle.std.specs.List.{position_from}
use Rattle.std.specs.Str.{bytes_eq}
use Rattle.vital_names.specs.FirstNames.{first_in}
use Rattle.vital_cell.proofs.name_numbers.numbers_of.Given as goal

abbrev pub invariant-loop-number : goal.invariant-loop-number
invariant-loop-number l = (name : List ℕ) → first_in l.numbers name ≡ position_from (λ n. bytes_eq n name) 0 (map (λ n. n.now) (take l.number l.names))
