use Rattle.std.proofs.Common.{◌≡◌, ℕ, List, map, take}
use Rattle.std.specs.Str.{bytes_eq}
use Rattle.vital_annotate.specs.Numbers.{numbers_where}
use Rattle.vital_annotate.specs.PathKeys.{numbers_under}
use Rattle.vital_annotate.proofs.path_keys.numbers_by_key.Given as goal

abbrev pub invariant-loop-number : goal.invariant-loop-number
invariant-loop-number l = (key : List ℕ) → numbers_under l.numbers key ≡ numbers_where (λ k. bytes_eq k key) (map (λ k. k.items) (take l.number l.keys))
