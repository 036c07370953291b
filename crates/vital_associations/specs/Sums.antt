-- Sums of two numbers, read from the right.
use Rattle.std.specs.Prelude.{ℕ, ◌+◌}
use Rattle.vital_declarations.specs.Numbers.{number}
use Rattle.vital_associations.specs.declared.sum.Sum.{Sum}

-- What is left of a sum.
abbrev pub value : Sum → ℕ
value s = number s.first.now + number s.second.now + s.carry
