-- What the numbered steps of a process stand on.
use Rattle.std.specs.Prelude.{All}
use Rattle.std.specs.List.{IsDistinct}
use Rattle.std.specs.Str.{bytes_eq}
use Rattle.vital_cell.specs.Kinds.{IsShort}
use Rattle.vital_cell.specs.Scopes.{Scope, names_of_variables}

-- The names of the variables of a process differ, and its vectors are short.
pub record IsFormed (k : Scope) : Type 0 where
  pub distinct : IsDistinct bytes_eq (names_of_variables k)
  pub short : All (λ v. IsShort v.kind) k.variables
