-- Where names stand first in lists.
use Rattle.std.specs.Prelude.{ℕ, Bool, List, Option, is_some}
use Rattle.std.specs.List.{find}
use Rattle.std.specs.Option.{option_map}
use Rattle.std.specs.Str.{bytes_eq}
use Rattle.vital_base.specs.declared.place.Place.{Place}
use Rattle.vital_nodes.specs.declared.identifier.Identifier.{Identifier}
use Rattle.vital_uses.specs.declared.names_at.NameAt.{NameAt as NameAt'}

-- A name, and where it stands.
pub record NameAt : Type 0 where
  pub name : List ℕ
  pub place : Place

-- What is borrowed of it.
abbrev pub lent_name : NameAt' → NameAt
lent_name n = record { name = n.name.now; place = n.place }

-- An identifier as such.
abbrev pub at : Identifier → NameAt
at i = record { name = i.name; place = i.place }

-- Where a name stands first in a list, if it stands there.
abbrev pub first_place : List NameAt → List ℕ → Option Place
first_place ns name = option_map (λ n. n.place) (find (λ n. bytes_eq n.name name) ns)

abbrev pub has_name : List NameAt → List ℕ → Bool
has_name ns name = is_some (first_place ns name)
