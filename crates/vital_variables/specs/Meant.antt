-- What identifiers in processes mean.
use Rattle.std.specs.Prelude.{Option, Some}
use Rattle.vital_base.specs.declared.place.Place.{Place}
use Rattle.vital_nodes.specs.declared.identifier.Identifier.{Identifier}
use Rattle.vital_nodes.specs.declared.stmt.Process.{Process}
use Rattle.vital_names.specs.Meanings.{Meaning, meaning}
use Rattle.vital_names.specs.Sites.{Cell}
use Rattle.vital_uses.specs.Sited.{own_site}

-- What an identifier in a process means, seen from a viewpoint.
unfoldable pub meant_from : Cell → Process → Place → Identifier → Option Meaning
meant_from cell p viewpoint i = meaning i.name cell (own_site (Some p) viewpoint)

-- The same where it stands.
abbrev pub meant : Cell → Process → Identifier → Option Meaning
meant cell p i = meant_from cell p i.place i
