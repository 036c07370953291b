-- From where statements see names.
use Rattle.std.specs.Prelude.{Option}
use Rattle.vital_base.specs.declared.place.Place.{Place}
use Rattle.vital_nodes.specs.declared.stmt.Process.{Process}
use Rattle.vital_names.specs.declared.site.CellUnit.TheVariants.{Architecture}
use Rattle.vital_names.specs.Sites.{Site}

-- What stands in a statement of an architecture, or of a process of it, sees what is declared before it.
abbrev pub site_at : Option Process → Place → Site
site_at process place = record { unit = Architecture; process = process; viewpoint = place }
