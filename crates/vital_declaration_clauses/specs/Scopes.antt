-- From where a value sees names: from a site of a cell, or from a constant of a package.
use Rattle.std.specs.Prelude.{ℕ, List, Option}
use Rattle.vital_names.specs.Meanings.{Meaning, meaning, meaning_in_value}
use Rattle.vital_names.specs.Sites.{Cell, Site}
use Rattle.vital_names.specs.Sites as sites
use Rattle.vital_nodes.specs.declared.unit.Units.{Units}
use Rattle.vital_declaration_clauses.specs.declared.scope.Scope.{Scope as Scope'}
use Rattle.vital_declaration_clauses.specs.declared.scope.Scope.TheVariants as borrowed

pub data Scope : Type 0 where
  InCell : Cell → Site → Scope
  InPackage : List Units → ℕ → Scope

-- What is borrowed of it.
abbrev pub lent : Scope' → Scope
lent (borrowed.Cell names site) = InCell names.now (sites.lent site.now)
lent (borrowed.Package library number) = InPackage library.now number

-- The files of the library that it is in.
abbrev pub files_of : Scope → List Units
files_of (InCell cell site) = cell.files
files_of (InPackage files number) = files

-- What a name means there.
abbrev pub meaning_from : Scope → List ℕ → Option Meaning
meaning_from (InCell cell site) name = meaning name cell site
meaning_from (InPackage files number) name = meaning_in_value name number files
