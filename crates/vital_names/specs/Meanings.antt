-- What names mean.
use Rattle.std.specs.Prelude.{ℕ, List, take, Option, Some, None, if◌then◌else◌}
use Rattle.std.specs.List.{enumerate_from, find}
use Rattle.std.specs.Option.{option_and_then, option_map, option_or}
use Rattle.vital_base.specs.Places.{is_before}
use Rattle.vital_base.specs.declared.place.Place.{Place}
use Rattle.vital_nodes.specs.declared.decl.Object.{Object as Object'}
use Rattle.vital_nodes.specs.declared.unit.Units.{Units}
use Rattle.vital_library.specs.Constants.{constants_of, has_name}
use Rattle.vital_names.specs.declared.meaning.Meaning.{Meaning as Meaning'}
use Rattle.vital_names.specs.declared.meaning.Meaning.TheVariants as borrowed
use Rattle.vital_names.specs.declared.predeclared.Predeclared.{Predeclared as Predeclared'}
use Rattle.vital_names.specs.declared.site.CellUnit.{CellUnit}
use Rattle.vital_names.specs.declared.site.CellUnit.TheVariants.{Entity, Architecture}
use Rattle.vital_names.specs.Declarations.{Declared as Declared', body_of, declared_in, first_named, identifier_of, interface_of}
use Rattle.vital_names.specs.Declarations as declarations
use Rattle.vital_names.specs.Sites.{Cell, Site}
use Rattle.vital_names.specs.Words.{predeclared}

-- What a name means: what a declaration of the cell declares, a constant of a package with its number among those of all
-- packages, or what is predeclared.
pub data Meaning : Type 0 where
  Declared : Declared' → Meaning
  Constant : ℕ → Object' → Meaning
  Predeclared : Predeclared' → Meaning

-- What is borrowed of it.
abbrev pub lent : Meaning' → Meaning
lent (borrowed.Declared d) = Declared (declarations.lent d)
lent (borrowed.Constant c) = Constant c.number c.object.now
lent (borrowed.Predeclared p) = Predeclared p

-- ---- outside of cells

-- The constants of the packages of a library, each with its number, from 0.
abbrev pub constants : List Units → List (ℕ × Object')
constants files = enumerate_from 0 (constants_of files)

-- The first constant of a name.
abbrev pub constant_named : List ℕ → List (ℕ × Object') → Option (ℕ × Object')
constant_named name cs = find (λ c. has_name name c.1) cs

-- A name means a constant, or else what is predeclared.
abbrev pub meaning_among : List (ℕ × Object') → List ℕ → Option Meaning
meaning_among cs name = option_or (option_map (λ c. Constant c.0 c.1) (constant_named name cs)) (option_map (λ p. Predeclared p) (predeclared name))

-- What a name means in the value of the constant of a number: only the constants before it are seen.
abbrev pub meaning_in_value : List ℕ → ℕ → List Units → Option Meaning
meaning_in_value name number files = meaning_among (take number (constants files)) name

-- ---- in a cell

-- A declaration, if it stands before a viewpoint.
abbrev pub if_before : Place → Declared' → Option Declared'
if_before viewpoint d = if is_before (identifier_of d).place viewpoint then Some d else None

-- The first declaration of a name in a list, if it stands before a viewpoint.
abbrev pub first_before : Place → List ℕ → List Declared' → Option Declared'
first_before viewpoint name ds = option_and_then (if_before viewpoint) (first_named name ds)

-- What the process declares for a name, if there is a process.
abbrev pub declared_in_process : List ℕ → Site → Option Declared'
declared_in_process name site = option_and_then (λ p. first_before site.viewpoint name (declared_in p.declarations)) site.process

-- What the architecture declares. The entity sees nothing of it.
abbrev pub declared_in_arch : CellUnit → Place → List ℕ → Cell → Option Declared'
declared_in_arch Entity viewpoint name cell = None
declared_in_arch Architecture viewpoint name cell = first_before viewpoint name (body_of cell.arch)

-- What the generics and ports are. The architecture sees all of them.
abbrev pub declared_in_entity : CellUnit → Place → List ℕ → Cell → Option Declared'
declared_in_entity Entity viewpoint name cell = first_before viewpoint name (interface_of cell.entity)
declared_in_entity Architecture viewpoint name cell = first_named name (interface_of cell.entity)

-- What a declaration of the cell declares for a name at a site: one of the process, or else of the architecture, or else of the
-- entity.
abbrev pub declared : List ℕ → Cell → Site → Option Declared'
declared name cell site =
    option_or (declared_in_process name site) (option_or (declared_in_arch site.unit site.viewpoint name cell) (declared_in_entity site.unit site.viewpoint name cell))

-- What a name means at a site of a cell: a declaration of the cell, or else what it means outside of cells. It may mean nothing.
abbrev pub meaning : List ℕ → Cell → Site → Option Meaning
meaning name cell site = option_or (option_map (λ d. Declared d) (declared name cell site)) (meaning_among (constants cell.files) name)
