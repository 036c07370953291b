-- From where an expression sees names, and what may be an operand in it.
use Rattle.std.specs.Prelude.{ℕ, Bool, true, false, List, Option, Some, None}
use Rattle.std.specs.Option.{option_and_then, option_map_or}
use Rattle.vital_declarations.specs.Operands.{OperandKind, NoOperand, operand_kind}
use Rattle.vital_names.specs.declared.predeclared.Predeclared.{Predeclared as Predeclared'}
use Rattle.vital_names.specs.declared.site.CellUnit.{CellUnit}
use Rattle.vital_names.specs.Declarations.{Declared}
use Rattle.vital_names.specs.Meanings.{Meaning, meaning, meaning_in_value}
use Rattle.vital_names.specs.Meanings as meanings
use Rattle.vital_names.specs.Sites.{Cell, Site}
use Rattle.vital_nodes.specs.declared.decl.Object.{Object}
use Rattle.vital_nodes.specs.declared.identifier.Identifier.{Identifier}
use Rattle.vital_nodes.specs.declared.stmt.Process.{Process}
use Rattle.vital_nodes.specs.declared.unit.Units.{Units}

-- Where an expression stands: in a statement, where each name sees what stands before it; in the value of a constant or in the
-- default of a port, a signal or a variable; in the default of a generic or a port; or in the value of a constant of a package, which
-- sees the constants before it.
pub data Position : Type 0 where
  InStatement : Cell → CellUnit → Option Process → Position
  InValue : Cell → Site → Position
  InInterface : Cell → Site → Position
  InPackage : List Units → ℕ → Position

-- The files of the library.
abbrev pub files_of : Position → List Units
files_of (InStatement cell unit process) = cell.files
files_of (InValue cell site) = cell.files
files_of (InInterface cell site) = cell.files
files_of (InPackage files number) = files

-- The site of a name in a statement.
abbrev pub site_of : CellUnit → Option Process → Identifier → Site
site_of unit process i = record { unit = unit; process = process; viewpoint = i.place }

-- What a name means there.
abbrev pub meaning_at : Position → Identifier → Option Meaning
meaning_at (InStatement cell unit process) i = meaning i.name cell (site_of unit process i)
meaning_at (InValue cell site) i = meaning i.name cell site
meaning_at (InInterface cell site) i = meaning i.name cell site
meaning_at (InPackage files number) i = meaning_in_value i.name number files

-- Signals, ports, variables, their elements and aliases of these are operands in statements alone.
abbrev pub changes : Position → Bool
changes (InStatement cell unit process) = true
changes (InValue cell site) = false
changes (InInterface cell site) = false
changes (InPackage files number) = false

-- Generics are no operands in an interface.
abbrev pub has_generics : Position → Bool
has_generics (InStatement cell unit process) = true
has_generics (InValue cell site) = true
has_generics (InInterface cell site) = false
has_generics (InPackage files number) = true

-- What a name stands for: something that is declared, as an operand; a constant of a package with its number; what is predeclared;
-- or nothing.
pub data Standing : Type 0 where
  Operand : OperandKind → Standing
  Constant : ℕ → Object → Standing
  Word : Predeclared' → Standing
  Nothing : Standing

abbrev pub kind_at : Position → Identifier → Declared → OperandKind
kind_at (InStatement cell unit process) i d = operand_kind cell (site_of unit process i) d
kind_at (InValue cell site) i d = operand_kind cell site d
kind_at (InInterface cell site) i d = operand_kind cell site d
kind_at (InPackage files number) i d = NoOperand

abbrev pub standing_of : Position → Identifier → Meaning → Standing
standing_of p i (meanings.Declared d) = Operand (kind_at p i d)
standing_of p i (meanings.Constant n o) = Constant n o
standing_of p i (meanings.Predeclared w) = Word w

abbrev pub standing : Position → Identifier → Standing
standing p i = option_map_or (standing_of p i) (meaning_at p i) Nothing
