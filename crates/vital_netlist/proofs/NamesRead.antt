-- The names of entities, of what they declare and of instances are those of identifiers, in a library of files that were read.
use Rattle.std.proofs.Common.{ℕ, suc, List, [], ◌∷◌, Ok, All, sym, ap, subst, arith}
use Rattle.std.specs.Prelude.{Contains}
use Rattle.std.specs.Str.{bytes_eq}
use Rattle.std.proofs.lemmas.List.Elements.{All-append, All-cons, All-contains, All-filter, All-nil}
use Rattle.vital_as_read.specs.AsRead.{IsNamed}
use Rattle.vital_as_read.specs.Libraries.{IsFromText}
use Rattle.vital_as_read.proofs.Each.{AreSound, each_named}
use Rattle.vital_as_read.proofs.Tokens.{tokens_are_sound}
use Rattle.vital_lex.specs.Outcome.{IsOutcome}
use Rattle.vital_lex.specs.Pieces.{Lexes}
use Rattle.vital_vhdl_lexemes.specs.Vhdl.{vhdl}
use Rattle.vital_lex.specs.declared.token_list.Token.{Token}
use Rattle.vital_library.specs.Units.{archs_among, archs_of, entities, entities_among, units_of}
use Rattle.vital_names.specs.Declarations.{declared_in}
use Rattle.vital_nodes.specs.IdentifierNames.{IsIdentifierName}
use Rattle.vital_nodes.specs.declared.identifier.Identifier.{Identifier}
use Rattle.vital_nodes.specs.declared.unit.Arch.{Arch}
use Rattle.vital_nodes.specs.declared.unit.Entity.{Entity}
use Rattle.vital_nodes.specs.declared.unit.Role.{Role}
use Rattle.vital_nodes.specs.declared.unit.Unit.{Unit as Unit'}
use Rattle.vital_nodes.specs.declared.unit.Unit.TheVariants as u
use Rattle.vital_nodes.specs.declared.unit.Units.{Units}
use Rattle.vital_shapes.proofs.Along.{Source}
use Rattle.vital_vhdl.proofs.IdentifierNames.{names_of_text}
use Rattle.vital_vhdl.specs.Outcomes.{IsUnitsOf}
use Rattle.vital_netlist.proofs.LabelsRead.{labels}
use Rattle.vital_netlist.proofs.UnitsRead.{UnitAlong, units_along}

abbrev pub IsFormed : Identifier → Type 0
IsFormed i = IsIdentifierName i.name

pub record IsEntityFormed (e : Entity) : Type 0 where
  pub name : IsFormed e.identifier
  pub declared : All IsNamed (declared_in e.declarations)
  pub labelled : All IsFormed (labels e.statements)

abbrev pub IsArchFormed : Arch → Type 0
IsArchFormed a = All IsFormed (labels a.statements)

abbrev IsUnitFormed : Unit' → Type 0
IsUnitFormed (u.Entity e) = IsEntityFormed e
IsUnitFormed (u.Arch a) = IsArchFormed a
IsUnitFormed (u.Pack p) = Unit {0}
IsUnitFormed (u.Config c) = Unit {0}

-- ---- one file

unit-formed : (o : Source) (ts : List Token) (x : Unit') → AreSound o ts → UnitAlong o ts x → IsUnitFormed x
unit-formed o ts (u.Entity e) sound x =
    record { name = each_named x.name sound 0 e.identifier (omega arith); declared = each_named x.declared sound; labelled = each_named x.labelled sound }
unit-formed o ts (u.Arch a) sound x = each_named x.labelled sound
unit-formed o ts (u.Pack p) sound x = tt
unit-formed o ts (u.Config c) sound x = tt

-- the tokens of a lexed text
lexes : (text : List ℕ) (room : ℕ) (tokens : List Token) → IsOutcome vhdl text room (Ok tokens) → Lexes vhdl text tokens
lexes text room tokens (lexemes, reaches, same) = (lexemes, reaches.row, same)

file-formed : (file : ℕ) (role : Role) (text : List ℕ) (room : ℕ) (read : Units) → IsUnitsOf file role text room read → All IsUnitFormed read.units
file-formed file role text room read h =
    let o : Source = record { file = file; text = text } in
    let lexed = lexes text room h.tokens h.lexed in
    let sound = tokens_are_sound o h.tokens lexed (names_of_text text h.tokens lexed) in
    let along = units_along file text h.tokens h.tree h.units h.derived h.shaped in
    subst (λ (found : List Unit'). All IsUnitFormed found) (sym (ap (λ (r : Units). r.units) h.read_is))
    (λ k x inside. unit-formed o h.tokens _ sound (along k x inside))

from-text : (read : Units) → IsFromText read → All IsUnitFormed read.units
from-text read (file, text, room, is) = file-formed file read.role text room read is

-- ---- all files

all-units : (files : List Units) → All IsFromText files → All IsUnitFormed (units_of files)
all-units [] read = All-nil _
all-units (f ∷ files) read = All-append IsUnitFormed f.units (units_of files) (from-text f (read 0 f (omega arith))) (all-units files (λ k d inside. read (suc k) d (omega arith)))

rest : (x : Unit') (units : List Unit') → All IsUnitFormed (x ∷ units) → All IsUnitFormed units
rest x units formed = λ k d inside. formed (suc k) d (omega arith)

all-entities : (units : List Unit') → All IsUnitFormed units → All IsEntityFormed (entities_among units)
all-entities [] formed = All-nil _
all-entities (u.Entity e ∷ units) formed =
    All-cons IsEntityFormed e (entities_among units) (formed 0 (u.Entity e) (omega arith)) (all-entities units (rest (u.Entity e) units formed))
all-entities (u.Arch a ∷ units) formed = all-entities units (rest (u.Arch a) units formed)
all-entities (u.Pack p ∷ units) formed = all-entities units (rest (u.Pack p) units formed)
all-entities (u.Config c ∷ units) formed = all-entities units (rest (u.Config c) units formed)

all-archs : (units : List Unit') → All IsUnitFormed units → All IsArchFormed (archs_among units)
all-archs [] formed = All-nil _
all-archs (u.Entity e ∷ units) formed = all-archs units (rest (u.Entity e) units formed)
all-archs (u.Arch a ∷ units) formed =
    All-cons IsArchFormed a (archs_among units) (formed 0 (u.Arch a) (omega arith)) (all-archs units (rest (u.Arch a) units formed))
all-archs (u.Pack p ∷ units) formed = all-archs units (rest (u.Pack p) units formed)
all-archs (u.Config c ∷ units) formed = all-archs units (rest (u.Config c) units formed)

-- the entities of a library that was read, and their architectures
pub entity-formed : (files : List Units) (e : Entity) → All IsFromText files → Contains (entities files) e → IsEntityFormed e
entity-formed files e read there = All-contains IsEntityFormed (entities files) e (all-entities (units_of files) (all-units files read)) there

pub arch-formed : (files : List Units) (name : List ℕ) (a : Arch) → All IsFromText files → Contains (archs_of name files) a → IsArchFormed a
arch-formed files name a read there =
    All-contains IsArchFormed (archs_of name files) a
    (All-filter (λ b. bytes_eq b.entity.name name) IsArchFormed (archs_among (units_of files)) (all-archs (units_of files) (all-units files read))) there
