-- What is declared that a name means, where each declaration that is seen has a property.
use Rattle.std.proofs.Common.{◌≡◌, ℕ, true, List, Option, Some, None}
use Rattle.std.specs.Prelude.{⊤, IfSome}
use Rattle.std.specs.List.{AllByRecursion}
use Rattle.std.specs.Option.{option_and_then, option_map, option_or}
use Rattle.std.specs.Str.{bytes_eq}
use Rattle.vital_base.specs.declared.place.Place.{Place}
use Rattle.vital_base.specs.Places.{is_before}
use Rattle.vital_names.specs.declared.predeclared.Predeclared.{Predeclared}
use Rattle.vital_names.specs.declared.site.CellUnit.TheVariants.{Architecture, Entity}
use Rattle.vital_names.specs.Declarations.{Declared, body_of, declared_in, first_named, identifier_of, interface_of}
use Rattle.vital_names.specs.Meanings.{Meaning, constant_named, constants, declared, first_before, if_before, meaning}
use Rattle.vital_names.specs.Meanings as meanings
use Rattle.vital_names.specs.Sites.{Cell, Site}
use Rattle.vital_names.specs.Words.{predeclared}
use Rattle.vital_nodes.specs.declared.decl.Object.{Object}
use Rattle.vital_nodes.specs.declared.stmt.Process.{Process}
use Rattle.vital_typed_cells.proofs.Found.{either, found, if-or}

-- Where it stands before a place, it has a property.
abbrev pub Before : (Declared → Type 0) → Place → Declared → Type 0
Before P v d = is_before (identifier_of d).place v ≡ true → P d

-- Each declaration that is seen from a place of an architecture, or of a process of it, has a property.
pub record Declares (P : Declared → Type 0) (cell : Cell) (process : Option Process) (v : Place) : Type 0 where
  pub in_process : IfSome process (λ q. AllByRecursion (Before P v) (declared_in q.declarations))
  pub in_arch : AllByRecursion (Before P v) (body_of cell.arch)
  pub in_entity : AllByRecursion P (interface_of cell.entity)

-- It has a name, and a property.
abbrev pub Named : (Declared → Type 0) → List ℕ → Declared → Type 0
Named P name d = P d × (bytes_eq (identifier_of d).name name ≡ true)

-- ---- the first of a name

first-has : (P : Declared → Type 0) (name : List ℕ) (ds : List Declared) → AllByRecursion P ds → IfSome (first_named name ds) (Named P name)
first-has P name ds all = found P (λ d. bytes_eq (identifier_of d).name name) ds all

if-before-has : (P : Declared → Type 0) (name : List ℕ) (v : Place) (o : Option Declared) → IfSome o (Named (Before P v) name) → IfSome (option_and_then (if_before v) o) (Named P name)
if-before-has P name v None has = tt
if-before-has P name v (Some d) has = if-or (Named P name) (is_before (identifier_of d).place v) d None (λ is. (has.0 is, has.1)) tt

pub before-has : (P : Declared → Type 0) (name : List ℕ) (v : Place) (ds : List Declared) → AllByRecursion (Before P v) ds → IfSome (first_before v name ds) (Named P name)
before-has P name v ds all = if-before-has P name v (first_named name ds) (first-has (Before P v) name ds all)

process-has : (P : Declared → Type 0) (name : List ℕ) (v : Place) (o : Option Process) → IfSome o (λ q. AllByRecursion (Before P v) (declared_in q.declarations))
    → IfSome (option_and_then (λ q. first_before v name (declared_in q.declarations)) o) (Named P name)
process-has P name v None has = tt
process-has P name v (Some q) has = before-has P name v (declared_in q.declarations) has

-- ---- in a cell

abbrev pub site_of_interface : Place → Site
site_of_interface v = record { unit = Entity; process = None; viewpoint = v }

abbrev pub site_at : Option Process → Place → Site
site_at process v = record { unit = Architecture; process = process; viewpoint = v }

pub declared-has : (P : Declared → Type 0) (name : List ℕ) (cell : Cell) (process : Option Process) (v : Place) → Declares P cell process v → IfSome (declared name cell (site_at process v)) (Named P name)
declared-has P name cell process v has =
    either (Named P name) (option_and_then (λ q. first_before v name (declared_in q.declarations)) process) (option_or (first_before v name (body_of cell.arch)) (first_named name (interface_of cell.entity)))
    (process-has P name v process has.in_process)
    (either (Named P name) (first_before v name (body_of cell.arch)) (first_named name (interface_of cell.entity))
    (before-has P name v (body_of cell.arch) has.in_arch)
    (first-has P name (interface_of cell.entity) has.in_entity))

-- ---- what names mean

-- A constant of a package that is meant has a property, with its number.
abbrev pub OnConstant : (ℕ → Object → Type 0) → Meaning → Type 0
OnConstant K (meanings.Declared d) = ⊤
OnConstant K (meanings.Constant n o) = K n o
OnConstant K (meanings.Predeclared w) = ⊤

abbrev pub IfPackaged : (ℕ → Object → Type 0) → Option Meaning → Type 0
IfPackaged K o = IfSome o (OnConstant K)

-- What a meaning has.
abbrev pub Means : (Declared → Type 0) → (ℕ → Object → Type 0) → List ℕ → Meaning → Type 0
Means P K name (meanings.Declared d) = Named P name d
Means P K name (meanings.Constant n o) = K n o
Means P K name (meanings.Predeclared w) = ⊤

-- What is meant by what is declared, by a constant of a package and by a word.
abbrev pub meaning_by : Option Declared → Option (ℕ × Object) → Option Predeclared → Option Meaning
meaning_by d c w = option_or (option_map (λ e. meanings.Declared e) d) (option_or (option_map (λ e. meanings.Constant e.0 e.1) c) (option_map (λ e. meanings.Predeclared e) w))

pub meant-has : (P : Declared → Type 0) (K : ℕ → Object → Type 0) (name : List ℕ) (d : Option Declared) (c : Option (ℕ × Object)) (w : Option Predeclared) → IfSome d (Named P name) → IfPackaged K (meaning_by d c w) → IfSome (meaning_by d c w) (Means P K name)
meant-has P K name (Some d) c w has packaged = has
meant-has P K name None (Some c) w has packaged = packaged
meant-has P K name None None (Some w) has packaged = tt
meant-has P K name None None None has packaged = tt

pub meaning-has : (P : Declared → Type 0) (K : ℕ → Object → Type 0) (name : List ℕ) (cell : Cell) (process : Option Process) (v : Place) → Declares P cell process v → IfPackaged K (meaning name cell (site_at process v))
    → IfSome (meaning name cell (site_at process v)) (Means P K name)
meaning-has P K name cell process v has packaged =
    meant-has P K name (declared name cell (site_at process v)) (constant_named name (constants cell.files)) (predeclared name) (declared-has P name cell process v has) packaged

-- The same in an interface, which sees of a cell what stands before.
pub interface-has : (P : Declared → Type 0) (K : ℕ → Object → Type 0) (name : List ℕ) (cell : Cell) (v : Place) → AllByRecursion (Before P v) (interface_of cell.entity) → IfPackaged K (meaning name cell (site_of_interface v))
    → IfSome (meaning name cell (site_of_interface v)) (Means P K name)
interface-has P K name cell v has packaged =
    meant-has P K name (first_before v name (interface_of cell.entity)) (constant_named name (constants cell.files)) (predeclared name) (before-has P name v (interface_of cell.entity) has) packaged
