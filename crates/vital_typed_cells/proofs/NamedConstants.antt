-- The constants of packages that a cell names, where none of them breaks a clause, are worth values of their types.
use Rattle.std.proofs.Common.{◌≡◌, ℕ, true, false, List, [], ◌∷◌, ◌++◌, Option, Some, None, refl, sym, subst}
use Rattle.std.specs.Prelude.{⊤, slice_get, IfSome}
use Rattle.std.specs.List.{AllByRecursion, flat_map}
use Rattle.std.specs.Option.{option_and_then, option_map}
use Rattle.vital_base.specs.declared.place.Place.{Place}
use Rattle.vital_declaration_clauses.specs.GoodConstants.{is_symbol_type}
use Rattle.vital_declaration_clauses.specs.Regions.{of_process}
use Rattle.vital_declarations.specs.declared.declared_type.TableType.{TableType}
use Rattle.vital_declarations.specs.Types.{type_of}
use Rattle.vital_level1.specs.declared.package_names.NamedConstant.{NamedConstant}
use Rattle.vital_level1.specs.Forms.{table_uses, uses_of_declaration, uses_of_process}
use Rattle.vital_level1.specs.Packages.{named_by, named_constants, named_in, named_in_process}
use Rattle.vital_level1.specs.Uses.{is_among, wrong_numbers}
use Rattle.vital_library.specs.Constants.{constants_of, has_name}
use Rattle.vital_limits.specs.ConstantLimits.{constant_limits, constant_meant, limits_at}
use Rattle.vital_names.specs.declared.predeclared.Predeclared.{Predeclared}
use Rattle.vital_names.specs.Declarations.{Declared, body_of, declared_by, declared_in, identifier_of}
use Rattle.vital_names.specs.Declarations as declared
use Rattle.vital_names.specs.Meanings.{Meaning, constant_named, constants, declared as meant, meaning}
use Rattle.vital_names.specs.Meanings as meanings
use Rattle.vital_names.specs.Sites.{Cell, Site}
use Rattle.vital_names.specs.Words.{predeclared}
use Rattle.vital_nodes.specs.declared.decl.Decl.{Decl}
use Rattle.vital_nodes.specs.declared.decl.Decl.TheVariants as decl
use Rattle.vital_nodes.specs.declared.decl.Iface.{Iface}
use Rattle.vital_nodes.specs.declared.decl.Object.{Object}
use Rattle.vital_nodes.specs.declared.identifier.Identifier.{Identifier}
use Rattle.vital_nodes.specs.declared.stmt.Process.{Process}
use Rattle.vital_nodes.specs.declared.unit.Arch.{Arch}
use Rattle.vital_nodes.specs.Nodes.{Node, Name, names, sequentials}
use Rattle.vital_nodes.specs.Walk.{nodes_of, nodes_of_all}
use Rattle.vital_nodes.specs.Places.{place_of}
use Rattle.vital_objects.specs.PackageValues.{value_at}
use Rattle.vital_operands.specs.Named.{is_table_type}
use Rattle.vital_objects.specs.Signals.{declarations}
use Rattle.vital_package_constants.specs.Breaches.{breaches_at, constant_breaches}
use Rattle.vital_typed_cells.specs.Packages.{sound_values}
use Rattle.vital_uses.specs.Asked.{Asked, asked, asked_at, identifier_of_node}
use Rattle.vital_uses.specs.Nodes.{declaration_nodes, declarations_of, generic_nodes, nodes_of_process, nodes_of_statements, nodes_outside, nodes_outside_processes, port_nodes, sited_declarations, sited_interface}
use Rattle.vital_uses.specs.Parts.{asked_of_decl, asked_of_generic, asked_of_port, asked_of_subtype_if_there}
use Rattle.vital_uses.specs.Sited.{Sited, SitedNode, own_site, seen_from, seen_from_themselves}
use Rattle.vital_uses.specs.Statements.{processes, statements}
use Rattle.vital_nodes.specs.Objects.{is_constant}
use Rattle.vital_typed_cells.proofs.Nodes.{all-within}
use Rattle.vital_as_read.specs.AsRead.{AreConstantsTogether}
use Rattle.vital_typed_cells.proofs.Aliases.{AliasAt}
use Rattle.vital_typed_cells.proofs.Found.{found, weaker}
use Rattle.vital_typed_cells.proofs.KeptValues.{package-kept}
use Rattle.vital_typed_cells.proofs.Lookups.{IsAt, all-numbered, from-zero}
use Rattle.vital_typed_cells.proofs.Lists.{all-both, of-flat, of-mapped}
use Rattle.vital_typed_cells.proofs.PackageLimits.{IsShortIf, package-short}
use Rattle.vital_typed_cells.proofs.PackageRows.{HasRows, rows-known}
use Rattle.vital_typed_cells.proofs.Packages.{IsKnown, each-kept, flat-back, package-known}
use Rattle.vital_typed_cells.proofs.Regions.{back-all, front-all, own-all, processes-all}
use Rattle.vital_typed_cells.proofs.Rows.{SymbolGood}
use Rattle.vital_typed_cells.proofs.Seen.{IfPackaged, OnConstant, meaning_by, site_at}
use Rattle.vital_typed_cells.proofs.Tests.{second-true}
use Rattle.vital_typed_cells.proofs.Unbroken.{IsFree, IsWithin, within-by}
use Rattle.vital_typed_cells.proofs.Uses.{AllFit, RegionFits, processes-fit, regions-fit}
use Rattle.vital_typed_cells.proofs.Worth.{IsWorth}

-- ---- what breaks no clause

pub record FreeNumber (cell : Cell) (n : ℕ) : Type 0 where
  pub breaches : IsFree (breaches_at (constant_breaches cell.files) n)
  pub rows : (limits_at (constant_limits cell.files) n).rows ≡ false
  pub columns : (limits_at (constant_limits cell.files) n).columns ≡ false
  pub delay : (limits_at (constant_limits cell.files) n).delay ≡ false
  pub symbols : is_among (wrong_numbers cell.files (table_uses cell [])) n ≡ false

-- No constant of a package that a cell names breaks a clause, passes a limit or has a wrong symbol; and tables fit the calls that
-- name them.
pub record NamesFree (cell : Cell) : Type 0 where
  pub constants : AllByRecursion (λ c. FreeNumber cell c.number) (named_constants cell)
  pub uses : AllFit cell (table_uses cell [])

-- A constant that a meaning is, and that an identifier at a node means from a site.
abbrev pub FreeMeaning : Cell → Option Meaning → Type 0
FreeMeaning cell m = IfSome (option_and_then constant_meant m) (FreeNumber cell)

abbrev pub FreeAt : Cell → Site → Node → Type 0
FreeAt cell site v = IfSome (identifier_of_node v) (λ i. FreeMeaning cell (meaning i.name cell site))

number-free : (cell : Cell) (place : Place) (o : Option ℕ) → IfSome {T = NamedConstant} (option_map (λ n. record { number = n; place = place }) o) (λ c. FreeNumber cell c.number) → IfSome o (FreeNumber cell)
number-free cell place None free = tt
number-free cell place (Some n) free = free

asked-free : (cell : Cell) (site : Site) (o : Option Identifier) → IfSome {T = Asked} (option_map (λ i. record { identifier = i; meaning = meaning i.name cell site }) o) (λ a. IfSome (named_by a) (λ c. FreeNumber cell c.number))
    → IfSome o (λ i. FreeMeaning cell (meaning i.name cell site))
asked-free cell site None free = tt
asked-free cell site (Some i) free = number-free cell i.place (option_and_then constant_meant (meaning i.name cell site)) free

node-free : (cell : Cell) (v : SitedNode) → IfSome (asked_at cell v) (λ a. IfSome (named_by a) (λ c. FreeNumber cell c.number)) → FreeAt cell v.site v.node
unfolding asked_at
node-free cell v free = asked-free cell v.site (identifier_of_node v.node) free

nodes-free : (cell : Cell) (vs : List SitedNode) → AllByRecursion (λ c. FreeNumber cell c.number) (named_in (asked cell vs)) → AllByRecursion (λ v. FreeAt cell v.site v.node) vs
nodes-free cell vs free =
    weaker (λ v. IfSome (asked_at cell v) (λ a. IfSome (named_by a) (λ c. FreeNumber cell c.number))) (λ v. FreeAt cell v.site v.node) (node-free cell) vs
    (each-kept (λ a. IfSome (named_by a) (λ c. FreeNumber cell c.number)) (asked_at cell) vs (each-kept (λ c. FreeNumber cell c.number) named_by (asked cell vs) free))

-- ---- the nodes of a cell

-- All that a declaration is asked about, and the tables that its value names.
abbrev pub NodesFree : Cell → Sited Decl → Type 0
NodesFree cell e = AllByRecursion (FreeAt cell e.site) (nodes_of_all (asked_of_decl e.declaration))

abbrev pub DeclFree : Cell → Sited Decl → Type 0
DeclFree cell e = NodesFree cell e × AllFit cell (uses_of_declaration cell [] e)

declaration-free : (cell : Cell) (process : Option Process) (ds : List Decl) → AllByRecursion (λ v. FreeAt cell v.site v.node) (declaration_nodes process ds) → AllByRecursion (NodesFree cell) (sited_declarations process ds)
declaration-free cell process ds free =
    weaker (λ e. AllByRecursion (λ v. FreeAt cell v.site v.node) (seen_from e.site (asked_of_decl e.declaration))) (NodesFree cell)
    (λ e all. of-mapped (λ v. FreeAt cell v.site v.node) (λ v. record { site = e.site; node = v }) (nodes_of_all (asked_of_decl e.declaration)) all) (sited_declarations process ds)
    (of-flat (λ v. FreeAt cell v.site v.node) (λ e. seen_from e.site (asked_of_decl e.declaration)) (sited_declarations process ds) free)

abbrev pub IfaceFree : Cell → (Iface → List Node) → Sited Iface → Type 0
IfaceFree cell parts e = AllByRecursion (FreeAt cell e.site) (nodes_of_all (parts e.declaration))

interface-free : (cell : Cell) (parts : Iface → List Node) (is : List Iface) → AllByRecursion (λ v. FreeAt cell v.site v.node) (flat_map (λ e. seen_from e.site (parts e.declaration)) (sited_interface is))
    → AllByRecursion (IfaceFree cell parts) (sited_interface is)
interface-free cell parts is free =
    weaker (λ e. AllByRecursion (λ v. FreeAt cell v.site v.node) (seen_from e.site (parts e.declaration))) (IfaceFree cell parts)
    (λ e all. of-mapped (λ v. FreeAt cell v.site v.node) (λ v. record { site = e.site; node = v }) (nodes_of_all (parts e.declaration)) all) (sited_interface is)
    (of-flat (λ v. FreeAt cell v.site v.node) (λ e. seen_from e.site (parts e.declaration)) (sited_interface is) free)

outside-free : (cell : Cell) → NamesFree cell → AllByRecursion (λ v. FreeAt cell v.site v.node) (nodes_outside_processes cell)
outside-free cell free =
    nodes-free cell (nodes_outside_processes cell) (front-all (λ c. FreeNumber cell c.number) (named_in (asked cell (nodes_outside_processes cell))) (flat_map (named_in_process cell) (processes cell.arch)) free.constants)

-- The nodes of generics, ports and declarations outside of processes.
abbrev generic_part : Cell → List SitedNode
generic_part cell = generic_nodes cell.entity.generics

abbrev port_part : Cell → List SitedNode
port_part cell = port_nodes cell.entity.ports

abbrev body_part : Cell → List SitedNode
body_part cell = declaration_nodes None (declarations_of cell.arch)

declared-free : (cell : Cell) → NamesFree cell → AllByRecursion (λ v. FreeAt cell v.site v.node) (generic_part cell ++ port_part cell ++ body_part cell)
declared-free cell free = front-all (λ v. FreeAt cell v.site v.node) (generic_part cell ++ port_part cell ++ body_part cell) (flat_map nodes_outside (statements cell.arch)) (outside-free cell free)

entity-free : (cell : Cell) → NamesFree cell → AllByRecursion (λ v. FreeAt cell v.site v.node) (generic_part cell ++ port_part cell)
entity-free cell free = front-all (λ v. FreeAt cell v.site v.node) (generic_part cell ++ port_part cell) (body_part cell) (declared-free cell free)

pub generics-free : (cell : Cell) → NamesFree cell → AllByRecursion (IfaceFree cell asked_of_generic) (sited_interface cell.entity.generics)
generics-free cell free = interface-free cell asked_of_generic cell.entity.generics (front-all (λ v. FreeAt cell v.site v.node) (generic_part cell) (port_part cell) (entity-free cell free))

pub ports-free : (cell : Cell) → NamesFree cell → AllByRecursion (IfaceFree cell asked_of_port) (sited_interface cell.entity.ports)
ports-free cell free = interface-free cell asked_of_port cell.entity.ports (back-all (λ v. FreeAt cell v.site v.node) (generic_part cell) (port_part cell) (entity-free cell free))

same-declarations : (a : Option Arch) → declarations_of a ≡ declarations a
same-declarations None = refl
same-declarations (Some a) = refl

pub body-free : (cell : Cell) → NamesFree cell → AllByRecursion (DeclFree cell) (sited_declarations None (declarations cell.arch))
body-free cell free =
    all-both (NodesFree cell) (λ e. AllFit cell (uses_of_declaration cell [] e)) (sited_declarations None (declarations cell.arch))
    (subst (λ ds. AllByRecursion (NodesFree cell) (sited_declarations None ds)) (same-declarations cell.arch)
    (declaration-free cell None (declarations_of cell.arch) (back-all (λ v. FreeAt cell v.site v.node) (generic_part cell ++ port_part cell) (body_part cell) (declared-free cell free))))
    (own-all (RegionFits cell) cell.arch tt (regions-fit cell free.uses))

-- What a process is asked about: its declarations, and the nodes of its statements.
pub record ProcessFree (cell : Cell) (p : Process) : Type 0 where
  pub declarations : AllByRecursion (DeclFree cell) (sited_declarations (Some p) p.declarations)
  pub nodes : AllByRecursion (λ v. FreeAt cell (own_site (Some p) (place_of v)) v) (nodes_of_all (sequentials p.statements))
  pub fits : AllFit cell (uses_of_process cell [] p)

process-free : (cell : Cell) (p : Process) → AllByRecursion (λ c. FreeNumber cell c.number) (named_in_process cell p) → RegionFits cell (of_process p) → AllFit cell (uses_of_process cell [] p) → ProcessFree cell p
process-free cell p free declared fits =
    let all : AllByRecursion (λ v. FreeAt cell v.site v.node) (nodes_of_process p) = nodes-free cell (nodes_of_process p) free in
    record {
      declarations =
          all-both (NodesFree cell) (λ e. AllFit cell (uses_of_declaration cell [] e)) (sited_declarations (Some p) p.declarations)
          (declaration-free cell (Some p) p.declarations
          (front-all (λ v. FreeAt cell v.site v.node) (declaration_nodes (Some p) p.declarations) (seen_from_themselves (Some p) (names p.sensitivity))
          (front-all (λ v. FreeAt cell v.site v.node) (declaration_nodes (Some p) p.declarations ++ seen_from_themselves (Some p) (names p.sensitivity)) (nodes_of_statements p) all))) declared;
      nodes =
          of-mapped (λ v. FreeAt cell v.site v.node) (λ v. record { site = own_site (Some p) (place_of v); node = v }) (nodes_of_all (sequentials p.statements))
          (back-all (λ v. FreeAt cell v.site v.node) (declaration_nodes (Some p) p.declarations ++ seen_from_themselves (Some p) (names p.sensitivity)) (nodes_of_statements p) all);
      fits = fits;
    }

pub processes-free : (cell : Cell) → NamesFree cell → AllByRecursion (ProcessFree cell) (processes cell.arch)
processes-free cell free =
    weaker (λ p. AllByRecursion (λ c. FreeNumber cell c.number) (named_in_process cell p) × (RegionFits cell (of_process p) × AllFit cell (uses_of_process cell [] p))) (ProcessFree cell)
    (λ p all. process-free cell p all.0 all.1.0 all.1.1) (processes cell.arch)
    (all-both (λ p. AllByRecursion (λ c. FreeNumber cell c.number) (named_in_process cell p)) (λ p. RegionFits cell (of_process p) × AllFit cell (uses_of_process cell [] p)) (processes cell.arch)
    (of-flat (λ c. FreeNumber cell c.number) (named_in_process cell) (processes cell.arch)
    (back-all (λ c. FreeNumber cell c.number) (named_in (asked cell (nodes_outside_processes cell))) (flat_map (named_in_process cell) (processes cell.arch)) free.constants))
    (all-both (λ p. RegionFits cell (of_process p)) (λ p. AllFit cell (uses_of_process cell [] p)) (processes cell.arch)
    (processes-all (RegionFits cell) cell.arch (regions-fit cell free.uses)) (processes-fit cell free.uses)))

-- ---- what they are worth

-- The constant of a number is worth a value of its type.
abbrev pub Worth : Cell → ℕ → Object → Type 0
Worth cell n o = IsWorth (type_of o.parts.subtype) (value_at (sound_values cell.files) n)

-- What is known of it, of its limits, and of the calls that name it.
pub record Known (cell : Cell) (n : ℕ) (o : Object) : Type 0 where
  pub at : slice_get (constants_of cell.files) n ≡ Some o
  pub free : FreeNumber cell n
  pub known : IsKnown cell.files n o.parts (value_at (sound_values cell.files) n)
  pub short : IsShortIf o.parts (limits_at (constant_limits cell.files) n)

number-within : (cell : Cell) (n : ℕ) → FreeNumber cell n → IsWithin (limits_at (constant_limits cell.files) n)
number-within cell n free = within-by (limits_at (constant_limits cell.files) n) (record { rows = free.rows; columns = free.columns; delay = free.delay })

known-by : (cell : Cell) (n : ℕ) (o : Object) → AreConstantsTogether cell.files → slice_get (constants_of cell.files) n ≡ Some o → FreeNumber cell n → Known cell n o
known-by cell n o together at free =
    record {
      at = at;
      free = free;
      known = subst (IsKnown cell.files n o.parts) (sym (package-kept cell.files n free.breaches (number-within cell n free))) (package-known cell.files together n o at free.breaches);
      short = package-short cell.files together n o at;
    }

meant-known : (cell : Cell) (d : Option Declared) (c : Option (ℕ × Object)) (w : Option Predeclared) → AreConstantsTogether cell.files → IfSome c (IsAt 0 (constants_of cell.files)) → FreeMeaning cell (meaning_by d c w)
    → IfPackaged (Known cell) (meaning_by d c w)
meant-known cell (Some d) c w together at free = tt
meant-known cell None (Some c) w together at free = known-by cell c.0 c.1 together (from-zero (constants_of cell.files) c at) free
meant-known cell None None (Some w) together at free = tt
meant-known cell None None None together at free = tt

only-at : (cell : Cell) (name : List ℕ) (o : Option (ℕ × Object)) → IfSome o (λ c. IsAt 0 (constants_of cell.files) c × (has_name name c.1 ≡ true)) → IfSome o (IsAt 0 (constants_of cell.files))
only-at cell name None has = tt
only-at cell name (Some c) has = has.0

-- All this is known of a constant of a package that a name means and that breaks no clause.
pub meaning-known : (cell : Cell) (site : Site) (name : List ℕ) → AreConstantsTogether cell.files → FreeMeaning cell (meaning name cell site) → IfPackaged (Known cell) (meaning name cell site)
meaning-known cell site name together free =
    meant-known cell (meant name cell site) (constant_named name (constants cell.files)) (predeclared name) together
    (only-at cell name (constant_named name (constants cell.files)) (found (IsAt 0 (constants_of cell.files)) (λ c. has_name name c.1) (constants cell.files) (all-numbered (constants_of cell.files)))) free

on-constant : (K L : ℕ → Object → Type 0) (m : Meaning) → ((n : ℕ) (o : Object) → K n o → L n o) → OnConstant K m → OnConstant L m
on-constant K L (meanings.Declared d) step has = tt
on-constant K L (meanings.Constant n o) step has = step n o has
on-constant K L (meanings.Predeclared w) step has = tt

pub if-packaged : (K L : ℕ → Object → Type 0) (m : Option Meaning) → ((n : ℕ) (o : Object) → K n o → L n o) → IfPackaged K m → IfPackaged L m
if-packaged K L None step has = tt
if-packaged K L (Some m) step has = on-constant K L m step has

-- It is worth a value of its type.
pub meaning-worth : (cell : Cell) (site : Site) (name : List ℕ) → AreConstantsTogether cell.files → FreeMeaning cell (meaning name cell site) → IfPackaged (Worth cell) (meaning name cell site)
meaning-worth cell site name together free = if-packaged (Known cell) (Worth cell) (meaning name cell site) (λ n o has. has.known.worth) (meaning-known cell site name together free)

-- A symbol of tables is a character.
pub known-symbol : (cell : Cell) (n : ℕ) (o : Object) → Known cell n o → SymbolGood o
known-symbol cell n o has = λ is. has.known.symbol (second-true (is_constant o) (is_symbol_type (type_of o.parts.subtype)) is)

-- A table is worth rows that pass no limit.
pub known-table : (cell : Cell) (n : ℕ) (o : Object) (t : TableType) → Known cell n o → is_table_type t (type_of o.parts.subtype) ≡ true → HasRows cell.files (sound_values cell.files) n o
known-table cell n o t has typed = rows-known cell.files (sound_values cell.files) n o t (limits_at (constant_limits cell.files) n) has.known has.short has.free.rows has.free.columns typed

-- What the target of an alias means at the site of the alias.
abbrev TargetFree : Cell → Sited Decl → Decl → Type 0
TargetFree cell e (decl.Attribute identifier type_mark) = ⊤
TargetFree cell e (decl.Specification s) = ⊤
TargetFree cell e (decl.Object o) = ⊤
TargetFree cell e (decl.Alias a) = FreeMeaning cell (meaning a.target.identifier.name cell e.site)
TargetFree cell e (decl.Component c) = ⊤

last-node : (P : Node → Type 0) (vs : List Node) (v : Node) → AllByRecursion P (nodes_of_all (vs ++ v ∷ [])) → P v
last-node P vs v all = (all-within P v (front-all P (nodes_of v) [] (flat-back P nodes_of vs (v ∷ []) all))).0

target-free : (cell : Cell) (e : Sited Decl) (d : Decl) → AllByRecursion (FreeAt cell e.site) (nodes_of_all (asked_of_decl d)) → TargetFree cell e d
target-free cell e (decl.Attribute identifier type_mark) free = tt
target-free cell e (decl.Specification s) free = tt
target-free cell e (decl.Object o) free = tt
target-free cell e (decl.Alias a) free = last-node (FreeAt cell e.site) (asked_of_subtype_if_there a.subtype) (Name a.target) free
target-free cell e (decl.Component c) free = tt

-- The constant of a package that an alias names is worth a value of its type.
abbrev pub AliasWorth : Cell → Option Process → Declared → Type 0
AliasWorth cell process (declared.Generic i) = ⊤
AliasWorth cell process (declared.Port i) = ⊤
AliasWorth cell process (declared.Object o) = ⊤
AliasWorth cell process (declared.Alias a) = IfPackaged (Worth cell) (meaning a.target.identifier.name cell (site_at process a.identifier.place))

alias-worth : (cell : Cell) (process : Option Process) (e : Sited Decl) (d : Decl) → AreConstantsTogether cell.files → AliasAt process e d → TargetFree cell e d → IfSome (declared_by d) (AliasWorth cell process)
alias-worth cell process e (decl.Attribute identifier type_mark) together at free = tt
alias-worth cell process e (decl.Specification s) together at free = tt
alias-worth cell process e (decl.Object o) together at free = tt
alias-worth cell process e (decl.Alias a) together at free =
    meaning-worth cell (site_at process a.identifier.place) a.target.identifier.name together (subst (λ s. FreeMeaning cell (meaning a.target.identifier.name cell s)) at free)
alias-worth cell process e (decl.Component c) together at free = tt

pub declared-worth : (cell : Cell) (process : Option Process) (e : Sited Decl) → AreConstantsTogether cell.files → AliasAt process e e.declaration → DeclFree cell e → IfSome (declared_by e.declaration) (AliasWorth cell process)
declared-worth cell process e together at free = alias-worth cell process e e.declaration together at (target-free cell e e.declaration free.0)
