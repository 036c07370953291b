-- What is so of the declarations of a cell that breaks no clause that speaks of them.
use Rattle.std.proofs.Common.{◌≡◌, ℕ, Bool, true, false, List, [], ◌∷◌, ◌++◌, Option, Some, None, refl, subst}
use Rattle.std.specs.Prelude.{◌&&◌, not, is_some, IfSome}
use Rattle.std.specs.List.{AllByRecursion, flat_map, zip}
use Rattle.vital_declaration_clauses.specs.Clauses.{breaks_2, breaks_3, breaks_9, clause_2, clause_3, clause_9, is_allowed_in_process, is_allowed_object, is_not_variable}
use Rattle.vital_declaration_clauses.specs.Regions.{Region, of_process, own_region, regions}
use Rattle.vital_level1.specs.Forms.{broken_in_process}
use Rattle.vital_names.specs.declared.site.CellUnit.TheVariants.{Architecture}
use Rattle.vital_names.specs.Declarations.{Declared, body_of, declared_by, declared_in}
use Rattle.vital_names.specs.Sites.{Cell, Site}
use Rattle.vital_names.specs.Viewpoints.{is_last, viewpoints}
use Rattle.vital_nodes.specs.declared.decl.Decl.{Decl}
use Rattle.vital_nodes.specs.declared.decl.Decl.TheVariants as decl
use Rattle.vital_nodes.specs.declared.decl.Object.{Object}
use Rattle.vital_nodes.specs.declared.decl.ObjectClass.{ObjectClass}
use Rattle.vital_nodes.specs.declared.decl.ObjectClass.TheVariants as class
use Rattle.vital_nodes.specs.declared.stmt.Process.{Process}
use Rattle.vital_nodes.specs.declared.unit.Arch.{Arch}
use Rattle.vital_nodes.specs.Places.{identifier_of_decl}
use Rattle.vital_objects.specs.Constants.{constants}
use Rattle.vital_objects.specs.Signals.{declarations}
use Rattle.vital_objects.specs.Variables.{variables}
use Rattle.vital_operands.specs.Named.{same_type}
use Rattle.vital_timing.specs.declared.delay.DelayType.{DelayType}
use Rattle.vital_typed_declarations.specs.declared.asked_type.AskedType.TheVariants as asked
use Rattle.vital_typed_declarations.specs.Declarations.{broken_at, broken_generic, broken_in_region, broken_port, broken_values}
use Rattle.vital_base.specs.declared.place.Place.{Place}
use Rattle.vital_uses.specs.Nodes.{sited_declarations, sited_interface}
use Rattle.vital_uses.specs.Sited.{Sited}
use Rattle.vital_uses.specs.Statements.{processes}
use Rattle.vital_as_read.specs.AsRead.{AreTogether}
use Rattle.vital_typed_cells.specs.Named.{has_element, is_delay, is_level, is_scalar, is_time, is_vector}
use Rattle.vital_typed_cells.proofs.Bridge.{HasKind, HasValue, OwnObject}
use Rattle.vital_typed_cells.proofs.CellTables.{TableValue}
use Rattle.vital_typed_cells.proofs.Constants.{IsKeptConstant, IsMet, IsMetPair, constants-kept, declared_of, given_by, pairs-met}
use Rattle.vital_typed_cells.proofs.Found.{all-kept, all-mapped, each, weaker}
use Rattle.vital_typed_cells.proofs.Lists.{all-both, sited-kept}
use Rattle.vital_typed_cells.proofs.NamedConstants.{NamesFree}
use Rattle.vital_typed_cells.proofs.Regions.{IsFree, free-regions, none-behind, none-each, own-outside, processes-all}
use Rattle.vital_typed_cells.proofs.RegionLimits.{RegionShort}
use Rattle.vital_typed_cells.proofs.Seen.{site_at}
use Rattle.vital_typed_cells.proofs.TablesKept.{tables-kept}
use Rattle.vital_typed_cells.proofs.Together.{Pair, declared-pairs, pairs}
use Rattle.vital_typed_cells.proofs.ValueTrees.{AllTold, delays-given, levels-given, times-given}
use Rattle.vital_typed_cells.proofs.Variables.{IsKeptVariable, variables-kept}

-- ---- clauses that are met

-- No place is told at which a declaration breaks one of these clauses, and no constant of a package that is named breaks one. No limit of
-- tables is passed, the tables fit the calls that name them, and no statement breaks the clause that speaks of forms.
pub record Meets (cell : Cell) : Type 0 where
  pub in_arch : clause_2 cell ≡ []
  pub of_constants : clause_3 cell ≡ []
  pub in_process : clause_9 cell ≡ []
  pub values : broken_values cell [] ≡ []
  pub named : NamesFree cell
  pub short : AllByRecursion RegionShort (regions cell.arch)
  pub forms : flat_map (broken_in_process cell []) (processes cell.arch) ≡ []

-- ---- lists

pub all-for : {N A : Type 0} (P : N → A → Type 0) (xs : List A) → ((n : N) → AllByRecursion (P n) xs) → AllByRecursion (λ x. (n : N) → P n x) xs
all-for P [] all = tt
all-for P (x ∷ xs) all = (λ n. (all n).0, all-for P xs (λ n. (all n).1))

pub from-sited : (Q : Declared → Type 0) (process : Option Process) (ds : List Decl) → AllByRecursion (λ e. IfSome (declared_by e.declaration) Q) (sited_declarations process ds) → AllByRecursion Q (declared_in ds)
from-sited Q process ds all =
    subst (AllByRecursion Q) (sited-kept (λ d. (identifier_of_decl d).place) is_last Architecture process declared_by ds)
    (all-kept Q (λ s. declared_by s.declaration) (sited_declarations process ds) all)

sited-process : (process : Option Process) (ds : List Decl) → AllByRecursion (λ e. e.site.process ≡ process) (sited_declarations process ds)
sited-process process ds =
    all-mapped (λ e. e.site.process ≡ process) (λ d. record { site = record { unit = Architecture; process = process; viewpoint = d.0 }; declaration = d.1 }) (zip (viewpoints (λ d. (identifier_of_decl d).place) is_last ds) ds)
    (each (λ d. process ≡ process) (λ d. refl) (zip (viewpoints (λ d. (identifier_of_decl d).place) is_last ds) ds))

-- A site of the architecture, or of a process of it.
abbrev pub IsSiteIn : Option Process → Sited Decl → Type 0
IsSiteIn process e = (v : Place) × (e.site ≡ site_at process v)

pub declaration-sites : (process : Option Process) (ds : List Decl) → AllByRecursion (IsSiteIn process) (sited_declarations process ds)
declaration-sites process ds =
    all-mapped (IsSiteIn process) (λ d. record { site = record { unit = Architecture; process = process; viewpoint = d.0 }; declaration = d.1 }) (zip (viewpoints (λ d. (identifier_of_decl d).place) is_last ds) ds)
    (each (λ d. IsSiteIn process (record { site = record { unit = Architecture; process = process; viewpoint = d.0 }; declaration = d.1 })) (λ d. (d.0, refl)) (zip (viewpoints (λ d. (identifier_of_decl d).place) is_last ds) ds))

pub body-is : (a : Option Arch) → declared_in (declarations a) ≡ body_of a
body-is None = refl
body-is (Some a) = refl

-- ---- what an architecture and a process declare

abbrev pub NoVariable : Object → Type 0
NoVariable o = o.«class» ≡ class.Variable → ⊥

abbrev pub NoSignal : Object → Type 0
NoSignal o = o.«class» ≡ class.Signal → ⊥

no-variable : (k : ObjectClass) → not (is_not_variable k) ≡ false → k ≡ class.Variable → ⊥
no-variable class.Constant free is = absurd (cc)
no-variable class.Signal free is = absurd (cc)
no-variable class.Variable free is = absurd (cc)

arch-own : (cell : Cell) (site : Site) (d : Decl) → breaks_2 cell site d ≡ false → IfSome (declared_by d) (OwnObject NoVariable)
arch-own cell site (decl.Attribute identifier type_mark) free = tt
arch-own cell site (decl.Specification s) free = tt
arch-own cell site (decl.Object o) free = no-variable o.«class» free
arch-own cell site (decl.Alias a) free = tt
arch-own cell site (decl.Component c) free = tt

pub body-own : (cell : Cell) → Meets cell → AllByRecursion (OwnObject NoVariable) (declared_in (declarations cell.arch))
body-own cell met =
    from-sited (OwnObject NoVariable) None (declarations cell.arch)
    (weaker (λ e. breaks_2 cell e.site e.declaration ≡ false) (λ e. IfSome (declared_by e.declaration) (OwnObject NoVariable)) (λ e free. arch-own cell e.site e.declaration free) (sited_declarations None (declarations cell.arch))
    (own-outside (IsFree (breaks_2 cell)) cell.arch tt (free-regions (breaks_2 cell) (own_region cell.arch) met.in_arch)))

no-signal : (k : ObjectClass) (o : Object) → is_allowed_object k o ≡ true → k ≡ class.Signal → ⊥
no-signal class.Constant o free is = absurd (cc)
no-signal class.Signal o free is = absurd (cc)
no-signal class.Variable o free is = absurd (cc)

process-own : (cell : Cell) (site : Site) (d : Decl) → is_allowed_in_process cell site d ≡ true → IfSome (declared_by d) (OwnObject NoSignal)
process-own cell site (decl.Attribute identifier type_mark) free = tt
process-own cell site (decl.Specification s) free = tt
process-own cell site (decl.Object o) free = no-signal o.«class» o free
process-own cell site (decl.Alias a) free = tt
process-own cell site (decl.Component c) free = tt

allowed-in : (process : Option Process) (p : Process) (b : Bool) → process ≡ Some p → (is_some process && not b) ≡ false → b ≡ true
allowed-in None p b is free = cc
allowed-in (Some q) p true is free = refl
allowed-in (Some q) p false is free = cc

region-own : (cell : Cell) (p : Process) → IsFree (breaks_9 cell) (of_process p) → AllByRecursion (OwnObject NoSignal) (declared_in p.declarations)
region-own cell p free =
    from-sited (OwnObject NoSignal) (Some p) p.declarations
    (weaker (λ e. (e.site.process ≡ Some p) × (breaks_9 cell e.site e.declaration ≡ false)) (λ e. IfSome (declared_by e.declaration) (OwnObject NoSignal))
    (λ e both. process-own cell e.site e.declaration (allowed-in e.site.process p (is_allowed_in_process cell e.site e.declaration) both.0 both.1)) (sited_declarations (Some p) p.declarations)
    (all-both (λ e. e.site.process ≡ Some p) (λ e. breaks_9 cell e.site e.declaration ≡ false) (sited_declarations (Some p) p.declarations) (sited-process (Some p) p.declarations) free))

pub processes-own : (cell : Cell) → Meets cell → AllByRecursion (λ p. AllByRecursion (OwnObject NoSignal) (declared_in p.declarations)) (processes cell.arch)
processes-own cell met =
    weaker (λ p. IsFree (breaks_9 cell) (of_process p)) (λ p. AllByRecursion (OwnObject NoSignal) (declared_in p.declarations)) (region-own cell) (processes cell.arch)
    (processes-all (IsFree (breaks_9 cell)) cell.arch (free-regions (breaks_9 cell) (regions cell.arch) met.in_process))

-- ---- values

abbrev pub RegionMet : Cell → Region → Type 0
RegionMet cell r = AllByRecursion (IsMet cell) (sited_declarations r.process r.declarations)

-- The same, but for tables.
abbrev pub RegionJudged : Cell → Region → Type 0
RegionJudged cell r = AllByRecursion (λ e. (broken_at cell [] e ≡ []) × (breaks_3 cell e.site e.declaration ≡ false)) (sited_declarations r.process r.declarations)

pub regions-judged : (cell : Cell) → Meets cell → AllByRecursion (RegionJudged cell) (regions cell.arch)
regions-judged cell met =
    let judged : AllByRecursion (λ r. broken_in_region cell [] r ≡ []) (regions cell.arch) =
    none-each (broken_in_region cell []) (regions cell.arch)
    (none-behind (flat_map (broken_generic cell []) (sited_interface cell.entity.generics) ++ flat_map (broken_port cell []) (sited_interface cell.entity.ports)) (flat_map (broken_in_region cell []) (regions cell.arch)) met.values) in
    weaker (λ r. (broken_in_region cell [] r ≡ []) × IsFree (breaks_3 cell) r) (RegionJudged cell)
    (λ r both. all-both (λ e. broken_at cell [] e ≡ []) (λ e. breaks_3 cell e.site e.declaration ≡ false) (sited_declarations r.process r.declarations) (none-each (broken_at cell []) (sited_declarations r.process r.declarations) both.0) both.1)
    (regions cell.arch)
    (all-both (λ r. broken_in_region cell [] r ≡ []) (IsFree (breaks_3 cell)) (regions cell.arch) judged (free-regions (breaks_3 cell) (regions cell.arch) met.of_constants))

delays-kept : (cell : Cell) (xs : List Pair) → AllTold → AllByRecursion (IsMetPair cell) xs
    → AllByRecursion (λ d. (e k : DelayType) → same_type e k ≡ true → IsKeptConstant (asked.Delay k) (is_delay e) (given_by cell xs) d) (declared_of xs)
delays-kept cell xs told met =
    all-for (λ e d. (k : DelayType) → same_type e k ≡ true → IsKeptConstant (asked.Delay k) (is_delay e) (given_by cell xs) d) (declared_of xs)
    (λ e. all-for (λ k d. same_type e k ≡ true → IsKeptConstant (asked.Delay k) (is_delay e) (given_by cell xs) d) (declared_of xs)
    (λ k. all-for (λ same d. IsKeptConstant (asked.Delay k) (is_delay e) (given_by cell xs) d) (declared_of xs)
    (λ same. constants-kept (asked.Delay k) (is_delay e) cell xs (delays-given e k same told) met)))

-- Each constant that pairs declare is among those that they give with its value.
pub values-of : (cell : Cell) (xs : List Pair) → AllTold → AllByRecursion (IsMetPair cell) xs → AllByRecursion (HasValue cell (given_by cell xs)) (declared_of xs)
values-of cell xs told met =
    weaker (λ d. IsKeptConstant asked.Level is_level (given_by cell xs) d × (IsKeptConstant asked.Time is_time (given_by cell xs) d
    × (((e k : DelayType) → same_type e k ≡ true → IsKeptConstant (asked.Delay k) (is_delay e) (given_by cell xs) d) × TableValue cell (given_by cell xs) d))) (HasValue cell (given_by cell xs))
    (λ d has. record { level = has.0; time = has.1.0; delay = has.1.1.0; table = has.1.1.1 }) (declared_of xs)
    (all-both (IsKeptConstant asked.Level is_level (given_by cell xs))
    (λ d. IsKeptConstant asked.Time is_time (given_by cell xs) d
    × (((e k : DelayType) → same_type e k ≡ true → IsKeptConstant (asked.Delay k) (is_delay e) (given_by cell xs) d) × TableValue cell (given_by cell xs) d)) (declared_of xs)
    (constants-kept asked.Level is_level cell xs (levels-given told) met)
    (all-both (IsKeptConstant asked.Time is_time (given_by cell xs))
    (λ d. ((e k : DelayType) → same_type e k ≡ true → IsKeptConstant (asked.Delay k) (is_delay e) (given_by cell xs) d) × TableValue cell (given_by cell xs) d) (declared_of xs)
    (constants-kept asked.Time is_time cell xs (times-given told) met)
    (all-both (λ d. (e k : DelayType) → same_type e k ≡ true → IsKeptConstant (asked.Delay k) (is_delay e) (given_by cell xs) d) (TableValue cell (given_by cell xs)) (declared_of xs)
    (delays-kept cell xs told met) (tables-kept cell xs met))))

-- Each constant is among those of the typed tree with its value.
pub values-kept : (cell : Cell) (process : Option Process) (ds : List Decl) → AllTold → AreTogether ds → AllByRecursion (IsMet cell) (sited_declarations process ds) → AllByRecursion (HasValue cell (constants cell [] process ds)) (declared_in ds)
values-kept cell process ds told together met =
    subst (AllByRecursion (HasValue cell (constants cell [] process ds))) (declared-pairs process ds) (values-of cell (pairs process ds) told (pairs-met cell process ds together met))

-- Each variable is among those of the typed tree with its type.
pub kinds-kept : (cell : Cell) (p : Process) → AreTogether p.declarations → AllByRecursion (HasKind (variables cell [] p)) (declared_in p.declarations)
kinds-kept cell p together =
    weaker (λ d. IsKeptVariable is_scalar (variables cell [] p) d × (((n : ℕ) → IsKeptVariable (is_vector n) (variables cell [] p) d) × ((n : ℕ) → IsKeptVariable (has_element n) (variables cell [] p) d))) (HasKind (variables cell [] p))
    (λ d has. record { scalar = has.0; whole = has.1.0; element = has.1.1 }) (declared_in p.declarations)
    (all-both (IsKeptVariable is_scalar (variables cell [] p))
    (λ d. ((n : ℕ) → IsKeptVariable (is_vector n) (variables cell [] p) d) × ((n : ℕ) → IsKeptVariable (has_element n) (variables cell [] p) d)) (declared_in p.declarations)
    (variables-kept is_scalar cell [] p together)
    (all-both (λ d. (n : ℕ) → IsKeptVariable (is_vector n) (variables cell [] p) d) (λ d. (n : ℕ) → IsKeptVariable (has_element n) (variables cell [] p) d) (declared_in p.declarations)
    (all-for (λ n. IsKeptVariable (is_vector n) (variables cell [] p)) (declared_in p.declarations) (λ n. variables-kept (is_vector n) cell [] p together))
    (all-for (λ n. IsKeptVariable (has_element n) (variables cell [] p)) (declared_in p.declarations) (λ n. variables-kept (has_element n) cell [] p together))))
