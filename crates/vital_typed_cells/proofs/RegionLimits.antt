-- What a cell declares passes no limit of tables, where the cell passes no limit.
use Rattle.std.proofs.Common.{◌≡◌, ℕ, Bool, true, false, List, [], ◌∷◌, ◌++◌, map, Option, Some, None, refl}
use Rattle.std.specs.Prelude.{IfSome}
use Rattle.std.specs.List.{AllByRecursion, flat_map, reduce}
use Rattle.vital_declaration_clauses.specs.Regions.{Region, inner_regions, own_region, region_in, region_of, regions}
use Rattle.vital_limits.specs.CellLimits.{cell_limit, limits, limits_at_name, limits_of_all, limits_of_asked, limits_of_process, limits_of_processes}
use Rattle.vital_limits.specs.ConstantLimits.{constant_limits, constant_meant, limits_at}
use Rattle.vital_limits.specs.declared.passed.CellLimit.{CellLimit}
use Rattle.vital_limits.specs.declared.passed.CellLimit.TheVariants.{Rows, Columns, Delay}
use Rattle.vital_limits.specs.declared.passed.PassedLimit.{PassedLimit}
use Rattle.vital_limits.specs.NodeLimits.{if_passed, limits_of_declaration, limits_of_node}
use Rattle.vital_limits.specs.Passed.{first_of}
use Rattle.vital_limits.specs.TextLimits.{limits_of_arch, limits_of_ports, limits_of_unit, own_limits}
use Rattle.vital_base.specs.declared.place.Place.{Place}
use Rattle.std.specs.Option.{option_and_then, option_map, option_map_or}
use Rattle.vital_level1.specs.declared.package_names.NamedConstant.{NamedConstant}
use Rattle.vital_level1.specs.Packages.{named_by, named_constants, named_in, named_in_process}
use Rattle.vital_names.specs.Sites.{Cell}
use Rattle.vital_nodes.specs.declared.decl.Decl.{Decl}
use Rattle.vital_nodes.specs.declared.stmt.Conc.{Conc}
use Rattle.vital_nodes.specs.declared.stmt.Conc.TheOpen.{Conc-F}
use Rattle.vital_nodes.specs.declared.stmt.Conc.TheViews.{out-Conc}
use Rattle.vital_nodes.specs.declared.unit.Arch.{Arch}
use Rattle.vital_nodes.specs.declared.unit.Unit.TheVariants as unit
use Rattle.vital_nodes.specs.Layers.{ConcLayer}
use Rattle.vital_nodes.specs.Nodes.{Node, Declaration, Interface, Concurrent, Sequential, Expression, Item, Name, concurrents, declarations, names, parts_in_conc, parts_of, parts_of_unit, sequentials}
use Rattle.vital_nodes.specs.Walk.{nodes_of, nodes_of_all}
use Rattle.vital_uses.specs.Apart.{nodes_apart}
use Rattle.vital_uses.specs.Asked.{Asked, asked}
use Rattle.vital_uses.specs.Nodes.{nodes_of_process, nodes_outside_processes}
use Rattle.vital_uses.specs.Statements.{processes}
use Rattle.vital_nodes.specs.Statements.{all_concurrent, concurrent}
use Rattle.vital_typed_cells.proofs.Closed.{Within, closed}
use Rattle.vital_typed_cells.proofs.Found.{all-kept, both-lists, weaker}
use Rattle.vital_typed_cells.proofs.ItemNodes.{here-within, parts-within}
use Rattle.vital_typed_cells.proofs.Lists.{of-mapped}
use Rattle.vital_typed_cells.proofs.Packages.{flat-back}
use Rattle.vital_typed_cells.proofs.Regions.{back-all, front-all, none-before, none-behind, none-each}

-- ---- the limits of a cell

none-first : (ls : List PassedLimit) → reduce first_of ls ≡ None → ls ≡ []
none-first [] is = refl
none-first (l ∷ ls) is = cc

-- ---- its text

abbrev Short : Decl → Type 0
Short d = limits_of_declaration d ≡ []

abbrev pub RegionShort : Region → Type 0
RegionShort r = AllByRecursion (λ d. limits_of_declaration d ≡ []) r.declarations

abbrev NodeShort : Node → Type 0
NodeShort v = limits_of_node v ≡ []

node-declaration : (d : Decl) → NodeShort (Declaration d) → Short d
unfolding limits_of_node
node-declaration d is = is

declarations-short : (ds : List Decl) → AllByRecursion (Within NodeShort) (declarations ds) → AllByRecursion Short ds
declarations-short ds all =
    weaker (λ d. Within NodeShort (Declaration d)) Short (λ d within. node-declaration d (here-within NodeShort (Declaration d) within)) ds (of-mapped (Within NodeShort) (λ d. Declaration d) ds all)

layer-short : (l : ConcLayer) → AllByRecursion (Within NodeShort) (parts_in_conc l) → IfSome (region_in l) RegionShort
layer-short (Conc-F.Process place label p) all =
    declarations-short p.declarations
    (back-all (Within NodeShort) (names p.sensitivity) (declarations p.declarations) (front-all (Within NodeShort) (names p.sensitivity ++ declarations p.declarations) (sequentials p.statements) all))
layer-short (Conc-F.ComponentInstance place i) all = tt
layer-short (Conc-F.Instance place i) all = tt
layer-short (Conc-F.Block place label b) all = declarations-short b.declarations (front-all (Within NodeShort) (declarations b.declarations) (concurrents b.statements) all)
layer-short (Conc-F.Call place name) all = tt
layer-short (Conc-F.SignalAssignment place a) all = tt

statement-short : (c : Conc) → Within NodeShort (Concurrent c) → IfSome (region_of c) RegionShort
unfolding parts_of
statement-short c within = layer-short (out-Conc c) (parts-within NodeShort (Concurrent c) within)

node-short : (v : Node) → Within NodeShort v → IfSome (concurrent v) (λ c. IfSome (region_of c) RegionShort)
node-short (Declaration d) within = tt
node-short (Interface i) within = tt
node-short (Concurrent c) within = statement-short c within
node-short (Sequential s) within = tt
node-short (Expression e) within = tt
node-short (Item i) within = tt
node-short (Name r) within = tt

arch-short : (a : Arch) → AllByRecursion (Within NodeShort) (declarations a.declarations) → AllByRecursion NodeShort (nodes_of_all (concurrents a.statements)) → AllByRecursion RegionShort (regions (Some a))
arch-short a own inner =
    both-lists RegionShort (own_region (Some a)) (inner_regions (Some a)) (declarations-short a.declarations own, tt)
    (all-kept RegionShort region_of (all_concurrent a.statements)
    (all-kept (λ c. IfSome (region_of c) RegionShort) concurrent (nodes_of_all (concurrents a.statements))
    (weaker (Within NodeShort) (λ v. IfSome (concurrent v) (λ c. IfSome (region_of c) RegionShort)) node-short (nodes_of_all (concurrents a.statements)) (closed NodeShort (concurrents a.statements) inner))))

all-nodes : (vs : List Node) → AllByRecursion NodeShort (nodes_of_all vs) → AllByRecursion (Within NodeShort) vs
all-nodes [] all = tt
all-nodes (v ∷ vs) all = (front-all NodeShort (nodes_of v) (nodes_of_all vs) all, all-nodes vs (back-all NodeShort (nodes_of v) (nodes_of_all vs) all))

unit-short : (a : Arch) → AllByRecursion NodeShort (nodes_of_all (parts_of_unit (unit.Arch a))) → AllByRecursion RegionShort (regions (Some a))
unfolding parts_of_unit
unit-short a all =
    arch-short a
    (front-all (Within NodeShort) (declarations a.declarations) (concurrents a.statements) (all-nodes (declarations a.declarations ++ concurrents a.statements) all))
    (flat-back NodeShort nodes_of (declarations a.declarations) (concurrents a.statements) all)

some-short : (a : Option Arch) → limits_of_arch a ≡ [] → AllByRecursion RegionShort (regions a)
some-short None none = tt
some-short (Some a) none = unit-short a (none-each limits_of_node (nodes_of_all (parts_of_unit (unit.Arch a))) none)

-- ---- constants of packages

-- A constant of a package that is named passes no limit.
pub record NumberShort (cell : Cell) (c : NamedConstant) : Type 0 where
  pub rows : (limits_at (constant_limits cell.files) c.number).rows ≡ false
  pub columns : (limits_at (constant_limits cell.files) c.number).columns ≡ false
  pub delay : (limits_at (constant_limits cell.files) c.number).delay ≡ false

not-passed : (b : Bool) (limit : CellLimit) (place : Place) → if_passed b limit place ≡ [] → b ≡ false
not-passed true limit place is = absurd (cc)
not-passed false limit place is = refl

number-short : (cell : Cell) (place : Place) (n : ℕ) → limits_at_name place (limits_at (constant_limits cell.files) n) ≡ [] → NumberShort cell (record { number = n; place = place })
number-short cell place n none =
    let l = limits_at (constant_limits cell.files) n in
    let two : if_passed l.rows Rows place ++ if_passed l.columns Columns place ≡ [] = none-before (if_passed l.rows Rows place ++ if_passed l.columns Columns place) (if_passed l.delay Delay place) none in
    record {
      rows = not-passed l.rows Rows place (none-before (if_passed l.rows Rows place) (if_passed l.columns Columns place) two);
      columns = not-passed l.columns Columns place (none-behind (if_passed l.rows Rows place) (if_passed l.columns Columns place) two);
      delay = not-passed l.delay Delay place (none-behind (if_passed l.rows Rows place ++ if_passed l.columns Columns place) (if_passed l.delay Delay place) none);
    }

meant-short : (cell : Cell) (place : Place) (o : Option ℕ) → option_map_or (λ n. limits_at_name place (limits_at (constant_limits cell.files) n)) o [] ≡ []
    → IfSome {T = NamedConstant} (option_map (λ n. record { number = n; place = place }) o) (NumberShort cell)
meant-short cell place None none = tt
meant-short cell place (Some n) none = number-short cell place n none

asked-short : (cell : Cell) (as' : List Asked) → limits_of_all (constant_limits cell.files) as' ≡ [] → AllByRecursion (NumberShort cell) (named_in as')
asked-short cell as' none =
    all-kept (NumberShort cell) named_by as'
    (weaker (λ a. limits_of_asked (constant_limits cell.files) a ≡ []) (λ a. IfSome (named_by a) (NumberShort cell)) (λ a is. meant-short cell a.identifier.place (option_and_then constant_meant a.meaning) is) as'
    (none-each (limits_of_asked (constant_limits cell.files)) as' none))

flat-all : {A B : Type 0} (P : B → Type 0) (f : A → List B) (xs : List A) → AllByRecursion (λ x. AllByRecursion P (f x)) xs → AllByRecursion P (flat_map f xs)
flat-all P f [] all = tt
flat-all P f (x ∷ xs) all = both-lists P (f x) (flat_map f xs) all.0 (flat-all P f xs all.1)

processes-short : (cell : Cell) → limits_of_processes (constant_limits cell.files) cell ≡ [] → AllByRecursion (NumberShort cell) (flat_map (named_in_process cell) (processes cell.arch))
processes-short cell none =
    flat-all (NumberShort cell) (named_in_process cell) (processes cell.arch)
    (weaker (λ p. limits_of_process (constant_limits cell.files) (cell, p) ≡ []) (λ p. AllByRecursion (NumberShort cell) (named_in_process cell p)) (λ p is. asked-short cell (asked cell (nodes_of_process p)) is) (processes cell.arch)
    (of-mapped (λ u. limits_of_process (constant_limits cell.files) u ≡ []) (λ p. (cell, p)) (processes cell.arch)
    (none-each (limits_of_process (constant_limits cell.files)) (map (λ p. (cell, p)) (processes cell.arch)) none)))

-- ---- both

pub record CellShort (cell : Cell) : Type 0 where
  pub regions_short : AllByRecursion RegionShort (regions cell.arch)
  pub named_short : AllByRecursion (NumberShort cell) (named_constants cell)

pub short-by : (cell : Cell) → cell_limit cell ≡ None → CellShort cell
short-by cell is =
    let known = constant_limits cell.files in
    let outside = limits_of_all known (asked cell (nodes_outside_processes cell)) in
    let inside = limits_of_processes known cell in
    let none : limits cell ≡ [] = none-first (limits cell) is in
    let three : own_limits cell ++ outside ++ inside ≡ [] = none-before (own_limits cell ++ outside ++ inside) (limits_of_all known (asked cell (nodes_apart cell))) none in
    let two : own_limits cell ++ outside ≡ [] = none-before (own_limits cell ++ outside) inside three in
    let own : own_limits cell ≡ [] = none-before (own_limits cell) outside two in
    record {
      regions_short = some-short cell.arch (none-behind (limits_of_ports cell.entity.ports ++ limits_of_unit (unit.Entity cell.entity)) (limits_of_arch cell.arch) own);
      named_short =
          both-lists (NumberShort cell) (named_in (asked cell (nodes_outside_processes cell))) (flat_map (named_in_process cell) (processes cell.arch))
          (asked-short cell (asked cell (nodes_outside_processes cell)) (none-behind (own_limits cell) outside two))
          (processes-short cell (none-behind (own_limits cell ++ outside) inside three));
    }
