-- The names that are declared in a cell differ.
use Rattle.std.proofs.Common.{◌≡◌, ℕ, zero, suc, Bool, true, false, List, [], ◌∷◌, ◌++◌, map, Option, Some, None, refl, sym, ◌∙◌, arith}
use Rattle.std.proofs.lemmas.Grind.{flat_map-append}
use Rattle.std.proofs.lemmas.List.Elements.{All-from_recursion, recursion_from_All}
use Rattle.std.proofs.lemmas.Slice.Eq.{bytes_eq-Decides}
use Rattle.std.specs.Prelude.{⊤, All, AllPairs, cond, filter, is_some}
use Rattle.std.specs.List.{AllByRecursion, IsDistinct, cons_option, filter_map, flat_map}
use Rattle.std.specs.Option.{option_and_then, option_or}
use Rattle.std.specs.Str.{bytes_eq}
use Rattle.vital_as_read.specs.AsRead.{IsAsRead, IsProcessAsRead, StandsBefore}
use Rattle.vital_base.specs.declared.place.Place.{Place}
use Rattle.vital_base.specs.Places.{is_before}
use Rattle.vital_declaration_clauses.specs.Clauses.{clause_17, redeclared_in}
use Rattle.vital_declaration_clauses.specs.Regions.{Region, inner_regions, of_process, own_region, outside, region_in, region_of}
use Rattle.vital_names.specs.Declarations.{Declared, body_of, declared_in, first_named, identifier_of, interface_of}
use Rattle.vital_names.specs.Meanings.{declared, first_before, if_before}
use Rattle.vital_names.specs.Redeclared.{is_redeclared, own_site, place_of, redeclared}
use Rattle.vital_names.specs.declared.site.CellUnit.{CellUnit}
use Rattle.vital_names.specs.declared.site.CellUnit.TheVariants.{Architecture, Entity}
use Rattle.vital_names.specs.Sites.{Cell}
use Rattle.vital_names.specs.Words.{predeclared}
use Rattle.vital_nodes.specs.declared.stmt.Conc.{Conc}
use Rattle.vital_nodes.specs.declared.stmt.Conc.TheOpen.{Conc-F}
use Rattle.vital_nodes.specs.declared.stmt.Conc.TheViews.{out-Conc}
use Rattle.vital_nodes.specs.declared.stmt.Process.{Process}
use Rattle.vital_nodes.specs.declared.unit.Arch.{Arch}
use Rattle.vital_nodes.specs.Layers.{ConcLayer}
use Rattle.vital_uses.specs.Statements.{process, process_in, processes, statements}
use Rattle.vital_typed_cells.specs.Names.{name_of, names_of}
use Rattle.vital_typed_cells.proofs.Apart.{AreApart, distinct, first-false, never, none-before, none-behind}

-- ---- equal names

agree : (a b : Bool) → (a ≡ true → b ≡ true) → (b ≡ true → a ≡ true) → a ≡ b
agree true b there back = sym (there refl)
agree false true there back = back refl
agree false false there back = refl

same-flips : (a b : List ℕ) → bytes_eq a b ≡ bytes_eq b a
same-flips a b =
    agree (bytes_eq a b) (bytes_eq b a) (λ h. (bytes_eq-Decides b a).1 (sym ((bytes_eq-Decides a b).0 h))) (λ h. (bytes_eq-Decides a b).1 (sym ((bytes_eq-Decides b a).0 h)))

abbrev Differs : Declared → Declared → Type 0
Differs d e = bytes_eq (name_of d) (name_of e) ≡ false

abbrev AllDiffer : List Declared → List Declared → Type 0
AllDiffer ds es = AllByRecursion (λ d. AllByRecursion (Differs d) es) ds

-- ---- the order of the text

abbrev Ordered : List Declared → Type 0
Ordered [] = ⊤
Ordered (d ∷ ds) = AllByRecursion (StandsBefore d) ds × Ordered ds

ordered : (ds : List Declared) → AllPairs StandsBefore ds → Ordered ds
ordered [] pairs = tt
ordered (d ∷ ds) pairs = (
  recursion_from_All (StandsBefore d) ds (λ k e within. pairs zero (suc k) e (omega arith) (omega arith)),
  ordered ds (λ i j e lt within. pairs (suc i) (suc j) e (omega arith) (omega arith)),
)

-- ---- what isn't seen

none-of : {A : Type 0} (o : Option A) → is_some o ≡ false → o ≡ None
none-of None is = refl
none-of (Some a) is = cc

or-none-first : {A : Type 0} (o p : Option A) → option_or o p ≡ None → o ≡ None
or-none-first None p is = refl
or-none-first (Some a) p is = cc

or-none-second : {A : Type 0} (o p : Option A) → option_or o p ≡ None → p ≡ None
or-none-second None p is = is
or-none-second (Some a) p is = cc

if-none : {A : Type 0} (b : Bool) (x : A) → b ≡ true → cond b (Some x) None ≡ None → true ≡ false
if-none true x holds is = cc
if-none false x holds is = sym holds

-- One that stands before a viewpoint, from which nothing of a name is seen, has another name, and nothing is seen behind it.
unseen-step : (viewpoint : Place) (name : List ℕ) (d : Declared) (ds : List Declared) (same : Bool) → bytes_eq (name_of d) name ≡ same
    → is_before (identifier_of d).place viewpoint ≡ true
    → option_and_then (if_before viewpoint) (cond same (Some d) (first_named name ds)) ≡ None → (bytes_eq (name_of d) name ≡ false) × (first_before viewpoint name ds ≡ None)
unseen-step viewpoint name d ds true is before none = never (if-none (is_before (identifier_of d).place viewpoint) d before none)
unseen-step viewpoint name d ds false is before none = (is, none)

unseen : (viewpoint : Place) (name : List ℕ) (d : Declared) (ds : List Declared) → is_before (identifier_of d).place viewpoint ≡ true
    → first_before viewpoint name (d ∷ ds) ≡ None → (bytes_eq (name_of d) name ≡ false) × (first_before viewpoint name ds ≡ None)
unseen viewpoint name d ds before none = unseen-step viewpoint name d ds (bytes_eq (name_of d) name) refl before none

abbrev UnseenFrom : List Declared → Declared → Type 0
UnseenFrom ds d = first_before (place_of d) (name_of d) ds ≡ None

-- Those that stand behind one are named otherwise, and do not see those behind it either.
later : (d : Declared) (ds es : List Declared) → AllByRecursion (StandsBefore d) es → AllByRecursion (UnseenFrom (d ∷ ds)) es
    → AllByRecursion (Differs d) es × AllByRecursion (UnseenFrom ds) es
later d ds [] before all = (tt, tt)
later d ds (e ∷ es) before all =
    let first = unseen (place_of e) (name_of e) d ds before.0 all.0 in
    let others = later d ds es before.1 all.1 in
    ((first.0, others.0), (first.1, others.1))

named-differ : (d : Declared) (es : List Declared) → AllByRecursion (Differs d) es → AllByRecursion (λ n. bytes_eq (name_of d) n ≡ false) (names_of es)
named-differ d [] all = tt
named-differ d (e ∷ es) all = (all.0, named-differ d es all.1)

own-differ : (ds : List Declared) → Ordered ds → AllByRecursion (UnseenFrom ds) ds → AreApart bytes_eq (names_of ds)
own-differ [] order all = tt
own-differ (d ∷ ds) order all =
    let both = later d ds ds order.0 all.1 in
    (named-differ d ds both.0, own-differ ds order.1 both.1)

-- ---- lists of what is declared apart

-- What stands before one, that it doesn't see, is named otherwise.
outer-differ : (d : Declared) (es : List Declared) → AllByRecursion (λ e. StandsBefore e d) es → UnseenFrom es d → AllByRecursion (Differs d) es
outer-differ d [] before none = tt
outer-differ d (e ∷ es) before none =
    let first = unseen (place_of d) (name_of d) e es before.0 none in
    (same-flips (name_of d) (name_of e) ∙ first.0, outer-differ d es before.1 first.1)

found-none : (name : List ℕ) (e : Declared) (es : List Declared) (same : Bool) → bytes_eq (name_of e) name ≡ same → cond same (Some e) (first_named name es) ≡ None
    → (bytes_eq (name_of e) name ≡ false) × (first_named name es ≡ None)
found-none name e es true is none = cc
found-none name e es false is none = (is, none)

nowhere-differ : (d : Declared) (es : List Declared) → first_named (name_of d) es ≡ None → AllByRecursion (Differs d) es
nowhere-differ d [] none = tt
nowhere-differ d (e ∷ es) none =
    let first = found-none (name_of d) e es (bytes_eq (name_of e) (name_of d)) refl none in
    (same-flips (name_of d) (name_of e) ∙ first.0, nowhere-differ d es first.1)

joined-names : (d : Declared) (ds es : List Declared) → AllByRecursion (λ n. bytes_eq (name_of d) n ≡ false) (names_of ds) → AllByRecursion (Differs d) es
    → AllByRecursion (λ n. bytes_eq (name_of d) n ≡ false) (names_of (ds ++ es))
joined-names d [] es first second = named-differ d es second
joined-names d (f ∷ ds) es first second = (first.0, joined-names d ds es first.1 second)

joined : (ds es : List Declared) → AreApart bytes_eq (names_of ds) → AreApart bytes_eq (names_of es) → AllDiffer ds es → AreApart bytes_eq (names_of (ds ++ es))
joined [] es first second apart = second
joined (d ∷ ds) es first second apart = (joined-names d ds es first.0 apart.0, joined ds es first.1 second apart.1)

both-differ : (d : Declared) (es fs : List Declared) → AllByRecursion (Differs d) es → AllByRecursion (Differs d) fs → AllByRecursion (Differs d) (es ++ fs)
both-differ d [] fs first second = second
both-differ d (e ∷ es) fs first second = (first.0, both-differ d es fs first.1 second)

-- ---- clause L1.17

abbrev Unredeclared : Cell → CellUnit → Option Process → Declared → Type 0
Unredeclared cell unit p d = declared (name_of d) cell (own_site unit p d) ≡ None

abbrev AllFresh : Cell → CellUnit → Option Process → List Declared → Type 0
AllFresh cell unit p ds = AllByRecursion (Unredeclared cell unit p) ds

fresh-step : (cell : Cell) (unit : CellUnit) (p : Option Process) (d : Declared) (ds : List Declared) (b : Bool) → is_redeclared cell unit p d ≡ b
    → map place_of (cond b (d ∷ filter (is_redeclared cell unit p) ds) (filter (is_redeclared cell unit p) ds)) ≡ []
    → Unredeclared cell unit p d × (redeclared cell unit p ds ≡ [])
fresh-step cell unit p d ds true is none = cc
fresh-step cell unit p d ds false is none =
    (none-of (declared (name_of d) cell (own_site unit p d)) (first-false (is_some (declared (name_of d) cell (own_site unit p d))) (is_some (predeclared (name_of d))) is), none)

all-fresh : (cell : Cell) (unit : CellUnit) (p : Option Process) (ds : List Declared) → redeclared cell unit p ds ≡ [] → AllFresh cell unit p ds
all-fresh cell unit p [] none = tt
all-fresh cell unit p (d ∷ ds) none =
    let both = fresh-step cell unit p d ds (is_redeclared cell unit p d) refl none in
    (both.0, all-fresh cell unit p ds both.1)

-- ---- regions

in-interface : (cell : Cell) (ds : List Declared) → AllFresh cell Entity None ds → AllByRecursion (UnseenFrom (interface_of cell.entity)) ds
in-interface cell [] all = tt
in-interface cell (d ∷ ds) all = (all.0, in-interface cell ds all.1)

in-body : (cell : Cell) (ds : List Declared) → AllFresh cell Architecture None ds → AllByRecursion (UnseenFrom (body_of cell.arch)) ds
in-body cell [] all = tt
in-body cell (d ∷ ds) all =
    (or-none-first (first_before (place_of d) (name_of d) (body_of cell.arch)) (first_named (name_of d) (interface_of cell.entity)) all.0, in-body cell ds all.1)

body-and-interface : (cell : Cell) (ds : List Declared) → AllFresh cell Architecture None ds → AllDiffer ds (interface_of cell.entity)
body-and-interface cell [] all = tt
body-and-interface cell (d ∷ ds) all = (
  nowhere-differ d (interface_of cell.entity)
      (or-none-second (first_before (place_of d) (name_of d) (body_of cell.arch)) (first_named (name_of d) (interface_of cell.entity)) all.0),
  body-and-interface cell ds all.1,
)

in-process : (cell : Cell) (p : Process) (ds : List Declared) → AllFresh cell Architecture (Some p) ds → AllByRecursion (UnseenFrom (declared_in p.declarations)) ds
in-process cell p [] all = tt
in-process cell p (d ∷ ds) all = (
  or-none-first (first_before (place_of d) (name_of d) (declared_in p.declarations))
      (option_or (first_before (place_of d) (name_of d) (body_of cell.arch)) (first_named (name_of d) (interface_of cell.entity))) all.0,
  in-process cell p ds all.1,
)

abbrev Behind : List Declared → Declared → Type 0
Behind outer d = AllByRecursion (λ e. StandsBefore e d) outer

process-and-cell : (cell : Cell) (p : Process) (ds : List Declared) → AllByRecursion (Behind (body_of cell.arch)) ds → AllFresh cell Architecture (Some p) ds
    → AllDiffer ds (body_of cell.arch ++ interface_of cell.entity)
process-and-cell cell p [] behind all = tt
process-and-cell cell p (d ∷ ds) behind all =
    let of_body = first_before (place_of d) (name_of d) (body_of cell.arch) in
    let of_interface = first_named (name_of d) (interface_of cell.entity) in
    let outside_process : option_or of_body of_interface ≡ None = or-none-second (first_before (place_of d) (name_of d) (declared_in p.declarations)) (option_or of_body of_interface) all.0 in (
      both-differ d (body_of cell.arch) (interface_of cell.entity)
          (outer-differ d (body_of cell.arch) behind.0 (or-none-first of_body of_interface outside_process))
          (nowhere-differ d (interface_of cell.entity) (or-none-second of_body of_interface outside_process)),
      process-and-cell cell p ds behind.1 all.1,
    )

-- ---- the clause by regions

abbrev of_regions : Cell → List Region → List Place
of_regions cell rs = flat_map (redeclared_in cell) rs

own-none : (cell : Cell) (arch : Option Arch) → of_regions cell (own_region arch) ≡ [] → redeclared cell Architecture None (body_of arch) ≡ []
own-none cell None none = refl
own-none cell (Some a) none = none-before (redeclared_in cell (outside a.declarations)) [] none

process-step : (cell : Cell) (l : ConcLayer) (cs : List Conc) → of_regions cell (cons_option (region_in l) (filter_map region_of cs)) ≡ []
    → (AllByRecursion (λ p. redeclared_in cell (of_process p) ≡ []) (cons_option (process_in l) []))
    × (of_regions cell (filter_map region_of cs) ≡ [])
process-step cell (Conc-F.Process place label p) cs none = (
  (none-before (redeclared_in cell (of_process p)) (of_regions cell (filter_map region_of cs)) none, tt),
  none-behind (redeclared_in cell (of_process p)) (of_regions cell (filter_map region_of cs)) none,
)
process-step cell (Conc-F.ComponentInstance place i) cs none = (tt, none)
process-step cell (Conc-F.Instance place i) cs none = (tt, none)
process-step cell (Conc-F.Block place label b) cs none = (tt, none-behind _ (of_regions cell (filter_map region_of cs)) none)
process-step cell (Conc-F.Call place name) cs none = (tt, none)
process-step cell (Conc-F.SignalAssignment place a) cs none = (tt, none)

with-process : (P : Process → Type 0) (o : Option Process) (ps : List Process) → AllByRecursion P (cons_option o []) → AllByRecursion P ps → AllByRecursion P (cons_option o ps)
with-process P None ps first others = others
with-process P (Some p) ps first others = (first.0, others)

inner-none : (cell : Cell) (cs : List Conc) → of_regions cell (filter_map region_of cs) ≡ [] → AllByRecursion (λ p. redeclared_in cell (of_process p) ≡ []) (filter_map process cs)
inner-none cell [] none = tt
inner-none cell (c ∷ cs) none =
    let both = process-step cell (out-Conc c) cs none in
    with-process (λ p. redeclared_in cell (of_process p) ≡ []) (process c) (filter_map process cs) both.0 (inner-none cell cs both.1)

processes-none : (cell : Cell) (arch : Option Arch) → of_regions cell (inner_regions arch) ≡ [] → AllByRecursion (λ p. redeclared_in cell (of_process p) ≡ []) (processes arch)
processes-none cell None none = tt
processes-none cell (Some a) none = inner-none cell (statements (Some a)) none

-- ---- laws

abbrev in_interface_places : Cell → List Place
in_interface_places cell = redeclared cell Entity None (interface_of cell.entity)

abbrev in_own_places : Cell → List Place
in_own_places cell = of_regions cell (own_region cell.arch)

abbrev in_inner_places : Cell → List Place
in_inner_places cell = of_regions cell (inner_regions cell.arch)

split-regions : (cell : Cell) → clause_17 cell ≡ [] → (in_interface_places cell ≡ []) × (in_own_places cell ++ in_inner_places cell ≡ [])
split-regions cell none = (
  none-before (in_interface_places cell) (of_regions cell (own_region cell.arch ++ inner_regions cell.arch)) none,
  sym (flat_map-append (redeclared_in cell) (own_region cell.arch) (inner_regions cell.arch))
      ∙ none-behind (in_interface_places cell) (of_regions cell (own_region cell.arch ++ inner_regions cell.arch)) none,
)

cell-differs : (cell : Cell) → clause_17 cell ≡ [] → Ordered (interface_of cell.entity) → Ordered (body_of cell.arch)
    → AreApart bytes_eq (names_of (body_of cell.arch ++ interface_of cell.entity))
cell-differs cell none interface body =
    let parts = split-regions cell none in
    let own : AllFresh cell Architecture None (body_of cell.arch) =
    all-fresh cell Architecture None (body_of cell.arch) (own-none cell cell.arch (none-before (in_own_places cell) (in_inner_places cell) parts.1)) in
    joined (body_of cell.arch) (interface_of cell.entity) (own-differ (body_of cell.arch) body (in-body cell (body_of cell.arch) own))
    (own-differ (interface_of cell.entity) interface
    (in-interface cell (interface_of cell.entity) (all-fresh cell Entity None (interface_of cell.entity) parts.0)))
    (body-and-interface cell (body_of cell.arch) own)

all-behind : (outer ds : List Declared) → AllByRecursion (λ e. AllByRecursion (StandsBefore e) ds) outer → AllByRecursion (Behind outer) ds
all-behind outer [] all = tt
all-behind outer (d ∷ ds) all = (firsts outer d ds all, all-behind outer ds (others outer d ds all))
  where
    firsts : (outer : List Declared) (d : Declared) (ds : List Declared) → AllByRecursion (λ e. AllByRecursion (StandsBefore e) (d ∷ ds)) outer → Behind outer d
    firsts [] d ds all = tt
    firsts (e ∷ es) d ds all = (all.0.0, firsts es d ds all.1)

    others : (outer : List Declared) (d : Declared) (ds : List Declared) → AllByRecursion (λ e. AllByRecursion (StandsBefore e) (d ∷ ds)) outer → AllByRecursion (λ e. AllByRecursion (StandsBefore e) ds) outer
    others [] d ds all = tt
    others (e ∷ es) d ds all = (all.0.1, others es d ds all.1)

by-recursion : (outer ds : List Declared) → AllByRecursion (λ e. All (StandsBefore e) ds) outer → AllByRecursion (λ e. AllByRecursion (StandsBefore e) ds) outer
by-recursion [] ds all = tt
by-recursion (e ∷ es) ds all = (recursion_from_All (StandsBefore e) ds all.0, by-recursion es ds all.1)

process-differs : (cell : Cell) (p : Process) → redeclared_in cell (of_process p) ≡ [] → IsProcessAsRead (body_of cell.arch) p
    → AreApart bytes_eq (names_of (body_of cell.arch ++ interface_of cell.entity))
    → AreApart bytes_eq (names_of (declared_in p.declarations ++ (body_of cell.arch ++ interface_of cell.entity)))
process-differs cell p none read outer =
    let ds = declared_in p.declarations in
    let fresh : AllFresh cell Architecture (Some p) ds = all-fresh cell Architecture (Some p) ds none in
    let seen : AllByRecursion (Behind (body_of cell.arch)) ds =
    all-behind (body_of cell.arch) ds (by-recursion (body_of cell.arch) ds (recursion_from_All (λ e. All (StandsBefore e) ds) (body_of cell.arch) read.behind)) in
    joined ds (body_of cell.arch ++ interface_of cell.entity) (own-differ ds (ordered ds read.in_order) (in-process cell p ds fresh)) outer
    (process-and-cell cell p ds seen fresh)

all-processes : (cell : Cell) (ps : List Process) → AllByRecursion (λ p. redeclared_in cell (of_process p) ≡ []) ps
    → AllByRecursion (IsProcessAsRead (body_of cell.arch)) ps → AreApart bytes_eq (names_of (body_of cell.arch ++ interface_of cell.entity))
    → AllByRecursion (λ p. IsDistinct bytes_eq (names_of (declared_in p.declarations ++ (body_of cell.arch ++ interface_of cell.entity)))) ps
all-processes cell [] none read outer = tt
all-processes cell (p ∷ ps) none read outer = (
  distinct (names_of (declared_in p.declarations ++ (body_of cell.arch ++ interface_of cell.entity))) (process-differs cell p none.0 read.0 outer),
  all-processes cell ps none.1 read.1 outer,
)

pub cell-law : (cell : Cell) → IsAsRead cell → clause_17 cell ≡ [] → IsDistinct bytes_eq (names_of (body_of cell.arch ++ interface_of cell.entity))
cell-law cell read none =
    distinct (names_of (body_of cell.arch ++ interface_of cell.entity))
    (cell-differs cell none (ordered (interface_of cell.entity) read.entity.in_order) (ordered (body_of cell.arch) read.arch.in_order))

pub process-law : (cell : Cell) → IsAsRead cell → clause_17 cell ≡ []
    → All (λ p. IsDistinct bytes_eq (names_of (declared_in p.declarations ++ (body_of cell.arch ++ interface_of cell.entity)))) (processes cell.arch)
process-law cell read none =
    let inner : in_inner_places cell ≡ [] = none-behind (in_own_places cell) (in_inner_places cell) (split-regions cell none).1 in
    All-from_recursion (λ p. IsDistinct bytes_eq (names_of (declared_in p.declarations ++ (body_of cell.arch ++ interface_of cell.entity)))) (processes cell.arch)
    (all-processes cell (processes cell.arch) (processes-none cell cell.arch inner)
    (recursion_from_All (IsProcessAsRead (body_of cell.arch)) (processes cell.arch) read.arch.processes)
    (cell-differs cell none (ordered (interface_of cell.entity) read.entity.in_order) (ordered (body_of cell.arch) read.arch.in_order)))
