-- Each constant that a cell declares is the one that is found at its place.
use Rattle.std.proofs.Common.{◌≡◌, ℕ, Bool, true, false, List, [], ◌∷◌, ◌++◌, Option, Some, None, refl, sym, ap, ◌∙◌, subst, arith}
use Rattle.std.specs.Prelude.{⊤, ◌&&◌, ◌==◌, cond, slice_get, IfSome}
use Rattle.std.specs.List.{AllByRecursion, cons_option, filter_map, flat_map}
use Rattle.std.proofs.lemmas.Bool.Decides.{nat_tests}
use Rattle.std.proofs.lemmas.List.Elements.{filter_map-append}
use Rattle.vital_base.specs.declared.place.Place.{Place}
use Rattle.vital_base.specs.Places.{is_before}
use Rattle.vital_declaration_clauses.specs.Regions.{Region, region_in, region_of, regions}
use Rattle.vital_level1.specs.Uses.{constant_at, constant_in, declared_in as region_declarations, first_constant}
use Rattle.vital_names.specs.declared.site.CellUnit.TheVariants.{Architecture}
use Rattle.vital_names.specs.Declarations.{Declared, declared_by, declared_in, identifier_of}
use Rattle.vital_names.specs.Sites.{Cell, Site}
use Rattle.vital_names.specs.Viewpoints.{is_last}
use Rattle.vital_nodes.specs.declared.decl.Decl.{Decl}
use Rattle.vital_nodes.specs.declared.decl.Decl.TheVariants as decl
use Rattle.vital_nodes.specs.declared.decl.Object.{Object}
use Rattle.vital_nodes.specs.declared.stmt.Conc.{Conc}
use Rattle.vital_nodes.specs.declared.stmt.Conc.TheOpen.{Conc-F}
use Rattle.vital_nodes.specs.declared.stmt.Conc.TheViews.{out-Conc}
use Rattle.vital_nodes.specs.declared.unit.Arch.{Arch}
use Rattle.vital_nodes.specs.Layers.{ConcLayer}
use Rattle.vital_nodes.specs.Places.{identifier_of_decl}
use Rattle.vital_operands.specs.Faults.{is_same_place}
use Rattle.vital_uses.specs.Nodes.{declarations_in, sited_declarations}
use Rattle.vital_uses.specs.Sited.{Sited}
use Rattle.vital_nodes.specs.Objects.{is_constant}
use Rattle.vital_nodes.specs.Statements.{all_concurrent}
use Rattle.vital_as_read.specs.AsRead.{IsAsRead, StandsBefore, all_declared, declared_by_statement}
use Rattle.vital_typed_cells.proofs.ExprTests.{number-is}
use Rattle.vital_typed_cells.proofs.Aliases.{not-before}
use Rattle.vital_typed_cells.proofs.CellTables.{IsFoundAt}
use Rattle.vital_typed_cells.proofs.Found.{weaker}
use Rattle.vital_typed_cells.proofs.InOrder.{InOrder, in-order, order-head, order-tail}
use Rattle.vital_typed_cells.proofs.Lists.{all-both, of-flat, sited-kept}
use Rattle.vital_typed_cells.proofs.Packages.{each-kept}
use Rattle.vital_typed_cells.proofs.Tests.{both-true, first-true, second-true}

-- ---- places

same-number : (n : ℕ) → (n == n) ≡ true
same-number n = grind (arith, nat_tests)

same-place : (p : Place) → is_same_place p p ≡ true
same-place p =
    both-true (p.file == p.file) ((p.line == p.line) && (p.column == p.column)) (same-number p.file)
    (both-true (p.line == p.line) (p.column == p.column) (same-number p.line) (same-number p.column))

numbers-are : (a b c d e f : ℕ) → ((a == d) && ((b == e) && (c == f))) ≡ true → (a ≡ d) × ((b ≡ e) × (c ≡ f))
numbers-are a b c d e f is =
    let one : (a == d) ≡ true = first-true (a == d) ((b == e) && (c == f)) is in
    let others : ((b == e) && (c == f)) ≡ true = second-true (a == d) ((b == e) && (c == f)) is in
    (number-is a d one, (number-is b e (first-true (b == e) (c == f) others), number-is c f (second-true (b == e) (c == f) others)))

moved : (a b : Place) → (a.file ≡ b.file) × ((a.line ≡ b.line) × (a.column ≡ b.column)) → is_before a b ≡ is_before a a
moved a b same =
    ap (λ n. is_before a (record { file = n; line = b.line; column = b.column })) (sym same.0)
    ∙ ap (λ n. is_before a (record { file = a.file; line = n; column = b.column })) (sym same.1.0)
    ∙ ap (λ n. is_before a (record { file = a.file; line = a.line; column = n })) (sym same.1.1)

by-test : (a : Place) (b : Bool) → is_before a a ≡ b → is_before a a ≡ false
by-test a true is = not-before a a is
by-test a false is = is

other-by : (a b : Place) (t : Bool) → is_before a b ≡ true → is_same_place a b ≡ t → is_same_place a b ≡ false
other-by a b true before is =
    let wrong : true ≡ false = sym before ∙ moved a b (numbers-are a.file a.line a.column b.file b.line b.column is) ∙ by-test a (is_before a a) refl in
    absurd (cc)
other-by a b false before is = is

-- A place before another one is not the same.
other-place : (a b : Place) → is_before a b ≡ true → is_same_place a b ≡ false
other-place a b before = other-by a b (is_same_place a b) before refl

-- ---- one constant at a place

there-by : (b : Bool) (x : Sited Object) (xs : List (Sited Object)) → b ≡ true → slice_get (cons_option (cond b (Some x) None) xs) 0 ≡ Some x
there-by true x xs is = refl
there-by false x xs is = absurd (cc)

here-found : (e : Sited Decl) (o : Object) (d : Decl) (es : List (Sited Decl)) → d ≡ decl.Object o → is_constant o ≡ true
    → slice_get (cons_option (constant_in o.identifier.place e.site d) (filter_map (constant_at o.identifier.place) es)) 0 ≡ Some (record { site = e.site; declaration = o })
here-found e o d es is constant =
    ap (λ x. slice_get (cons_option (constant_in o.identifier.place e.site x) (filter_map (constant_at o.identifier.place) es)) 0) is
    ∙ there-by (is_constant o && is_same_place o.identifier.place o.identifier.place) (record { site = e.site; declaration = o }) (filter_map (constant_at o.identifier.place) es)
    (both-true (is_constant o) (is_same_place o.identifier.place o.identifier.place) constant (same-place o.identifier.place))

not-there : (b c : Bool) (x : Sited Object) → c ≡ false → cond (b && c) (Some x) None ≡ None
not-there true true x is = cc
not-there true false x is = refl
not-there false c x is = refl

-- What is declared before another thing is not at its place.
passed-over : (place : Place) (site : Site) (d : Decl) → IfSome (declared_by d) (λ x. is_before (identifier_of x).place place ≡ true) → constant_in place site d ≡ None
passed-over place site (decl.Attribute identifier type_mark) before = refl
passed-over place site (decl.Specification s) before = refl
passed-over place site (decl.Object o) before = not-there (is_constant o) (is_same_place o.identifier.place place) (record { site = site; declaration = o }) (other-place o.identifier.place place before)
passed-over place site (decl.Alias a) before = refl
passed-over place site (decl.Component c) before = refl

abbrev declared_at : Sited Decl → Option Declared
declared_at e = declared_by e.declaration

-- One that is found behind is found from here on, where this stands before.
abbrev FoundAmong : List (Sited Decl) → Sited Decl → Type 0
FoundAmong es e = (o : Object) → e.declaration ≡ decl.Object o → is_constant o ≡ true → first_constant o.identifier.place es ≡ Some (record { site = e.site; declaration = o })

before-object : (x : Option Declared) (d : Decl) (o : Object) → IfSome x (λ y. IfSome (declared_by d) (StandsBefore y)) → d ≡ decl.Object o → IfSome x (λ y. is_before (identifier_of y).place o.identifier.place ≡ true)
before-object None d o before is = tt
before-object (Some y) d o before is = subst (λ z. IfSome (declared_by z) (StandsBefore y)) is before

found-behind : (x : Sited Decl) (xs : List (Sited Decl)) (e : Sited Decl) → IfSome (declared_at x) (λ y. IfSome (declared_at e) (StandsBefore y)) → FoundAmong xs e → FoundAmong (x ∷ xs) e
found-behind x xs e before found = λ o is constant.
    ap (λ q. slice_get (cons_option q (filter_map (constant_at o.identifier.place) xs)) 0)
    (passed-over o.identifier.place x.site x.declaration (before-object (declared_at x) e.declaration o before is))
    ∙ found o is constant

each-behind : (o : Option Declared) (es : List (Sited Decl)) → IfSome o (λ y. AllByRecursion (StandsBefore y) (filter_map declared_at es)) → AllByRecursion (λ e. IfSome o (λ y. IfSome (declared_at e) (StandsBefore y))) es
each-behind None es all = none-asked es
  where
    none-asked : (xs : List (Sited Decl)) → AllByRecursion (λ e. ⊤) xs
    none-asked [] = tt
    none-asked (x ∷ xs) = (tt, none-asked xs)
each-behind (Some y) es all = each-kept (StandsBefore y) declared_at es all

all-found : (es : List (Sited Decl)) → InOrder (filter_map declared_at es) → AllByRecursion (FoundAmong es) es
all-found [] order = tt
all-found (x ∷ xs) order = (
  (λ o is constant. here-found x o x.declaration xs is constant),
  weaker (λ e. IfSome (declared_at x) (λ y. IfSome (declared_at e) (StandsBefore y)) × FoundAmong xs e) (FoundAmong (x ∷ xs)) (λ e both. found-behind x xs e both.0 both.1) xs
      (all-both (λ e. IfSome (declared_at x) (λ y. IfSome (declared_at e) (StandsBefore y))) (FoundAmong xs) xs
      (each-behind (declared_at x) xs (order-head (declared_at x) (filter_map declared_at xs) order)) (all-found xs (order-tail (declared_at x) (filter_map declared_at xs) order))),
)

-- ---- all that a cell declares

region-declared : (r : Region) → filter_map declared_at (region_declarations r) ≡ declared_in r.declarations
region-declared r = sited-kept (λ d. (identifier_of_decl d).place) is_last Architecture r.process declared_by r.declarations

regions-declared : (rs : List Region) → filter_map declared_at (flat_map region_declarations rs) ≡ flat_map (λ r. declared_in r.declarations) rs
regions-declared [] = refl
regions-declared (r ∷ rs) =
    filter_map-append declared_at (region_declarations r) (flat_map region_declarations rs)
    ∙ ap (λ ds. ds ++ filter_map declared_at (flat_map region_declarations rs)) (region-declared r)
    ∙ ap (λ ds. declared_in r.declarations ++ ds) (regions-declared rs)

statement-declared : (l : ConcLayer) (rs : List Region) (ds : List Declared) → flat_map (λ r. declared_in r.declarations) rs ≡ ds → flat_map (λ r. declared_in r.declarations) (cons_option (region_in l) rs) ≡ declared_in (declarations_in l) ++ ds
statement-declared (Conc-F.Process place label p) rs ds is = ap (λ es. declared_in p.declarations ++ es) is
statement-declared (Conc-F.ComponentInstance place i) rs ds is = is
statement-declared (Conc-F.Instance place i) rs ds is = is
statement-declared (Conc-F.Block place label b) rs ds is = ap (λ es. declared_in b.declarations ++ es) is
statement-declared (Conc-F.Call place name) rs ds is = is
statement-declared (Conc-F.SignalAssignment place a) rs ds is = is

statements-declared : (cs : List Conc) → flat_map (λ r. declared_in r.declarations) (filter_map region_of cs) ≡ flat_map declared_by_statement cs
statements-declared [] = refl
statements-declared (c ∷ cs) = statement-declared (out-Conc c) (filter_map region_of cs) (flat_map declared_by_statement cs) (statements-declared cs)

all-declared : (a : Option Arch) → flat_map (λ r. declared_in r.declarations) (regions a) ≡ all_declared a
all-declared None = refl
all-declared (Some a) = ap (λ ds. declared_in a.declarations ++ ds) (statements-declared (all_concurrent a.statements))

-- Of each region of a cell.
abbrev pub RegionFound : Cell → Region → Type 0
RegionFound cell r = AllByRecursion (IsFoundAt cell) (sited_declarations r.process r.declarations)

pub regions-found : (cell : Cell) → IsAsRead cell → AllByRecursion (RegionFound cell) (regions cell.arch)
regions-found cell read =
    of-flat (IsFoundAt cell) region_declarations (regions cell.arch)
    (all-found (flat_map region_declarations (regions cell.arch))
    (subst InOrder (sym (regions-declared (regions cell.arch) ∙ all-declared cell.arch)) (in-order (all_declared cell.arch) read.arch.all_in_order)))
