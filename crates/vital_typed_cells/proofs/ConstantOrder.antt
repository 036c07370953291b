-- The value of each constant names only constants before it.
use Rattle.std.proofs.Common.{◌≡◌, Bool, true, false, List, [], ◌∷◌, ◌++◌, Option, Some, None, refl, sym, ap, ◌∙◌, subst}
use Rattle.std.specs.Prelude.{⊤, AllPairs, cond, find, unwrap_or, IfSome}
use Rattle.std.specs.List.{AllByRecursion, cons_option}
use Rattle.std.proofs.lemmas.List.{append_assoc, append-nil}
use Rattle.std.proofs.lemmas.List.Elements.{filter_map-append}
use Rattle.vital_base.specs.declared.place.Place.{Place}
use Rattle.vital_base.specs.Places.{is_before}
use Rattle.vital_typed_cells.specs.Typed.{typed}
use Rattle.vital_names.specs.Declarations.{Declared, body_of, declared_by, declared_in, identifier_of}
use Rattle.vital_names.specs.Declarations as declared
use Rattle.vital_names.specs.Sites.{Cell}
use Rattle.vital_names.specs.Viewpoints.{is_last}
use Rattle.vital_nodes.specs.declared.decl.Decl.{Decl}
use Rattle.vital_nodes.specs.declared.decl.Decl.TheVariants as decl
use Rattle.vital_nodes.specs.declared.decl.Object.{Object}
use Rattle.vital_nodes.specs.declared.stmt.Process.{Process}
use Rattle.vital_objects.specs.declared.constant.Constant.{Constant}
use Rattle.vital_objects.specs.Constants.{constant, constants}
use Rattle.vital_objects.specs.Signals.{declarations}
use Rattle.vital_objects.specs.Together.{beside_lasts, is_last_declaration}
use Rattle.vital_uses.specs.Nodes.{sited_declarations}
use Rattle.vital_uses.specs.Sited.{Sited}
use Rattle.vital_as_read.specs.AsRead.{AreTogether, IsAsRead, StandsBefore}
use Rattle.vital_typed_cells.specs.SoundDeclarations.{AreSoundConstants, is_sound_constant, names_in_values}
use Rattle.vital_typed_cells.proofs.Aliases.{Unseen, not-before}
use Rattle.vital_typed_cells.proofs.Bridge.{HasValue, value-back, value-front}
use Rattle.vital_typed_cells.proofs.Constants.{IsMet, IsMetPair, declared_of, given_by, pairs-met}
use Rattle.vital_typed_cells.proofs.DeclarationSound.{LastIn, SeenIn, one-constant}
use Rattle.vital_typed_cells.proofs.Facts.{IsSiteIn, Meets, body-is, declaration-sites, values-kept, values-of}
use Rattle.vital_typed_cells.proofs.Found.{all-kept, both-lists, weaker}
use Rattle.vital_typed_cells.proofs.InOrder.{InOrder, in-order, order-head, order-tail}
use Rattle.vital_typed_cells.proofs.Lists.{lasts-have}
use Rattle.vital_typed_cells.proofs.NamedConstants.{DeclFree, body-free}
use Rattle.vital_typed_cells.proofs.Packages.{each-kept}
use Rattle.vital_typed_cells.proofs.Tabled.{body-met}
use Rattle.vital_typed_cells.proofs.Together.{SeenFrom, last-begun, place_of, placed, seen-or, sited_at, Pair}
use Rattle.vital_typed_cells.proofs.ValueTrees.{AllTold}
use Rattle.vital_typed_cells.proofs.ValueScopes.{GoodIn, SeesAt, ValueBefore, own_constants}
use Rattle.vital_typed_cells.proofs.Views.{IsGood}

-- ---- what stands behind a viewpoint

abbrev NotBefore : Place → List Decl → Type 0
NotBefore v ds = AllByRecursion (λ d. IfSome (declared_by d) (Unseen v)) ds

by-test : (v : Place) (b : Bool) → is_before v v ≡ b → is_before v v ≡ false
by-test v true is = not-before v v is
by-test v false is = is

own-behind : (o : Object) (ds : List Decl) → InOrder (declared_in (decl.Object o ∷ ds)) → NotBefore o.identifier.place (decl.Object o ∷ ds)
own-behind o ds order = (
  by-test o.identifier.place (is_before o.identifier.place o.identifier.place) refl,
  each-kept (Unseen o.identifier.place) declared_by ds
      (weaker (StandsBefore (declared.Object o)) (Unseen o.identifier.place) (λ d before. not-before o.identifier.place (identifier_of d).place before) (declared_in ds) (order-head (Some (declared.Object o)) (declared_in ds) order)),
)

-- Where declarations have begun at a place nothing stands before it.
abbrev BegunBehind : Option Place → List Decl → Type 0
BegunBehind None ds = ⊤
BegunBehind (Some w) ds = NotBefore w ds

-- Nothing from an object on stands before its viewpoint.
abbrev ObjectBehind : Place → Decl → List Decl → Type 0
ObjectBehind v (decl.Attribute identifier type_mark) ds = ⊤
ObjectBehind v (decl.Specification s) ds = ⊤
ObjectBehind v (decl.Object o) ds = NotBefore v (decl.Object o ∷ ds)
ObjectBehind v (decl.Alias a) ds = ⊤
ObjectBehind v (decl.Component c) ds = ⊤

abbrev next_begun : Option Place → Decl → Option Place
next_begun begun d = cond (is_last d) None (Some (unwrap_or begun (place_of d)))

abbrev Behinds : Option Place → List Decl → Type 0
Behinds begun [] = ⊤
Behinds begun (d ∷ ds) = ObjectBehind (unwrap_or begun (place_of d)) d ds × Behinds (next_begun begun d) ds

object-behind : (begun : Option Place) (o : Object) (ds : List Decl) → BegunBehind begun (decl.Object o ∷ ds) → InOrder (declared_in (decl.Object o ∷ ds)) → NotBefore (unwrap_or begun o.identifier.place) (decl.Object o ∷ ds)
object-behind None o ds goes order = own-behind o ds order
object-behind (Some w) o ds goes order = goes

here-behind : (begun : Option Place) (d : Decl) (ds : List Decl) → BegunBehind begun (d ∷ ds) → InOrder (declared_in (d ∷ ds)) → ObjectBehind (unwrap_or begun (place_of d)) d ds
here-behind begun (decl.Attribute identifier type_mark) ds goes order = tt
here-behind begun (decl.Specification s) ds goes order = tt
here-behind begun (decl.Object o) ds goes order = object-behind begun o ds goes order
here-behind begun (decl.Alias a) ds goes order = tt
here-behind begun (decl.Component c) ds goes order = tt

not-last : (begun : Option Place) (d : Decl) (ds : List Decl) → is_last d ≡ false → BegunBehind begun (d ∷ ds) → InOrder (declared_in (d ∷ ds)) → NotBefore (unwrap_or begun (place_of d)) ds
not-last begun (decl.Attribute identifier type_mark) ds last goes order = cc
not-last begun (decl.Specification s) ds last goes order = cc
not-last begun (decl.Object o) ds last goes order = (object-behind begun o ds goes order).1
not-last begun (decl.Alias a) ds last goes order = cc
not-last begun (decl.Component c) ds last goes order = cc

next-behind : (begun : Option Place) (d : Decl) (ds : List Decl) (last : Bool) → is_last d ≡ last → BegunBehind begun (d ∷ ds) → InOrder (declared_in (d ∷ ds)) → BegunBehind (cond last None (Some (unwrap_or begun (place_of d)))) ds
next-behind begun d ds true is goes order = tt
next-behind begun d ds false is goes order = not-last begun d ds is goes order

behinds : (begun : Option Place) (ds : List Decl) → BegunBehind begun ds → InOrder (declared_in ds) → Behinds begun ds
behinds begun [] goes order = tt
behinds begun (d ∷ ds) goes order =
    (here-behind begun d ds goes order, behinds (next_begun begun d) ds (next-behind begun d ds (is_last d) refl goes order) (order-tail (declared_by d) (declared_in ds) order))

-- ---- one constant

-- The declarations of a region: an architecture, or a process of it that sees other constants.
pub record IsRegion (cell : Cell) (process : Option Process) (others : List Constant) (all : List Decl) : Type 0 where
  pub sees : (cs : List Constant) (v : Place) → AllByRecursion (ValueBefore cell (cs ++ others) v) (declared_in all) → SeesAt cell process (cs ++ others) v

unseen-value : (cell : Cell) (cs : List Constant) (v : Place) (d : Declared) → Unseen v d → ValueBefore cell cs v d
unseen-value cell cs v d behind = λ before. let wrong : true ≡ false = sym before ∙ behind in cc

some-unseen : (cell : Cell) (cs : List Constant) (v : Place) (o : Option Declared) → IfSome o (Unseen v) → IfSome o (ValueBefore cell cs v)
some-unseen cell cs v None hidden = tt
some-unseen cell cs v (Some d) hidden = unseen-value cell cs v d hidden

-- What pairs before a viewpoint declare is among what they give, and what stands behind is not seen.
values-before : (told : AllTold) (cell : Cell) (others : List Constant) (all : List Decl) (v : Place) (xs : List Pair) (ds : List Decl) → declared_in all ≡ declared_of xs ++ declared_in ds → AllByRecursion (IsMetPair cell) xs → NotBefore v ds
    → AllByRecursion (ValueBefore cell (given_by cell xs ++ others) v) (declared_in all)
values-before told cell others all v xs ds are met behind =
    subst (AllByRecursion (ValueBefore cell (given_by cell xs ++ others) v)) (sym are)
    (both-lists (ValueBefore cell (given_by cell xs ++ others) v) (declared_of xs) (declared_in ds)
    (weaker (HasValue cell (given_by cell xs)) (ValueBefore cell (given_by cell xs ++ others) v) (λ d has. λ before. value-front cell (given_by cell xs) others d has) (declared_of xs) (values-of cell xs told met))
    (all-kept (ValueBefore cell (given_by cell xs ++ others) v) declared_by ds
    (weaker (λ d. IfSome (declared_by d) (Unseen v)) (λ d. IfSome (declared_by d) (ValueBefore cell (given_by cell xs ++ others) v)) (λ d hidden. some-unseen cell (given_by cell xs ++ others) v (declared_by d) hidden) ds behind)))

-- The last of those that are declared together with a declaration is asked about, and breaks no clause.
abbrev LastFree : Cell → Pair → Type 0
LastFree cell x = IfSome x.1 (λ e. DeclFree cell e × (is_last_declaration e ≡ true))

last-in : (cell : Cell) (process : Option Process) (cs : List Constant) (v : Place) (o : Option (Sited Decl)) → SeesAt cell process cs v → SeenFrom process v o → IfSome o (λ e. DeclFree cell e × (is_last_declaration e ≡ true)) → IfSome o (LastIn cell process cs)
last-in cell process cs v None sees site free = tt
last-in cell process cs v (Some e) sees site free = ((v, (site, sees)), free)

abbrev SoundIn : Cell → List Constant → Constant → Type 0
SoundIn cell cs k = is_sound_constant (names_in_values (typed cell) cs) k.value ≡ true

one-sound : (told : AllTold) (cell : Cell) (process : Option Process) (others : List Constant) (all : List Decl) (w : Place) (xs : List Pair) (d : Decl) (ds : List Decl) (last : Option (Sited Decl)) → IsAsRead cell → Meets cell → GoodIn cell process
    → IsRegion cell process others all → declared_in all ≡ declared_of xs ++ declared_in (d ∷ ds) → AllByRecursion (IsMetPair cell) xs → ObjectBehind w d ds → SeenFrom process w last → LastFree cell (sited_at process w d, last)
    → IfSome (constant cell [] (sited_at process w d, last)) (SoundIn cell (given_by cell xs ++ others))
one-sound told cell process others all w xs (decl.Attribute identifier type_mark) ds last read met good region are before behind site free = tt
one-sound told cell process others all w xs (decl.Specification s) ds last read met good region are before behind site free = tt
one-sound told cell process others all w xs (decl.Object o) ds last read met good region are before behind site free =
    one-constant cell process (given_by cell xs ++ others) (sited_at process w (decl.Object o), last) read met good
    (last-in cell process (given_by cell xs ++ others) w last
    (region.sees (given_by cell xs) w (values-before told cell others all w xs (decl.Object o ∷ ds) are before behind)) site free)
one-sound told cell process others all w xs (decl.Alias a) ds last read met good region are before behind site free = tt
one-sound told cell process others all w xs (decl.Component c) ds last read met good region are before behind site free = tt

-- ---- all constants of a region

next-sound : (cell : Cell) (others before : List Constant) (o : Option Constant) (ks : List Constant) → IfSome o (SoundIn cell (before ++ others)) → AreSoundConstants (typed cell) others (before ++ cons_option o []) ks
    → AreSoundConstants (typed cell) others before (cons_option o ks)
next-sound cell others before None ks here rest = subst (λ cs. AreSoundConstants (typed cell) others cs ks) (append-nil before) rest
next-sound cell others before (Some k) ks here rest = (here, rest)

moved : {A : Type 0} (xs : List A) (o : Option A) (ys : List A) → xs ++ cons_option o ys ≡ (xs ++ cons_option o []) ++ ys
moved xs None ys = ap (λ zs. zs ++ ys) (sym (append-nil xs))
moved xs (Some x) ys = sym (append_assoc xs (x ∷ []) ys)

abbrev paired_from : Option Process → Option Place → List Decl → List Pair
paired_from process begun ds = beside_lasts is_last_declaration (placed process begun ds)

all-sound : (told : AllTold) (cell : Cell) (process : Option Process) (others : List Constant) (all : List Decl) (begun : Option Place) (xs : List Pair) (ds : List Decl) → IsAsRead cell → Meets cell → GoodIn cell process
    → IsRegion cell process others all → declared_in all ≡ declared_of xs ++ declared_in ds → AllByRecursion (IsMetPair cell) xs → AllByRecursion (IsMetPair cell) (paired_from process begun ds) → Behinds begun ds
    → AllByRecursion (LastFree cell) (paired_from process begun ds) → AreSoundConstants (typed cell) others (given_by cell xs) (given_by cell (paired_from process begun ds))
all-sound told cell process others all begun xs [] read met good region are before these behind free = tt
all-sound told cell process others all begun xs (d ∷ ds) read met good region are before these behind free =
    let w = unwrap_or begun (place_of d) in
    let last = find is_last_declaration (sited_at process w d ∷ placed process (next_begun begun d) ds) in
    let x : Pair = (sited_at process w d, last) in
    next-sound cell others (given_by cell xs) (constant cell [] x) (given_by cell (paired_from process (next_begun begun d) ds))
    (one-sound told cell process others all w xs d ds last read met good region are before behind.0 (seen-or process w (is_last d) d ds (last-begun process w ds)) free.0)
    (subst (λ cs. AreSoundConstants (typed cell) others cs (given_by cell (paired_from process (next_begun begun d) ds))) (filter_map-append (constant cell []) xs (x ∷ []))
    (all-sound told cell process others all (next_begun begun d) (xs ++ x ∷ []) ds read met good region
    (are ∙ moved (declared_of xs) (declared_by d) (declared_in ds) ∙ ap (λ es. es ++ declared_in ds) (sym (filter_map-append (λ (y : Pair). declared_by y.0.declaration) xs (x ∷ []))))
    (both-lists (IsMetPair cell) xs (x ∷ []) before (these.0, tt)) these.1 behind.1 free.1))

pub region-sound : (told : AllTold) (cell : Cell) (process : Option Process) (others : List Constant) (ds : List Decl) → IsAsRead cell → Meets cell → GoodIn cell process → IsRegion cell process others ds → AllPairs StandsBefore (declared_in ds)
    → AreTogether ds → AllByRecursion (IsMet cell) (sited_declarations process ds) → AllByRecursion (DeclFree cell) (sited_declarations process ds) → AreSoundConstants (typed cell) others [] (constants cell [] process ds)
region-sound told cell process others ds read met good region order together judged free =
    all-sound told cell process others ds None [] ds read met good region refl tt (pairs-met cell process ds together judged) (behinds None ds tt (in-order (declared_in ds) order))
    (lasts-have (DeclFree cell) is_last_declaration (sited_declarations process ds) free)

-- ---- the regions of a cell

body-region : (cell : Cell) → IsRegion cell None [] (declarations cell.arch)
body-region cell = record { sees = λ cs v has. record { own = tt; body = subst (AllByRecursion (ValueBefore cell (cs ++ []) v)) (body-is cell.arch) has } }

body-values : (told : AllTold) (cell : Cell) → IsAsRead cell → Meets cell → AllByRecursion (HasValue cell (own_constants cell)) (body_of cell.arch)
body-values told cell read met =
    subst (AllByRecursion (HasValue cell (own_constants cell))) (body-is cell.arch) (values-kept cell None (declarations cell.arch) told read.arch.together (body-met cell read met))

process-region : (told : AllTold) (cell : Cell) (q : Process) → IsAsRead cell → Meets cell → IsRegion cell (Some q) (own_constants cell) q.declarations
process-region told cell q read met = record {
  sees = λ cs v has. record {
    own = has;
    body = weaker (HasValue cell (own_constants cell)) (ValueBefore cell (cs ++ own_constants cell) v) (λ d value. λ before. value-back cell cs (own_constants cell) d value) (body_of cell.arch) (body-values told cell read met);
  };
}

pub body-constants-sound : (told : AllTold) (cell : Cell) → IsAsRead cell → Meets cell → AreSoundConstants (typed cell) [] [] (own_constants cell)
body-constants-sound told cell read met =
    region-sound told cell None [] (declarations cell.arch) read met tt (body-region cell) (subst (AllPairs StandsBefore) (sym (body-is cell.arch)) read.arch.in_order) read.arch.together (body-met cell read met) (body-free cell met.named)

pub process-constants-sound : (told : AllTold) (cell : Cell) (q : Process) → IsAsRead cell → Meets cell → IsGood cell q → AllPairs StandsBefore (declared_in q.declarations)
    → AreSoundConstants (typed cell) (own_constants cell) [] (constants cell [] (Some q) q.declarations)
process-constants-sound told cell q read met good order =
    region-sound told cell (Some q) (own_constants cell) q.declarations read met good (process-region told cell q read met) order good.together good.met good.free.declarations

-- ---- variables of a process, which see all constants

pub variable-sites : (told : AllTold) (cell : Cell) (q : Process) → IsAsRead cell → Meets cell → IsGood cell q → AllByRecursion (SeenIn cell (Some q) (constants cell [] (Some q) q.declarations ++ own_constants cell)) (sited_declarations (Some q) q.declarations)
variable-sites told cell q read met good =
    weaker (IsSiteIn (Some q)) (SeenIn cell (Some q) (constants cell [] (Some q) q.declarations ++ own_constants cell))
    (λ e site. (
      site.0,
      (
        site.1,
        (process-region told cell q read met).sees (constants cell [] (Some q) q.declarations) site.0
            (weaker (HasValue cell (constants cell [] (Some q) q.declarations)) (ValueBefore cell (constants cell [] (Some q) q.declarations ++ own_constants cell) site.0)
            (λ d has. λ before. value-front cell (constants cell [] (Some q) q.declarations) (own_constants cell) d has) (declared_in q.declarations)
            (values-kept cell (Some q) q.declarations told good.together good.met)),
      ),
    )) (sited_declarations (Some q) q.declarations) (declaration-sites (Some q) q.declarations)
