-- No two calls of a process keep their states in one variable.
use Rattle.std.proofs.Common.{◌≡◌, ℕ, zero, suc, Bool, true, false, List, [], ◌∷◌, ◌++◌, Option, Some, None, map, refl, sym, ap, ◌∙◌, subst, append_assoc, arith}
use Rattle.std.proofs.lemmas.List.Elements.{All-from_recursion, filter-append, filter_map-append, recursion_from_All}
use Rattle.std.proofs.lemmas.List.Folds.{find-append}
use Rattle.std.proofs.lemmas.Slice.Eq.{bytes_eq-Decides}
use Rattle.std.specs.Prelude.{All, AllPairs, cond, filter, find, not, ◌==◌, ◌&&◌, if◌then◌else◌}
use Rattle.std.specs.Cmp.{nat_cmp_is}
use Rattle.std.specs.List.{AllByRecursion, IsDistinct, cons_option, filter_map, flat_map}
use Rattle.std.specs.Option.{option_map, option_or}
use Rattle.std.specs.Ordering.{is_lt, nat_cmp, ordering_then}
use Rattle.std.specs.declared.cmp.Ordering.TheVariants.{Equal}
use Rattle.std.specs.Str.{bytes_eq}
use Rattle.vital_as_read.specs.AsRead.{IsAsRead, IsProcessAsRead, PrecedesIdentifier, first_identifier, names_among}
use Rattle.vital_base.specs.declared.place.Place.{Place}
use Rattle.vital_base.specs.Places.{is_before}
use Rattle.vital_names.specs.Declarations.{body_of}
use Rattle.vital_names.specs.Sites.{Cell}
use Rattle.vital_nodes.specs.declared.identifier.Identifier.{Identifier}
use Rattle.vital_nodes.specs.declared.stmt.Process.{Process}
use Rattle.vital_nodes.specs.Nodes.{Node, Declaration, Interface, Concurrent, Sequential, Expression, Item, Name, sequentials}
use Rattle.vital_nodes.specs.Places.{place_of}
use Rattle.vital_nodes.specs.Walk.{nodes_of_all}
use Rattle.vital_uses.specs.Asked.{Asked, asked, asked_at}
use Rattle.vital_uses.specs.NamesAt.{NameAt, at, first_place}
use Rattle.vital_uses.specs.Nodes.{nodes_before_statements, nodes_of_statements}
use Rattle.vital_uses.specs.Sited.{SitedNode, own_site}
use Rattle.vital_uses.specs.Statements.{processes}
use Rattle.vital_variables.specs.declared.formal_use.FormalUse.TheVariants.{State}
use Rattle.vital_variables.specs.Given.{given}
use Rattle.vital_variables.specs.Meant.{meant_from}
use Rattle.vital_variables.specs.SecondUses.{clause_13, given_uses, is_elsewhere, is_second, second_uses, used_again, uses}
use Rattle.vital_variables.specs.Variables.{direct_use, use_of}
use Rattle.vital_nodes.specs.Statements.{all_sequential}
use Rattle.vital_nodes.proofs.Values.{WalkLaw}
use Rattle.vital_typed_cells.specs.Kept.{names_kept}
use Rattle.vital_typed_cells.proofs.Apart.{AreApart, distinct, never, none-before, none-behind}
use Rattle.vital_typed_cells.proofs.CellGiven.{Left, Ordered, all-left, given-among-names, ordered-left}

-- ---- the order of names

ordered : {A : Type 0} (R : A → A → Type 0) (xs : List A) → AllPairs R xs → Ordered R xs
ordered R [] pairs = tt
ordered R (x ∷ xs) pairs = (
  recursion_from_All (R x) xs (λ k d inside. pairs zero (suc k) d (omega arith) (omega arith)),
  ordered R xs (λ i j d below inside. pairs (suc i) (suc j) d (omega arith) (omega arith)),
)

-- A place doesn't stand before itself.
before-itself : (p : Place) → is_before p p ≡ true → true ≡ false
before-itself p before =
    let file = nat_cmp_is p.file p.file Equal refl in
    let line = nat_cmp_is p.line p.line Equal refl in
    let column = nat_cmp_is p.column p.column Equal refl in
    sym before
    ∙ sym (ap (λ o. is_lt (ordering_then o (ordering_then (nat_cmp p.line p.line) (nat_cmp p.column p.column)))) file)
    ∙ sym (ap (λ o. is_lt (ordering_then o (nat_cmp p.column p.column))) line)
    ∙ sym (ap is_lt column)

same-numbers : (a b : ℕ) → (a == b) ≡ true → a ≡ b
same-numbers a b is = grind (arith, is)

both : (a b : Bool) → (a && b) ≡ true → (a ≡ true) × (b ≡ true)
both true b is = (refl, is)
both false b is = never (sym is)

not-false : (b : Bool) → not b ≡ false → b ≡ true
not-false true is = refl
not-false false is = never is

-- A place is not elsewhere than one where it has the same file, line and column.
same-place : (p q : Place) → is_elsewhere p (Some q) ≡ false → q ≡ p
same-place p q is =
    let file = both (q.file == p.file) (q.line == p.line && q.column == p.column) (not-false (q.file == p.file && (q.line == p.line && q.column == p.column)) is) in
    let line = both (q.line == p.line) (q.column == p.column) file.1 in
    let f = same-numbers q.file p.file file.0 in
    let l = same-numbers q.line p.line line.0 in
    let c = same-numbers q.column p.column line.1 in
    ap (λ n. record { file = n; line = q.line; column = q.column }) f
    ∙ ap (λ n. record { file = p.file; line = n; column = q.column }) l
    ∙ ap (λ n. record { file = p.file; line = p.line; column = n }) c

-- ---- uses that are not second ones

-- A use of a variable stands where the first one of the variable among others does, if there is one.
abbrev Fine : Cell → Process → List NameAt → Identifier → Type 0
Fine cell p whole i = AllByRecursion (λ u. is_second whole u ≡ false) (cons_option (direct_use cell p i) [])

abbrev unused : List NameAt → List NameAt → Type 0
unused whole us = filter (is_second whole) us ≡ []

first-unused : (whole : List NameAt) (u : NameAt) (us : List NameAt) (b : Bool) → is_second whole u ≡ b → cond b (u ∷ filter (is_second whole) us) (filter (is_second whole) us) ≡ []
    → (is_second whole u ≡ false) × unused whole us
first-unused whole u us true is none = cc
first-unused whole u us false is none = (is, none)

maybe-unused : (whole : List NameAt) (o : Option NameAt) (us : List NameAt) → unused whole (cons_option o us)
    → AllByRecursion (λ u. is_second whole u ≡ false) (cons_option o []) × unused whole us
maybe-unused whole None us none = (tt, none)
maybe-unused whole (Some u) us none = let first = first-unused whole u us (is_second whole u) refl none in ((first.0, tt), first.1)

-- What is asked at a node of a process that is seen from its own place.
abbrev sited : Process → Node → SitedNode
sited p v = record { site = own_site (Some p) (place_of v); node = v }

abbrev uses_at : Cell → Process → List Node → List NameAt
uses_at cell p vs = filter_map use_of (filter_map (asked_at cell) (map (sited p) vs))

others-unused : (whole : List NameAt) (o : Option Asked) (as' : List Asked) → unused whole (filter_map use_of (cons_option o as')) → unused whole (filter_map use_of as')
others-unused whole None as' none = none
others-unused whole (Some a) as' none = (maybe-unused whole (use_of a) (filter_map use_of as') none).1

fine-names : (cell : Cell) (p : Process) (whole : List NameAt) (vs : List Node) → unused whole (uses_at cell p vs) → AllByRecursion (Fine cell p whole) (filter_map first_identifier vs)
unfolding asked_at meant_from place_of
fine-names cell p whole [] none = tt
fine-names cell p whole (Declaration d ∷ vs) none = fine-names cell p whole vs none
fine-names cell p whole (Interface i ∷ vs) none = fine-names cell p whole vs none
fine-names cell p whole (Concurrent c ∷ vs) none = fine-names cell p whole vs none
fine-names cell p whole (Sequential s ∷ vs) none = fine-names cell p whole vs none
fine-names cell p whole (Expression e ∷ vs) none =
    fine-names cell p whole vs (others-unused whole (asked_at cell (sited p (Expression e))) (filter_map (asked_at cell) (map (sited p) vs)) none)
fine-names cell p whole (Item i ∷ vs) none = fine-names cell p whole vs none
fine-names cell p whole (Name r ∷ vs) none =
    let first = maybe-unused whole (direct_use cell p r.identifier) (uses_at cell p vs) none in
    (first.0, fine-names cell p whole vs first.1)

-- ---- uses that stand apart

use-by : (b : Bool) (i : Identifier) (u : NameAt) → (if b then Some (at i) else None) ≡ Some u → at i ≡ u
use-by true i u is = cc
use-by false i u is = absurd cc

use-is : (cell : Cell) (p : Process) (i : Identifier) (u : NameAt) → direct_use cell p i ≡ Some u → at i ≡ u
use-is cell p i u is = use-by _ i u is

or-some : (o : Option NameAt) (u : NameAt) → (w : NameAt) × (option_or o (Some u) ≡ Some w)
or-some None u = (u, refl)
or-some (Some w) u = (w, refl)

-- A use that is in a list has a first one of its name there.
first-there : (before us : List NameAt) (u : NameAt) → (w : NameAt) × (find (λ n. bytes_eq n.name u.name) (before ++ u ∷ us) ≡ Some w)
first-there before us u =
    let found = or-some (find (λ n. bytes_eq n.name u.name) before) u in
    let itself : find (λ n. bytes_eq n.name u.name) (u ∷ us) ≡ Some u = ap (λ b. cond b (Some u) (find (λ n. bytes_eq n.name u.name) us)) ((bytes_eq-Decides u.name u.name).1 refl) in
    (found.0, find-append (λ n. bytes_eq n.name u.name) before (u ∷ us) ∙ ap (option_or (find (λ n. bytes_eq n.name u.name) before)) itself ∙ found.1)

-- It is that first one, if it is no second one.
first-is : (whole : List NameAt) (u w : NameAt) → find (λ n. bytes_eq n.name u.name) whole ≡ Some w → is_second whole u ≡ false → first_place whole u.name ≡ Some u.place
first-is whole u w found fine =
    let first : first_place whole u.name ≡ Some w.place = ap (option_map (λ n. n.place)) found in
    first ∙ ap (λ q. Some q) (same-place u.place w.place (sym (ap (is_elsewhere u.place) first) ∙ fine))

module _ (cell : Cell) (p : Process) (whole : List NameAt) where
  abbrev used : List Identifier → List NameAt
  used is = filter_map (direct_use cell p) is

  differs-by : (i j : Identifier) (u v : NameAt) (b : Bool) → at i ≡ u → at j ≡ v → first_place whole u.name ≡ Some u.place → is_second whole v ≡ false → PrecedesIdentifier i j
      → bytes_eq u.name v.name ≡ b → b ≡ false
  differs-by i j u v false own other first fine before is = refl
  differs-by i j u v true own other first fine before is =
      let same : u.name ≡ v.name = (bytes_eq-Decides u.name v.name).0 is in
      let there : first_place whole v.name ≡ Some u.place = sym (ap (first_place whole) same) ∙ first in
      let place : u.place ≡ v.place = same-place v.place u.place (sym (ap (is_elsewhere v.place) there) ∙ fine) in
      let moved : i.place ≡ j.place = ap (λ n. n.place) own ∙ place ∙ sym (ap (λ n. n.place) other) in
      before-itself j.place (subst (λ q. is_before q j.place ≡ true) moved before)

  differ-step : (i j : Identifier) (u : NameAt) (js : List Identifier) (o : Option NameAt) → direct_use cell p j ≡ o → at i ≡ u → first_place whole u.name ≡ Some u.place
      → AllByRecursion (λ w. is_second whole w ≡ false) (cons_option o []) → PrecedesIdentifier i j
      → AllByRecursion (λ n. bytes_eq u.name n ≡ false) (map (λ w. w.name) (used js))
      → AllByRecursion (λ n. bytes_eq u.name n ≡ false) (map (λ w. w.name) (cons_option o (used js)))
  differ-step i j u js None is own first fine before others = others
  differ-step i j u js (Some v) is own first fine before others =
      (differs-by i j u v (bytes_eq u.name v.name) own (use-is cell p j v is) first fine.0 before refl, others)

  differ : (i : Identifier) (u : NameAt) (js : List Identifier) → at i ≡ u → first_place whole u.name ≡ Some u.place → AllByRecursion (PrecedesIdentifier i) js
      → AllByRecursion (Fine cell p whole) js → AllByRecursion (λ n. bytes_eq u.name n ≡ false) (map (λ w. w.name) (used js))
  differ i u [] own first before fine = tt
  differ i u (j ∷ js) own first before fine = differ-step i j u js (direct_use cell p j) refl own first fine.0 before.0 (differ i u js own first before.1 fine.1)

  apart-step : (i : Identifier) (is : List Identifier) (before : List NameAt) (o : Option NameAt) → direct_use cell p i ≡ o → whole ≡ before ++ cons_option o (used is)
      → AllByRecursion (λ w. is_second whole w ≡ false) (cons_option o []) → AllByRecursion (PrecedesIdentifier i) is → AllByRecursion (Fine cell p whole) is
      → ((bs : List NameAt) → whole ≡ bs ++ used is → AreApart bytes_eq (map (λ w. w.name) (used is)))
      → AreApart bytes_eq (map (λ w. w.name) (cons_option o (used is)))
  apart-step i is before None means parts fine order others apart = apart before parts
  apart-step i is before (Some u) means parts fine order others apart =
      let there = first-there before (used is) u in
      let first = first-is whole u there.0 (ap (find (λ n. bytes_eq n.name u.name)) parts ∙ there.1) fine.0 in
      (differ i u is (use-is cell p i u means) first order others, apart (before ++ u ∷ []) (parts ∙ sym (append_assoc before (u ∷ []) (used is))))

  apart-from : (is : List Identifier) (before : List NameAt) → whole ≡ before ++ used is → Ordered PrecedesIdentifier is → AllByRecursion (Fine cell p whole) is
      → AreApart bytes_eq (map (λ w. w.name) (used is))
  apart-from [] before parts order fine = tt
  apart-from (i ∷ is) before parts order fine =
      apart-step i is before (direct_use cell p i) refl parts fine.0 order.0 fine.1 (λ bs others. apart-from is bs others order.1 fine.1)

-- ---- processes

none-mapped : {A B : Type 0} (f : A → B) (xs : List A) → map f xs ≡ [] → xs ≡ []
none-mapped f [] is = refl
none-mapped f (x ∷ xs) is = absurd cc

in-statements : (cell : Cell) (p : Process) (whole : List NameAt) → unused whole (uses cell p) → unused whole (uses_at cell p (nodes_of_all (sequentials p.statements)))
in-statements cell p whole none =
    let before = nodes_before_statements p in
    let behind = nodes_of_statements p in
    let parts : uses cell p ≡ filter_map use_of (asked cell before) ++ filter_map use_of (asked cell behind) =
    ap (filter_map use_of) (filter_map-append (asked_at cell) before behind) ∙ filter_map-append use_of (asked cell before) (asked cell behind) in
    none-behind (filter (is_second whole) (filter_map use_of (asked cell before))) (filter (is_second whole) (filter_map use_of (asked cell behind)))
    (sym (ap (filter (is_second whole)) parts ∙ filter-append (is_second whole) (filter_map use_of (asked cell before)) (filter_map use_of (asked cell behind))) ∙ none)

kept-apart : WalkLaw → (cell : Cell) (p : Process) → used_again cell p ≡ [] → Ordered PrecedesIdentifier (names_among p.statements) → AreApart bytes_eq (names_kept cell p)
kept-apart law cell p none order =
    let whole = given_uses State cell p in
    let is = flat_map (given State cell p) (all_sequential p.statements) in
    let second : second_uses cell p ≡ [] = none-mapped (λ u. u.place) (second_uses cell p) (none-before (map (λ u. u.place) (second_uses cell p)) _ none) in
    let fine = fine-names cell p whole (nodes_of_all (sequentials p.statements)) (in-statements cell p whole second) in
    let left : Left is (names_among p.statements) = given-among-names law State cell p p.statements in
    apart-from cell p whole is [] refl (ordered-left PrecedesIdentifier left order) (all-left (Fine cell p whole) left fine)

all-apart : WalkLaw → (cell : Cell) (ps : List Process) → flat_map (used_again cell) ps ≡ [] → AllByRecursion (IsProcessAsRead (body_of cell.arch)) ps
    → AllByRecursion (λ p. IsDistinct bytes_eq (names_kept cell p)) ps
all-apart law cell [] none read = tt
all-apart law cell (p ∷ ps) none read = (
  distinct (names_kept cell p)
      (kept-apart law cell p (none-before (used_again cell p) (flat_map (used_again cell) ps) none) (ordered PrecedesIdentifier (names_among p.statements) read.0.names_in_order)),
  all-apart law cell ps (none-behind (used_again cell p) (flat_map (used_again cell) ps) none) read.1,
)

pub kept-differ : WalkLaw → (cell : Cell) → IsAsRead cell → clause_13 cell ≡ [] → All (λ p. IsDistinct bytes_eq (names_kept cell p)) (processes cell.arch)
kept-differ law cell read none =
    All-from_recursion (λ p. IsDistinct bytes_eq (names_kept cell p)) (processes cell.arch)
    (all-apart law cell (processes cell.arch) none (recursion_from_All (IsProcessAsRead (body_of cell.arch)) (processes cell.arch) read.arch.processes))
