-- Aliases see what stands before them, and what an architecture declares sees nothing of what its processes declare.
use Rattle.std.proofs.Common.{◌≡◌, ℕ, Bool, true, false, List, [], ◌∷◌, Option, Some, None, refl, sym, ap, ◌∙◌}
use Rattle.std.specs.Prelude.{⊤, cond, find, is_some, unwrap_or, IfSome, IsSome}
use Rattle.std.specs.List.{AllByRecursion}
use Rattle.std.specs.Option.{option_and_then, option_map, option_or}
use Rattle.std.specs.Ordering.{is_lt, ordering_reverse}
use Rattle.std.specs.Str.{bytes_eq}
use Rattle.std.specs.declared.cmp.Ordering.{Ordering}
use Rattle.std.specs.declared.cmp.Ordering.TheVariants.{Less, Equal, Greater}
use Rattle.std.proofs.lemmas.Cmp.{nat_cmp_total, on_total, then_total}
use Rattle.std.proofs.lemmas.Option.{same_Some}
use Rattle.vital_base.specs.declared.place.Place.{Place}
use Rattle.vital_base.specs.Places.{compare_places, is_before}
use Rattle.vital_names.specs.declared.site.CellUnit.TheVariants.{Architecture}
use Rattle.vital_names.specs.Declarations.{Declared, body_of, declared_in, first_named, identifier_of, interface_of}
use Rattle.vital_names.specs.Meanings.{constants, first_before, if_before, meaning, meaning_among}
use Rattle.vital_names.specs.Meanings as meanings
use Rattle.vital_names.specs.Sites.{Cell}
use Rattle.vital_names.specs.Viewpoints.{first_places_from, is_last}
use Rattle.vital_nodes.specs.declared.decl.Decl.{Decl}
use Rattle.vital_nodes.specs.declared.decl.Decl.TheVariants as decl
use Rattle.vital_nodes.specs.declared.stmt.Process.{Process}
use Rattle.vital_nodes.specs.Places.{identifier_of_decl}
use Rattle.vital_objects.specs.Together.{beside_lasts}
use Rattle.vital_uses.specs.Nodes.{sited_declarations}
use Rattle.vital_uses.specs.Sited.{Sited, beside}
use Rattle.vital_as_read.specs.AsRead.{common_of}
use Rattle.vital_typed_cells.proofs.AsRead.{IsTogether}
use Rattle.vital_typed_cells.proofs.Found.{found}
use Rattle.vital_typed_cells.proofs.Seen.{site_at}

-- ---- sites of aliases

-- An alias is seen from its own place.
abbrev pub AliasAt : Option Process → Sited Decl → Decl → Type 0
AliasAt process e (decl.Attribute identifier type_mark) = ⊤
AliasAt process e (decl.Specification s) = ⊤
AliasAt process e (decl.Object o) = ⊤
AliasAt process e (decl.Alias a) = e.site ≡ site_at process a.identifier.place
AliasAt process e (decl.Component c) = ⊤

abbrev IsObjectNext : List Decl → Type 0
IsObjectNext [] = ⊤
IsObjectNext (d ∷ ds) = IsSome (common_of d)

-- What has begun goes on with an object.
abbrev BegunWith : Option Place → List Decl → Type 0
BegunWith None ds = ⊤
BegunWith (Some w) ds = IsObjectNext ds

abbrev Together : List Decl → Type 0
Together ds = AllByRecursion (λ x. IsTogether x.0 x.1) (beside_lasts is_last ds)

object-next : (d : Decl) (ds : List Decl) → is_last d ≡ false → Together (d ∷ ds) → IsObjectNext ds
object-next (decl.Attribute identifier type_mark) ds last together = cc
object-next (decl.Specification s) ds last together = cc
object-next (decl.Object o) [] last together = tt
object-next (decl.Object o) (e ∷ ds) last together =
    let own : option_map common_of (find is_last (e ∷ ds)) ≡ Some (Some (o.«class», o.parts)) =
    sym (ap (λ l. option_map common_of (cond l (Some (decl.Object o)) (find is_last (e ∷ ds)))) last) ∙ together.0 in
    ap is_some (same_Some (common_of e) (Some (o.«class», o.parts)) (sym together.1.0 ∙ own))
object-next (decl.Alias a) ds last together = cc
object-next (decl.Component c) ds last together = cc

goes-on : (d : Decl) (ds : List Decl) (w : Place) (last : Bool) → is_last d ≡ last → Together (d ∷ ds) → BegunWith (cond last None (Some w)) ds
goes-on d ds w true is together = tt
goes-on d ds w false is together = object-next d ds is together

at-place : (process : Option Process) (begun : Option Place) (d : Decl) → BegunWith begun (d ∷ []) → AliasAt process (record { site = site_at process (unwrap_or begun (identifier_of_decl d).place); declaration = d }) d
at-place process begun (decl.Attribute identifier type_mark) goes = tt
at-place process begun (decl.Specification s) goes = tt
at-place process begun (decl.Object o) goes = tt
at-place process None (decl.Alias a) goes = refl
at-place process (Some w) (decl.Alias a) goes = cc
at-place process begun (decl.Component c) goes = tt

first-of : (begun : Option Place) (d : Decl) (ds : List Decl) → BegunWith begun (d ∷ ds) → BegunWith begun (d ∷ [])
first-of None d ds goes = tt
first-of (Some w) d ds goes = goes

aliases-from : (process : Option Process) (begun : Option Place) (ds : List Decl) → BegunWith begun ds → Together ds
    → AllByRecursion (λ e. AliasAt process e e.declaration) (beside Architecture process (first_places_from (λ d. (identifier_of_decl d).place) is_last begun ds) ds)
aliases-from process begun [] goes together = tt
aliases-from process begun (d ∷ ds) goes together = (
  at-place process begun d (first-of begun d ds goes),
  aliases-from process (cond (is_last d) None (Some (unwrap_or begun (identifier_of_decl d).place))) ds (goes-on d ds (unwrap_or begun (identifier_of_decl d).place) (is_last d) refl together) together.1,
)

pub aliases-at : (process : Option Process) (ds : List Decl) → Together ds → AllByRecursion (λ e. AliasAt process e e.declaration) (sited_declarations process ds)
aliases-at process ds together = aliases-from process None ds tt together

-- ---- places

less-reverse : (a b : Ordering) → a ≡ Less → b ≡ ordering_reverse a → is_lt b ≡ false
less-reverse a b less is = ap is_lt (is ∙ ap ordering_reverse less)

is-less : (o : Ordering) → is_lt o ≡ true → o ≡ Less
is-less Less is = refl
is-less Equal is = cc
is-less Greater is = cc

-- Of two places only one is before the other.
pub not-before : (a b : Place) → is_before a b ≡ true → is_before b a ≡ false
not-before a b before =
    less-reverse (compare_places a b) (compare_places b a) (is-less (compare_places a b) before)
    ((then_total (on_total (λ p. p.file) nat_cmp_total) (then_total (on_total (λ p. p.line) nat_cmp_total) (on_total (λ p. p.column) nat_cmp_total))).antisymm b a)

-- ---- what processes declare

abbrev pub Unseen : Place → Declared → Type 0
Unseen v d = is_before (identifier_of d).place v ≡ false

unseen : (v : Place) (o : Option Declared) → IfSome o (Unseen v) → option_and_then (if_before v) o ≡ None
unseen v None behind = refl
unseen v (Some d) behind = ap (λ b. cond b (Some d) None) behind

only-unseen : (v : Place) (name : List ℕ) (o : Option Declared) → IfSome o (λ d. Unseen v d × (bytes_eq (identifier_of d).name name ≡ true)) → IfSome o (Unseen v)
only-unseen v name None has = tt
only-unseen v name (Some d) has = has.0

none-before : (v : Place) (name : List ℕ) (ds : List Declared) → AllByRecursion (Unseen v) ds → first_before v name ds ≡ None
none-before v name ds behind = unseen v (first_named name ds) (only-unseen v name (first_named name ds) (found (Unseen v) (λ d. bytes_eq (identifier_of d).name name) ds behind))

-- A name means the same outside of a process all of whose declarations stand behind.
pub outside-meaning : (cell : Cell) (q : Process) (v : Place) (name : List ℕ) → AllByRecursion (Unseen v) (declared_in q.declarations) → meaning name cell (site_at None v) ≡ meaning name cell (site_at (Some q) v)
outside-meaning cell q v name behind =
    ap (λ o. option_or (option_map (λ d. meanings.Declared d) (option_or o (option_or (first_before v name (body_of cell.arch)) (first_named name (interface_of cell.entity))))) (meaning_among (constants cell.files) name))
    (sym (none-before v name (declared_in q.declarations) behind))
