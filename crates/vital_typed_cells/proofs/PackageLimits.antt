-- The limits that the text of a constant of a package passes are among those that are known of it.
use Rattle.std.proofs.Common.{◌≡◌, ℕ, zero, suc, Bool, true, false, List, [], ◌∷◌, ◌++◌, length, Option, Some, None, refl, sym, ap, ◌∙◌, subst}
use Rattle.std.specs.Prelude.{⊤, ◌&&◌, cond, find, slice_get, unwrap_or}
use Rattle.std.specs.List.{AllByRecursion, filter_map, fold}
use Rattle.std.specs.Option.{option_map}
use Rattle.std.proofs.lemmas.List.{append_assoc, append-nil}
use Rattle.std.proofs.lemmas.Option.{same_Some}
use Rattle.vital_library.specs.Constants.{constants_of}
use Rattle.vital_limits.specs.ConstantLimits.{constant_limits, joined, limits_at, named_at, next_limits, nodes_of_constant, own, with_next}
use Rattle.vital_limits.specs.declared.packages.ConstantLimits.{ConstantLimits}
use Rattle.vital_limits.specs.NodeLimits.{are_too_long, are_too_many, is_table_type}
use Rattle.vital_nodes.specs.declared.decl.Object.{Object}
use Rattle.vital_nodes.specs.declared.decl.ObjectClass.TheVariants as class
use Rattle.vital_nodes.specs.declared.decl.ObjectParts.{ObjectParts}
use Rattle.vital_nodes.specs.declared.expr.Item.{Item}
use Rattle.vital_nodes.specs.declared.unit.Units.{Units}
use Rattle.vital_objects.specs.Together.{beside_lasts}
use Rattle.vital_nodes.specs.Objects.{is_constant_class}
use Rattle.vital_as_read.specs.AsRead.{AreConstantsTogether}
use Rattle.vital_typed_cells.proofs.AsRead.{IsConstantTogether, alike-beside}
use Rattle.vital_typed_cells.proofs.Lookups.{constants-are}
use Rattle.vital_typed_cells.proofs.Short.{items_at}
use Rattle.vital_typed_cells.proofs.Unbroken.{first-false}

-- The items of a constant with these parts.
abbrev pub items_of_parts : ObjectParts → List Item
items_of_parts ps = cond (is_table_type ps.subtype.name) (items_at ps.value) []

-- Where limits are not known to be passed the text does not pass them.
pub record IsShortIf (ps : ObjectParts) (l : ConstantLimits) : Type 0 where
  pub rows : l.rows ≡ false → are_too_many (items_of_parts ps) ≡ false
  pub columns : l.columns ≡ false → are_too_long (items_of_parts ps) ≡ false

-- ---- joined limits

rows-first : {N : Type 0} (at : N → ConstantLimits) (l : ConstantLimits) (ns : List N) → (fold (λ k n. joined k (at n)) l ns).rows ≡ false → l.rows ≡ false
rows-first at l [] is = is
rows-first at l (n ∷ ns) is = first-false l.rows (at n).rows (rows-first at (joined l (at n)) ns is)

columns-first : {N : Type 0} (at : N → ConstantLimits) (l : ConstantLimits) (ns : List N) → (fold (λ k n. joined k (at n)) l ns).columns ≡ false → l.columns ≡ false
columns-first at l [] is = is
columns-first at l (n ∷ ns) is = first-false l.columns (at n).columns (columns-first at (joined l (at n)) ns is)

abbrev own_items : Bool → ObjectParts → List Item
own_items b ps = cond (b && is_table_type ps.subtype.name) (items_at ps.value) []

next-short : (files : List Units) (known : List ConstantLimits) (o : Object) → o.«class» ≡ class.Constant → IsShortIf o.parts (next_limits files known o)
next-short files known o is = record {
  rows = λ none. sym (ap (λ k. are_too_many (own_items (is_constant_class k) o.parts)) is) ∙ rows-first (limits_at known) (own o) (filter_map (named_at files (length known)) (nodes_of_constant o)) none;
  columns = λ none. sym (ap (λ k. are_too_long (own_items (is_constant_class k) o.parts)) is) ∙ columns-first (limits_at known) (own o) (filter_map (named_at files (length known)) (nodes_of_constant o)) none;
}

-- ---- all constants

abbrev pub Shorts : List Object → List ConstantLimits → Type 0
Shorts [] [] = ⊤
Shorts [] (l ∷ ls) = ⊥
Shorts (o ∷ os) [] = ⊥
Shorts (o ∷ os) (l ∷ ls) = IsShortIf o.parts l × Shorts os ls

pub one-more : (os : List Object) (ls : List ConstantLimits) (o : Object) (l : ConstantLimits) → Shorts os ls → IsShortIf o.parts l → Shorts (os ++ o ∷ []) (ls ++ l ∷ [])
one-more [] [] o l all more = (more, tt)
one-more [] (k ∷ ls) o l all more = absurd all
one-more (q ∷ os) [] o l all more = absurd all
one-more (q ∷ os) (k ∷ ls) o l all more = (all.0, one-more os ls o l all.1 more)

pub short-at : (os : List Object) (ls : List ConstantLimits) (m : ℕ) (o : Object) → Shorts os ls → slice_get os m ≡ Some o → IsShortIf o.parts (limits_at ls m)
short-at [] [] m o all is = absurd (cc)
short-at [] (l ∷ ls) m o all is = absurd all
short-at (q ∷ os) [] m o all is = absurd all
short-at (q ∷ os) (l ∷ ls) zero o all is = subst (λ (x : Object). IsShortIf x.parts l) (same_Some q o is) all.0
short-at (q ∷ os) (l ∷ ls) (suc m) o all is = short-at os ls m o all.1 is

abbrev pub BegunHead : List Object → ConstantLimits → Type 0
BegunHead [] l = ⊤
BegunHead (o ∷ os) l = IsShortIf o.parts l

abbrev pub BegunFor : Option ConstantLimits → List Object → Type 0
BegunFor None os = ⊤
BegunFor (Some l) os = BegunHead os l

abbrev Together : List Object → Type 0
Together os = AllByRecursion (λ x. IsConstantTogether x.0 x.1) (beside_lasts (λ o. o.is_last) os)

goes-on : (o : Object) (os : List Object) (l : ConstantLimits) → IsShortIf o.parts l → o.is_last ≡ false → Together (o ∷ os) → BegunHead os l
goes-on o [] l is last together = tt
goes-on o (q ∷ qs) l is last together =
    let own : option_map (λ c. c.parts) (find (λ c. c.is_last) (q ∷ qs)) ≡ Some o.parts =
    sym (ap (λ b. option_map (λ c. c.parts) (cond b (Some o) (find (λ c. c.is_last) (q ∷ qs)))) last) ∙ together.0 in
    let same : q.parts ≡ o.parts = same_Some q.parts o.parts (sym together.1.0 ∙ own) in
    subst (λ (ps : ObjectParts). IsShortIf ps l) (sym same) is

pub begun-next : (o : Object) (os : List Object) (l : ConstantLimits) (last : Bool) → IsShortIf o.parts l → o.is_last ≡ last → Together (o ∷ os) → BegunFor (cond last None (Some l)) os
begun-next o os l true is last together = tt
begun-next o os l false is last together = goes-on o os l is last together

pub here-short : (files : List Units) (os : List Object) (o : Object) (begun : Option ConstantLimits) (known : List ConstantLimits) → o.«class» ≡ class.Constant → BegunFor begun (o ∷ os) → IsShortIf o.parts (unwrap_or begun (next_limits files known o))
here-short files os o None known is goes = next-short files known o is
here-short files os o (Some l) known is goes = goes

all-shorts : (files : List Units) (os others : List Object) (s : List ConstantLimits × Option ConstantLimits) → AllByRecursion (λ o. o.«class» ≡ class.Constant) others → Together others → Shorts os s.0 → BegunFor s.1 others
    → Shorts (os ++ others) (fold (with_next files) s others).0
all-shorts files os [] s classes together all goes = subst (λ (qs : List Object). Shorts qs s.0) (sym (append-nil os)) all
all-shorts files os (o ∷ others) s classes together all goes =
    let own = unwrap_or s.1 (next_limits files s.0 o) in
    let is : IsShortIf o.parts own = here-short files others o s.1 s.0 classes.0 goes in
    subst (λ (qs : List Object). Shorts qs (fold (with_next files) s (o ∷ others)).0) (append_assoc os (o ∷ []) others)
    (all-shorts files (os ++ o ∷ []) others (with_next files s o) classes.1 together.1 (one-more os s.0 o own all is) (begun-next o others own o.is_last is refl together))

pub package-short : (files : List Units) → AreConstantsTogether files → (n : ℕ) (o : Object) → slice_get (constants_of files) n ≡ Some o → IsShortIf o.parts (limits_at (constant_limits files) n)
package-short files together n o is =
    short-at (constants_of files) (constant_limits files) n o
    (all-shorts files [] (constants_of files) ([], None) (constants-are files) (alike-beside (λ c. c.is_last) (λ c. c.parts) (constants_of files) together) tt tt) is
