-- The cells of a library, listed entity by entity.
use Rattle.std.proofs.Common.{◌≡◌, ℕ, zero, suc, ◌+◌, ◌<◌, List, [], ◌∷◌, ◌++◌, length, take, drop, map, get_or, slice_get, Some, None, refl, sym, ap, ◌∙◌, add-one, append-nil, append_assoc, arith}
use Rattle.std.specs.Prelude.{Option}
use Rattle.std.specs.List.{flat_map}
use Rattle.std.specs.Option.{option_map_or}
use Rattle.std.proofs.lemmas.List.{map-append, take_more}
use Rattle.std.proofs.lemmas.Option.{slice_get_within, get_or_from_slice_get}
use Rattle.vital_library.specs.Units.{archs_of, archs_of_entity, entities}
use Rattle.vital_nodes.specs.declared.unit.Arch.{Arch}
use Rattle.vital_nodes.specs.declared.unit.Entity.{Entity}
use Rattle.vital_nodes.specs.declared.unit.Units.{Units}
use Rattle.vital_answers.specs.Cells.{cell_with, cells_of, cells_with}

more_of : {A B : Type 0} (g : A → List B) (xs : List A) (i : ℕ) → i < length xs → flat_map g (take (suc i) xs) ≡ flat_map g (take i xs) ++ option_map_or g (slice_get xs i) []
more_of g [] i lt = absurd (omega (arith, lt))
more_of g (x ∷ xs) zero lt = append-nil (g x)
more_of g (x ∷ xs) (suc i) lt =
    ap (λ others. g x ++ others) (more_of g xs i (omega (arith, lt))) ∙ sym (append_assoc (g x) (flat_map g (take i xs)) (option_map_or g (slice_get xs i) []))

-- the cells of one entity more
pub one_entity : (files : List Units) (es : List Entity) (i : ℕ) → i < length es
    → flat_map (cells_of files) (take (i + 1) es) ≡ flat_map (cells_of files) (take i es) ++ option_map_or (cells_of files) (slice_get es i) []
one_entity files es i lt = rw (add-one i) (more_of (cells_of files) es i lt)

-- one thing more, seen as what is made of the next of some others
pub one_more : {A B C : Type 0} (see : A → C) (make : B → C) (old now new : List A) (x : A) (bs : List B) (i : ℕ) (b : B) → new ≡ now ++ x ∷ [] → map see now ≡ map see old ++ map make (take i bs)
    → slice_get bs i ≡ Some b → see x ≡ make b → map see new ≡ map see old ++ map make (take (i + 1) bs)
one_more see make old now new x bs i b put before at is =
    let next = take_more bs i b (slice_get_within bs i b at) ∙ ap (λ y. take i bs ++ y ∷ []) (get_or_from_slice_get bs i b b at) in
    let made = ap (map make) next ∙ map-append make (take i bs) (b ∷ []) in
    ap (map see) put
    ∙ map-append see now (x ∷ [])
    ∙ ap (λ front. front ++ see x ∷ []) before
    ∙ append_assoc (map see old) (map make (take i bs)) (see x ∷ [])
    ∙ ap (λ y. map see old ++ (map make (take i bs) ++ y ∷ [])) is
    ∙ ap (λ others. map see old ++ others) (sym made)

with_none : (files : List Units) (e : Entity) (archs : List Arch) → length archs ≡ 0 → cells_with files e archs ≡ record { files = files; entity = e; arch = None } ∷ []
with_none files e [] none = refl
with_none files e (a ∷ as') none = absurd (omega (arith, none))

with_some : (files : List Units) (e : Entity) (archs : List Arch) → (length archs ≡ 0 → ⊥) → cells_with files e archs ≡ map (cell_with files e) archs
with_some files e [] some = absurd (some refl)
with_some files e (a ∷ as') some = refl

archs_are : (files : List Units) (number : ℕ) (e : Entity) → slice_get (entities files) number ≡ Some e → archs_of_entity number files ≡ archs_of e.identifier.name files
archs_are files number e at = ap (λ (o : Option Entity). option_map_or (λ x. archs_of x.identifier.name files) o []) at

cells_are : (files : List Units) (number : ℕ) (e : Entity) → slice_get (entities files) number ≡ Some e
    → option_map_or (cells_of files) (slice_get (entities files) number) [] ≡ cells_with files e (archs_of_entity number files)
cells_are files number e at =
    ap (λ (o : Option Entity). option_map_or (cells_of files) o []) at ∙ ap (cells_with files e) (sym (archs_are files number e at))

-- the cells of an entity without architectures
pub cells_none : (files : List Units) (number : ℕ) (e : Entity) → slice_get (entities files) number ≡ Some e → length (archs_of_entity number files) ≡ 0
    → option_map_or (cells_of files) (slice_get (entities files) number) [] ≡ record { files = files; entity = e; arch = None } ∷ []
cells_none files number e at none = cells_are files number e at ∙ with_none files e (archs_of_entity number files) none

-- and with some
pub cells_some : (files : List Units) (number : ℕ) (e : Entity) → slice_get (entities files) number ≡ Some e → (length (archs_of_entity number files) ≡ 0 → ⊥)
    → option_map_or (cells_of files) (slice_get (entities files) number) [] ≡ map (cell_with files e) (archs_of_entity number files)
cells_some files number e at some = cells_are files number e at ∙ with_some files e (archs_of_entity number files) some

-- one more of a list
pub next : {A B : Type 0} (see : A → B) (xs : List A) (i : ℕ) (x : A) → i < length xs → x ≡ get_or xs i x → map see (take (i + 1) xs) ≡ map see (take i xs) ++ see x ∷ []
next see xs i x lt is = ap (map see) (take_more xs i x lt ∙ ap (λ y. take i xs ++ y ∷ []) (sym is)) ∙ map-append see (take i xs) (x ∷ [])

parts : {A B : Type 0} (see : A → B) (xs : List A) (i : ℕ) (x : A) → i < length xs → x ≡ get_or xs i x → map see xs ≡ map see (take i xs) ++ see x ∷ map see (drop (suc i) xs)
parts see [] i x lt is = absurd (omega (arith, lt))
parts see (y ∷ ys) zero x lt is = ap (λ z. see z ∷ map see ys) (sym is)
parts see (y ∷ ys) (suc i) x lt is = ap (λ others. see y ∷ others) (parts see ys i x (omega (arith, lt)) is)

-- a list in three parts
pub parted : {A B : Type 0} (see : A → B) (xs : List A) (i : ℕ) (x : A) → i < length xs → x ≡ get_or xs i x → map see xs ≡ map see (take i xs) ++ see x ∷ map see (drop (i + 1) xs)
parted see xs i x lt is = rw (add-one i) (parts see xs i x lt is)
