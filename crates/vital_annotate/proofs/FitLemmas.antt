-- Delays that fit go on to fit.
use Rattle.std.proofs.Common.{◌≡◌, ℕ, zero, suc, ◌+◌, ◌<◌, true, false, List, [], ◌∷◌, ◌++◌, length, map, take, get_or, refl, sym, ◌∙◌, ap, subst, arith}
use Rattle.std.specs.Prelude.{ℤ, ◌^◌, ◌&&◌, ◌||◌, Bool, cond, nat_lt, nat_le, Option, Some, None, Ok, Err, slice_set, slice_index_or}
use Rattle.std.specs.List.{AllZip, list_any}
use Rattle.std.specs.declared.alloc.Global.{Global}
use Rattle.std.specs.declared.vec.Vec.{Vec}
use Rattle.std.proofs.lemmas.Bool.Decides.{nat_tests}
use Rattle.std.proofs.lemmas.List.{map-append, map_more, take_more}
use Rattle.vital_annotate.specs.Annotations.{Annotated, Outcome, change_generic, change_instance, change_instances, delay_at, each, entered, file_entered, generics_at, group_entered, labels_of, noted, onward, put_delay, timed, with_delay}
use Rattle.vital_annotate.specs.Delays.{at_least_zero, by_changes, changed, picked, results, times_of, with_times, with_value}
use Rattle.vital_annotate.specs.Generics.{generic_of}
use Rattle.vital_annotate.specs.Indexes.{found}
use Rattle.vital_annotate.specs.Instances.{CellInstance, meant}
use Rattle.vital_annotate.specs.Names.{Change, changes}
use Rattle.vital_annotate.specs.declared.how.How.{How}
use Rattle.vital_annotate.specs.declared.note.NoteWhy.TheVariants as why
use Rattle.vital_annotate.specs.declared.target.Target.{Target}
use Rattle.vital_annotate.proofs.DelayLemmas.{is_above, none-first, none-rest, results-of, results-spread, value}
use Rattle.vital_base.specs.declared.corner.Corner.{Corner}
use Rattle.vital_base.specs.declared.place.Place.{Place}
use Rattle.vital_netlist.specs.Designs.{Design}
use Rattle.vital_objects.specs.declared.generic.TimingGeneric.{TimingGeneric}
use Rattle.vital_operands.specs.Named.{same_type}
use Rattle.vital_sdf.specs.declared.entry.EntryKind.{EntryKind}
use Rattle.vital_sdf.specs.declared.entry.EntryKind.TheVariants as entry
use Rattle.vital_sdf.specs.declared.entry.Mode.{Mode}
use Rattle.vital_sdf.specs.declared.entry.Triple.{Triple}
use Rattle.vital_sdf.specs.declared.group.Group.{Group}
use Rattle.vital_sdf.specs.declared.group.SdfFile.{SdfFile}
use Rattle.vital_timing.specs.Delays.{type_of}
use Rattle.vital_timing.specs.declared.delay.Delay.{Delay}
use Rattle.vital_timing.specs.declared.delay.Delay.TheVariants as delay
use Rattle.vital_typed_cells.specs.Fits.{FitsCell, IsDelayOf}
use Rattle.vital_typed_cells.specs.Times.{are_short, is_short}

-- ---- a new delay is of the type of the old one, and short where it is not large
below : (n : ℕ) → nat_lt (2 ^ 50) n ≡ false → nat_le n (2 ^ 50) ≡ true
below n h = grind (arith, nat_tests)

both : (a b : Bool) → a ≡ true → b ≡ true → (a && b) ≡ true
both true b h k = k
both false b h k = absurd (cc)

same-type : (d : Delay) (ts : List ℕ) → type_of (with_times d ts) ≡ type_of d
same-type (delay.One t) [] = refl
same-type (delay.One t) (a ∷ ts) = refl
same-type (delay.Two t u) [] = refl
same-type (delay.Two t u) (a ∷ []) = refl
same-type (delay.Two t u) (a ∷ b ∷ ts) = refl
same-type (delay.Six t u v w x y) [] = refl
same-type (delay.Six t u v w x y) (a ∷ []) = refl
same-type (delay.Six t u v w x y) (a ∷ b ∷ []) = refl
same-type (delay.Six t u v w x y) (a ∷ b ∷ c ∷ []) = refl
same-type (delay.Six t u v w x y) (a ∷ b ∷ c ∷ d ∷ []) = refl
same-type (delay.Six t u v w x y) (a ∷ b ∷ c ∷ d ∷ e ∷ []) = refl
same-type (delay.Six t u v w x y) (a ∷ b ∷ c ∷ d ∷ e ∷ f ∷ ts) = refl

short-first : (z : ℤ) (rest : Bool) → (is_above z || rest) ≡ false → is_short (at_least_zero z) ≡ true
short-first z rest h = below (at_least_zero z) (none-first (is_above z) rest h)

short-six : (a b c d e f : ℤ) → list_any is_above (a ∷ b ∷ c ∷ d ∷ e ∷ f ∷ []) ≡ false → are_short (delay.Six (at_least_zero a) (at_least_zero b) (at_least_zero c) (at_least_zero d) (at_least_zero e) (at_least_zero f)) ≡ true
short-six a b c d e f h0 =
    let h1 = none-rest (is_above a) _ h0 in
    let h2 = none-rest (is_above b) _ h1 in
    let h3 = none-rest (is_above c) _ h2 in
    let h4 = none-rest (is_above d) _ h3 in
    let h5 = none-rest (is_above e) _ h4 in
    both _ _ (both _ _ (both _ _ (both _ _ (both _ _ (short-first a _ h0) (short-first b _ h1)) (short-first c _ h2)) (short-first d _ h3)) (short-first e _ h4)) (short-first f _ h5)

short-two : (a b : ℤ) → list_any is_above (a ∷ b ∷ []) ≡ false → are_short (delay.Two (at_least_zero a) (at_least_zero b)) ≡ true
short-two a b h = both _ _ (short-first a _ h) (short-first b _ (none-rest (is_above a) _ h))

short-of : (m : Mode) (d : Delay) (u v w x y z : Option ℤ) → list_any is_above (results-of m (times_of d) (u ∷ v ∷ w ∷ x ∷ y ∷ z ∷ [])) ≡ false → are_short (with_times d (map at_least_zero (results-of m (times_of d) (u ∷ v ∷ w ∷ x ∷ y ∷ z ∷ [])))) ≡ true
short-of m (delay.One t) u v w x y z h = short-first (with_value m u t) false h
short-of m (delay.Two t s) u v w x y z h = short-two (with_value m u t) (with_value m v s) h
short-of m (delay.Six t s r q p o) u v w x y z h =
    short-six (with_value m u t) (with_value m v s) (with_value m w r) (with_value m x q) (with_value m y p) (with_value m z o) h

short-new : (c : Corner) (m : Mode) (values : List Triple) (d : Delay) → list_any is_above (results c m values d) ≡ false → are_short (with_times d (map at_least_zero (results c m values d))) ≡ true
short-new c m values d h =
    let vs = by_changes (map (picked c) values) in
    let spread = results-spread c m values d vs refl in
    ap (λ zs. are_short (with_times d (map at_least_zero zs))) spread
    ∙ short-of m d (value vs 0) (value vs 1) (value vs 2) (value vs 3) (value vs 4) (value vs 5) (ap (list_any is_above) (sym spread) ∙ h)

new-fits : (c : Corner) (m : Mode) (values : List Triple) (d : Delay) (g : TimingGeneric) → (changed c m values d).is_large ≡ false → IsDelayOf g d → IsDelayOf g (changed c m values d).delay
unfolding changed
new-fits c m values d g large h = record {
  typed = ap (same_type (type_of g.default)) (same-type d _) ∙ h.typed;
  short = short-new c m values d large;
}

-- ---- a delay in its place
abbrev pub Fits : List CellInstance → Annotated → Type 0
Fits is a = AllZip (λ (i : CellInstance) delays. FitsCell i.cell delays) is a.values

row-fits : (gs : List TimingGeneric) (row : List Delay) (n : ℕ) (new : Delay) → AllZip IsDelayOf gs row → ((g : TimingGeneric) → IsDelayOf g (slice_index_or row n (delay.One 0)) → IsDelayOf g new) → AllZip IsDelayOf gs (slice_set row n new)
row-fits [] [] n new h k = tt
row-fits [] (d ∷ row) n new h k = absurd h
row-fits (g ∷ gs) [] n new h k = absurd h
row-fits (g ∷ gs) (d ∷ row) zero new h k = (k g h.0, h.1)
row-fits (g ∷ gs) (d ∷ row) (suc n) new h k = (h.0, row-fits gs row n new h.1 k)

all-fit : (is : List CellInstance) (vs : List (List Delay)) (i n : ℕ) (new : Delay) → AllZip (λ (x : CellInstance) delays. FitsCell x.cell delays) is vs → ((g : TimingGeneric) → IsDelayOf g (delay_at vs i n) → IsDelayOf g new) → AllZip (λ (x : CellInstance) delays. FitsCell x.cell delays) is (with_delay i n new vs)
all-fit [] [] i n new h k = tt
all-fit [] (v ∷ vs) i n new h k = absurd h
all-fit (x ∷ is) [] i n new h k = absurd h
all-fit (x ∷ is) (v ∷ vs) zero n new h k = (row-fits x.cell.generics v n new h.0 k, h.1)
all-fit (x ∷ is) (v ∷ vs) (suc i) n new h k = (h.0, all-fit is vs i n new h.1 k)

-- ---- what an entry makes
onward-keeps : (P : Annotated → Type 0) (o : Outcome) (f : Annotated → Outcome) (b : Annotated) → ((c : Annotated) → o ≡ Ok c → P c) → ((c : Annotated) → P c → f c ≡ Ok b → P b) → onward o f ≡ Ok b → P b
onward-keeps P (Ok a) f b first rest h = rest a (first a refl) h
onward-keeps P (Err place) f b first rest h = absurd (cc)

each-keeps : {A : Type 0} (P : Annotated → Type 0) (step : A → Annotated → Outcome) → ((x : A) (a b : Annotated) → P a → step x a ≡ Ok b → P b) → (xs : List A) (a b : Annotated) → P a → each step xs a ≡ Ok b → P b
each-keeps P step keeps [] a b holds h =
    let same : a ≡ b = cc in
    subst P same holds
each-keeps P step keeps (x ∷ xs) a b holds h =
    onward-keeps P (step x a) (each step xs) b (λ c e. keeps x a c holds e) (λ c k e. each-keeps P step keeps xs c b k e) h

made-keeps : (P : Annotated → Type 0) (a b : Annotated) → P a → (let o : Outcome = Ok a in o) ≡ Ok b → P b
made-keeps P a b holds h =
    let same : a ≡ b = cc in
    subst P same holds

choice-keeps : (P : Annotated → Type 0) (large negative : Bool) (place : Place) (x y b : Annotated) → (large ≡ false → P x) → (large ≡ false → P y) → cond large (Err place) (cond negative (Ok x) (Ok y)) ≡ Ok b → P b
choice-keeps P true negative place x y b one two h = absurd (cc)
choice-keeps P false true place x y b one two h = made-keeps P x b (one refl) h
choice-keeps P false false place x y b one two h = made-keeps P y b (two refl) h

generic-keeps : (is : List CellInstance) (how : How) (values : List Triple) (i : ℕ) (number : Option ℕ) (a b : Annotated) → Fits is a → change_generic how values i number a ≡ Ok b → Fits is b
generic-keeps is how values i None a b holds h = made-keeps (Fits is) (noted how.place why.Generic a) b holds h
generic-keeps is how values i (Some n) a b holds h =
    let c = changed how.corner how.mode values (delay_at a.values i n) in
    let put : c.is_large ≡ false → Fits is (put_delay i n c.delay a) = λ small. all-fit is a.values i n c.delay holds (λ g k. new-fits how.corner how.mode values (delay_at a.values i n) g small k) in
    choice-keeps (Fits is) c.is_large c.is_negative how.place (noted how.place why.Negative (put_delay i n c.delay a)) (put_delay i n c.delay a) b put put h

changes-keep : (is : List CellInstance) (how : How) (ns : List ℕ) (cs : List Change) (a b : Annotated) → Fits is a → each (change_instances is how ns) cs a ≡ Ok b → Fits is b
changes-keep is how ns cs a b holds h =
    each-keeps (Fits is) (change_instances is how ns)
    (λ change x y k e. each-keeps (Fits is) (change_instance is how change) (λ i v w l f. generic-keeps is how change.values i (generic_of (generics_at is i) change.names) v w l f) ns x y k e)
    cs a b holds h

timed-keeps : (is : List CellInstance) (how : How) (cs : List Change) (ns : List ℕ) (a b : Annotated) → Fits is a → timed is how cs ns a ≡ Ok b → Fits is b
timed-keeps is how cs [] a b holds h = made-keeps (Fits is) (noted how.place why.Instance a) b holds h
timed-keeps is how cs (n ∷ ns) a b holds h = changes-keep is how (n ∷ ns) cs a b holds h

entry-keeps : (is : List CellInstance) (c : Corner) (group : Group) (place : Place) (kind : EntryKind) (a b : Annotated) → Fits is a → entered is c group place kind a ≡ Ok b → Fits is b
entry-keeps is c group place entry.Passed a b holds h = made-keeps (Fits is) (noted place why.Passed a) b holds h
entry-keeps is c group place entry.NoPort a b holds h = made-keeps (Fits is) (noted place why.Port a) b holds h
entry-keeps is c group place (entry.Timing t) a b holds h =
    timed-keeps is (record { corner = c; place = place; mode = t.mode }) (changes t) (meant is group.cell_type group.instance (labels_of t.kind t.first)) a b holds h

group-keeps : (is : List CellInstance) (c : Corner) (group : Group) (a b : Annotated) → Fits is a → group_entered is c group a ≡ Ok b → Fits is b
group-keeps is c group a b holds h =
    each-keeps (Fits is) (λ e. entered is c group e.place e.kind) (λ e x y k l. entry-keeps is c group e.place e.kind x y k l) group.entries a b holds h

pub annotated-fits : (is : List CellInstance) (c : Corner) (files : List SdfFile) (defaults : List (List Delay)) (b : Annotated) → AllZip (λ (i : CellInstance) delays. FitsCell i.cell delays) is defaults → each (file_entered is c) files (record { values = defaults; notes = [] }) ≡ Ok b → AllZip (λ (i : CellInstance) delays. FitsCell i.cell delays) is b.values
annotated-fits is c files defaults b holds h =
    each-keeps (Fits is) (file_entered is c) (λ file x y k l. each-keeps (Fits is) (group_entered is c) (λ group v w m n. group-keeps is c group v w m n) file.groups x y k l)
    files (record { values = defaults; notes = [] }) b holds h

-- ---- the defaults
zip-push : {A B : Type 0} (R : A → B → Type 0) (xs : List A) (ys : List B) (x : A) (y : B) → AllZip R xs ys → R x y → AllZip R (xs ++ x ∷ []) (ys ++ y ∷ [])
zip-push R [] [] x y h k = (k, tt)
zip-push R [] (b ∷ ys) x y h k = absurd h
zip-push R (a ∷ xs) [] x y h k = absurd h
zip-push R (a ∷ xs) (b ∷ ys) x y h k = (h.0, zip-push R xs ys x y h.1 k)

pub zip-more : {A B : Type 0} (R : A → B → Type 0) (xs : List A) (i : ℕ) (x : A) (ys zs : List B) (y : B) → i < length xs → x ≡ get_or xs i x → AllZip R (take i xs) ys → R x y → zs ≡ ys ++ y ∷ [] → AllZip R (take (i + 1) xs) zs
zip-more R xs i x ys zs y inside is before here more =
    subst (AllZip R (take (i + 1) xs)) (sym more)
    (subst (λ l. AllZip R l (ys ++ y ∷ [])) (sym (take_more xs i x inside ∙ ap (λ z. take i xs ++ z ∷ []) (sym is))) (zip-push R (take i xs) ys x y before here))

pub defaults-fit : (d : Design) (ts : List Target) (vs : List (Vec Delay Global)) → AllZip (λ (t : Target) (v : Vec Delay Global). FitsCell t.cell.now v.items) ts vs → AllZip (λ (i : CellInstance) delays. FitsCell i.cell delays) (map (found d) ts) (map (λ (v : Vec Delay Global). v.items) vs)
defaults-fit d [] [] h = tt
defaults-fit d [] (v ∷ vs) h = absurd h
defaults-fit d (t ∷ ts) [] h = absurd h
defaults-fit d (t ∷ ts) (v ∷ vs) h = (h.0, defaults-fit d ts vs h.1)

pub map-both : {A B C : Type 0} (f : B → C) (g : A → C) (xs : List A) (i : ℕ) (x : A) (ys zs : List B) (y : B) → i < length xs → x ≡ get_or xs i x → map f ys ≡ map g (take i xs) → f y ≡ g x → zs ≡ ys ++ y ∷ [] → map f zs ≡ map g (take (i + 1) xs)
map-both f g xs i x ys zs y inside is before here more =
    ap (map f) more
    ∙ map-append f ys (y ∷ [])
    ∙ ap (λ l. l ++ f y ∷ []) before
    ∙ ap (λ z. map g (take i xs) ++ z ∷ []) here
    ∙ sym (map_more g xs i x inside ∙ ap (λ w. map g (take i xs) ++ g w ∷ []) (sym is))
