-- What entries make, one after the other.
use Rattle.std.proofs.Common.{◌≡◌, ℕ, zero, suc, ◌+◌, ◌<◌, true, false, List, [], ◌∷◌, ◌++◌, length, map, take, drop, get_or, refl, sym, ◌∙◌, ap, subst, arith}
use Rattle.std.specs.Prelude.{Bool, cond, Option, Some, None, Result, Ok, Err, slice_get}
use Rattle.std.specs.Option.{option_map, option_map_or}
use Rattle.std.proofs.lemmas.List.{take_all, take_more}
use Rattle.vital_annotate.specs.Annotations.{Annotated, Outcome, annotated, annotated_instances, change_instances, each, file_entered, generics_at, noted, onward, put_delay, timed, with_changed}
use Rattle.vital_annotate.specs.Delays.{Changed}
use Rattle.vital_annotate.specs.Generics.{generic_of}
use Rattle.vital_annotate.specs.Instances.{CellInstance, cell_instances}
use Rattle.vital_annotate.specs.Names.{Change}
use Rattle.vital_annotate.specs.NewDelays.{IsNewDelay}
use Rattle.vital_annotate.specs.Outcomes.{IsAnswer, IsOutcome}
use Rattle.vital_annotate.specs.declared.annotating.Annotated.{Annotated as Annotated'}
use Rattle.vital_annotate.specs.declared.annotate_error.AnnotateError.{AnnotateError}
use Rattle.vital_annotate.specs.declared.annotate_error.AnnotateError.TheVariants.{Limit, NoMemory}
use Rattle.vital_annotate.specs.declared.delays.NewDelay.{NewDelay}
use Rattle.vital_annotate.specs.declared.how.How.{How}
use Rattle.vital_annotate.specs.declared.note.NoteWhy.TheVariants as why
use Rattle.vital_base.specs.declared.place.Place.{Place}
use Rattle.vital_base.specs.declared.corner.Corner.{Corner}
use Rattle.vital_netlist.specs.Designs.{Design}
use Rattle.vital_sdf.specs.declared.entry.Triple.{Triple}
use Rattle.vital_sdf.specs.declared.group.SdfFile.{SdfFile}
use Rattle.vital_typed_cells.specs.Answers.{default_values}
use Rattle.vital_timing.specs.declared.delay.Delay.{Delay}
use Rattle.vital_typed_cells.specs.declared.typed_cell.TypedCell.{TypedCell}

-- ---- a single step
pub no_memory : (o : Outcome) (new : Annotated) (e : AnnotateError) → e ≡ NoMemory → IsOutcome o (Err e) new
no_memory o new e is = record { done = tt; limit = λ place h. absurd (cc) }

pub made : (o : Outcome) (new : Annotated) → o ≡ Ok new → IsOutcome o (Ok tt) new
made o new h = record { done = h; limit = λ place e. absurd (cc) }

pub limited : (o : Outcome) (new : Annotated) (at : Place) → o ≡ Err at → IsOutcome o (Err (Limit at)) new
limited o new at h = record { done = tt; limit = λ place e. let same : at ≡ place = cc in h ∙ ap Err same }

pub other : (o p : Outcome) (r : Result (Unit {0}) AnnotateError) (new : Annotated) → p ≡ o → IsOutcome p r new → IsOutcome o r new
other o p r new same h = subst (λ q. IsOutcome q r new) same h

-- ---- a new delay
changed-large : (how : How) (i n : ℕ) (c : Changed) (a : Annotated) → c.is_large ≡ true → with_changed how i n c a ≡ Err how.place
changed-large how i n c a large = ap (λ b. cond b (Err how.place) (cond c.is_negative (Ok (noted how.place why.Negative (put_delay i n c.delay a))) (Ok (put_delay i n c.delay a)))) large

changed-small : (how : How) (i n : ℕ) (c : Changed) (a : Annotated) (b : Bool) → c.is_large ≡ false → c.is_negative ≡ b → with_changed how i n c a ≡ cond b (Ok (noted how.place why.Negative (put_delay i n c.delay a))) (Ok (put_delay i n c.delay a))
changed-small how i n c a b large negative =
    ap (λ b. cond b (Err how.place) (cond c.is_negative (Ok (noted how.place why.Negative (put_delay i n c.delay a))) (Ok (put_delay i n c.delay a)))) large
    ∙ ap (λ b. cond b (Ok (noted how.place why.Negative (put_delay i n c.delay a))) (Ok (put_delay i n c.delay a))) negative

pub new-large : (how : How) (i n : ℕ) (c : Changed) (a new : Annotated) (d : NewDelay) → IsNewDelay c d → d.is_large ≡ true → IsOutcome (with_changed how i n c a) (Err (Limit how.place)) new
new-large how i n c a new d h large = limited _ new how.place (changed-large how i n c a (sym h.large ∙ large))

pub new-plain : (how : How) (i n : ℕ) (c : Changed) (a new : Annotated) (d : NewDelay) → IsNewDelay c d → d.is_large ≡ false → d.is_negative ≡ false → new ≡ put_delay i n d.delay a → IsOutcome (with_changed how i n c a) (Ok tt) new
new-plain how i n c a new d h large negative is =
    made _ new (changed-small how i n c a false (sym h.large ∙ large) (sym h.negative ∙ negative) ∙ ap (λ x. Ok (put_delay i n x a)) (sym (h.delay large)) ∙ ap Ok (sym is))

pub new-negative : (how : How) (i n : ℕ) (c : Changed) (a b new : Annotated) (d : NewDelay) → IsNewDelay c d → d.is_large ≡ false → d.is_negative ≡ true → b ≡ put_delay i n d.delay a → new ≡ noted how.place why.Negative b → IsOutcome (with_changed how i n c a) (Ok tt) new
new-negative how i n c a b new d h large negative put is =
    made _ new
    (changed-small how i n c a true (sym h.large ∙ large) (sym h.negative ∙ negative)
    ∙ ap (λ x. Ok (noted how.place why.Negative (put_delay i n x a))) (sym (h.delay large))
    ∙ ap (λ x. Ok (noted how.place why.Negative x)) (sym put)
    ∙ ap Ok (sym is))

-- ---- the generics of an instance
pub no_generics : (names : List (List ℕ)) → generic_of [] names ≡ None
no_generics [] = refl
no_generics (n ∷ ns) = no_generics ns

pub generics-some : (is : List CellInstance) (i : ℕ) (cell : TypedCell) → Some cell ≡ option_map (λ (x : CellInstance). x.cell) (slice_get is i) → generics_at is i ≡ cell.generics
generics-some is i cell h = step (slice_get is i) h
  where
    step : (o : Option CellInstance) → Some cell ≡ option_map (λ (x : CellInstance). x.cell) o → option_map_or (λ (x : CellInstance). x.cell.generics) o [] ≡ cell.generics
    step None e = absurd (cc)
    step (Some x) e =
        let same : x.cell ≡ cell = cc in
        ap (λ (t : TypedCell). t.generics) same

pub generics-none : (is : List CellInstance) (i : ℕ) → None ≡ option_map (λ (x : CellInstance). x.cell) (slice_get is i) → generics_at is i ≡ []
generics-none is i h = step (slice_get is i) h
  where
    step : (o : Option CellInstance) → None ≡ option_map (λ (x : CellInstance). x.cell) o → option_map_or (λ (x : CellInstance). x.cell.generics) o [] ≡ []
    step None e = refl
    step (Some x) e = absurd (cc)

-- ---- one after the other
onward-ok : (o : Outcome) → onward o Ok ≡ o
onward-ok (Ok a) = refl
onward-ok (Err place) = refl

onward-onward : (o : Outcome) (f g : Annotated → Outcome) → onward (onward o f) g ≡ onward o (λ a. onward (f a) g)
onward-onward (Ok a) f g = refl
onward-onward (Err place) f g = refl

each-ok : {A : Type 0} (step : A → Annotated → Outcome) (xs : List A) (x : A) (a b : Annotated) → each step xs a ≡ Ok b → each step (xs ++ x ∷ []) a ≡ step x b
each-ok step [] x a b h = onward-ok (step x a) ∙ ap (λ o. onward o (step x)) h
each-ok step (y ∷ ys) x a b h = first (step y a) h (λ c e. each-ok step ys x c b e)
  where
    first : (o : Outcome) → onward o (each step ys) ≡ Ok b → ((c : Annotated) → each step ys c ≡ Ok b → each step (ys ++ x ∷ []) c ≡ step x b) → onward o (each step (ys ++ x ∷ [])) ≡ step x b
    first (Ok c) e rest = rest c e
    first (Err place) e rest = absurd (cc)

each-err : {A : Type 0} (step : A → Annotated → Outcome) (xs ys : List A) (a : Annotated) (place : Place) → each step xs a ≡ Err place → each step (xs ++ ys) a ≡ Err place
each-err step [] ys a place h = absurd (cc)
each-err step (x ∷ xs) ys a place h = first (step x a) h (λ c e. each-err step xs ys c place e)
  where
    first : (o : Outcome) → onward o (each step xs) ≡ Err place → ((c : Annotated) → each step xs c ≡ Err place → each step (xs ++ ys) c ≡ Err place) → onward o (each step (xs ++ ys)) ≡ Err place
    first (Ok c) e rest = rest c e
    first (Err other) e rest = e

pub go-on : {A : Type 0} (step : A → Annotated → Outcome) (xs : List A) (i : ℕ) (d : A) (a b c : Annotated) → i < length xs → each step (take i xs) a ≡ Ok b → step (get_or xs i d) b ≡ Ok c → each step (take (i + 1) xs) a ≡ Ok c
go-on step xs i d a b c inside before here =
    ap (λ ys. each step ys a) (take_more xs i d inside) ∙ each-ok step (take i xs) (get_or xs i d) a b before ∙ here

split : {A : Type 0} (xs : List A) (i : ℕ) → take i xs ++ drop i xs ≡ xs
split [] zero = refl
split [] (suc i) = refl
split (x ∷ xs) zero = refl
split (x ∷ xs) (suc i) = ap (λ l. x ∷ l) (split xs i)

pub stopped : {A : Type 0} (step : A → Annotated → Outcome) (xs : List A) (i : ℕ) (d : A) (a b c : Annotated) (e : AnnotateError) → i < length xs → each step (take i xs) a ≡ Ok b → IsOutcome (step (get_or xs i d) b) (Err e) c → IsOutcome (each step xs a) (Err e) c
stopped step xs i d a b c e inside before here = record {
  done = tt;
  limit = λ place h.
      ap (λ ys. each step ys a) (sym (split xs (i + 1)))
      ∙ each-err step (take (i + 1) xs) (drop (i + 1) xs) a place
      (ap (λ ys. each step ys a) (take_more xs i d inside) ∙ each-ok step (take i xs) (get_or xs i d) a b before ∙ here.limit place h);
}

pub all-made : {A : Type 0} (step : A → Annotated → Outcome) (xs : List A) (i : ℕ) (a b : Annotated) → length xs ≡ i → each step (take i xs) a ≡ Ok b → IsOutcome (each step xs a) (Ok tt) b
all-made step xs i a b all h = made _ b (ap (λ ys. each step ys a) (sym (take_all i xs (omega (arith, all)))) ∙ h)

pub one : {A : Type 0} (step : A → Annotated → Outcome) (x y : A) (a new : Annotated) (r : Result (Unit {0}) AnnotateError) → x ≡ y → IsOutcome (step x a) r new → IsOutcome (each step (y ∷ []) a) r new
one step x y a new r same h = other _ _ r new (sym (onward-ok (step x a)) ∙ ap (λ z. each step (z ∷ []) a) same) h

pub first-stopped : {A : Type 0} (step : A → Annotated → Outcome) (x y z : A) (a new : Annotated) (e : AnnotateError) → x ≡ y → IsOutcome (step x a) (Err e) new → IsOutcome (each step (y ∷ z ∷ []) a) (Err e) new
first-stopped step x y z a new e same h = record {
  done = tt;
  limit = λ place is. ap (λ w. each step (w ∷ z ∷ []) a) (sym same) ∙ ap (λ o. onward o (each step (z ∷ []))) (h.limit place is);
}

pub two : {A : Type 0} (step : A → Annotated → Outcome) (x y z w : A) (a b new : Annotated) (r : Result (Unit {0}) AnnotateError) → x ≡ y → z ≡ w → step x a ≡ Ok b → IsOutcome (step z b) r new → IsOutcome (each step (y ∷ w ∷ []) a) r new
two step x y z w a b new r same same' first h =
    other _ _ r new
    (ap (λ o. onward o (each step (z ∷ []))) (sym first) ∙ ap (λ v. each step (v ∷ z ∷ []) a) same ∙ ap (λ v. each step (y ∷ v ∷ []) a) same')
    (one step z z b new r refl h)

pub named : (first second : List (List ℕ)) (values given : List Triple) → first ≡ second → given ≡ values → (let c : Change = record { names = first; values = given } in c) ≡ record { names = second; values = values }
named first second values given same same' = cc

pub timed-some : (is : List CellInstance) (how : How) (cs : List Change) (ns : List ℕ) (a : Annotated) → 0 < length ns → each (change_instances is how ns) cs a ≡ timed is how cs ns a
timed-some is how cs [] a some = absurd (omega arith)
timed-some is how cs (n ∷ ns) a some = refl

pub go-on_at : {A : Type 0} (step : A → Annotated → Outcome) (xs : List A) (i : ℕ) (x : A) (a b c : Annotated) → i < length xs → x ≡ get_or xs i x → each step (take i xs) a ≡ Ok b → step x b ≡ Ok c → each step (take (i + 1) xs) a ≡ Ok c
go-on_at step xs i x a b c inside is before here = go-on step xs i x a b c inside before (ap (λ y. step y b) (sym is) ∙ here)

pub stopped_at : {A : Type 0} (step : A → Annotated → Outcome) (xs : List A) (i : ℕ) (x : A) (a b c : Annotated) (e : AnnotateError) → i < length xs → x ≡ get_or xs i x → each step (take i xs) a ≡ Ok b → IsOutcome (step x b) (Err e) c → IsOutcome (each step xs a) (Err e) c
stopped_at step xs i x a b c e inside is before here = stopped step xs i x a b c e inside before (other _ _ (Err e) c (ap (λ y. step y b) is) here)

-- ---- what is answered
pub no_answer : (o : Outcome) (e : AnnotateError) → e ≡ NoMemory → IsAnswer o (Err e)
no_answer o e is = record { made = tt; limit = λ place h. absurd (cc) }

pub refused : (o : Outcome) (e : AnnotateError) (new : Annotated) → IsOutcome o (Err e) new → IsAnswer o (Err e)
refused o e new h = record { made = tt; limit = λ place is. let f : (let r : Result (Unit {0}) AnnotateError = Err e in r) ≡ Err (Limit place) = cc in h.limit place f }

pub answered : (is : List CellInstance) (c : Corner) (files : List SdfFile) (start new : Annotated) (defaults : List (List Delay)) (a : Annotated') → start ≡ record { values = defaults; notes = [] } → defaults ≡ map (λ (i : CellInstance). default_values i.cell) is → each (file_entered is c) files start ≡ Ok new → a.values ≡ new.values → a.notes ≡ new.notes → IsAnswer (annotated_instances is c files) (Ok a)
answered is c files start new defaults a begins are made values notes = record {
  made =
      ap (λ vs. each (file_entered is c) files (record { values = vs; notes = [] })) (sym are)
      ∙ ap (each (file_entered is c) files) (sym begins)
      ∙ made
      ∙ ap (λ vs. Ok (record { values = vs; notes = new.notes })) (sym values)
      ∙ ap (λ ns. Ok (record { values = a.values; notes = ns })) (sym notes);
  limit = λ place h. absurd (cc);
}

pub whole_answer : (d : Design) (c : Corner) (files given : List SdfFile) (is : List CellInstance) (r : Result Annotated' AnnotateError) → is ≡ cell_instances d → given ≡ files → IsAnswer (annotated_instances is c given) r → IsAnswer (annotated d c files) r
unfolding annotated
whole_answer d c files given is r are same h = subst (λ x. IsAnswer (annotated_instances x c files) r) are (subst (λ fs. IsAnswer (annotated_instances is c fs) r) same h)
