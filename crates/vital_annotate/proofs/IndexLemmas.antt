-- Generics by their names, and instances of cells, as they are gathered.
use Rattle.std.proofs.Common.{◌≡◌, ℕ, zero, suc, ◌+◌, ◌<◌, true, false, List, [], ◌∷◌, ◌++◌, length, map, take, get_or, refl, sym, ◌∙◌, ap, arith}
use Rattle.std.specs.Prelude.{Bool, cond, Option, Some, None}
use Rattle.std.specs.List.{cons_option, enumerate_from, filter_map}
use Rattle.std.specs.Option.{option_or, option_to_list}
use Rattle.std.specs.Str.{bytes_eq}
use Rattle.std.proofs.lemmas.List.{length-map, length-take-le, map_more, take_more}
use Rattle.vital_objects.specs.declared.generic.TimingGeneric.{TimingGeneric}
use Rattle.vital_annotate.specs.Generics.{number_named}
use Rattle.vital_annotate.specs.Numbers.{first_number, numbers_where}
use Rattle.vital_annotate.proofs.PathKeyLemmas.{from-more}

-- ---- generics
first-more : (ns : List ℕ) (b : Bool) (n : ℕ) → first_number (ns ++ cond b (n ∷ []) []) ≡ option_or (first_number ns) (cond b (Some n) None)
first-more [] true n = refl
first-more [] false n = refl
first-more (m ∷ ns) b n = refl

pub generics-more : (gs : List TimingGeneric) (i : ℕ) (g : TimingGeneric) (name : List ℕ) (old new : Option ℕ) (text : List ℕ) → i < length gs → g ≡ get_or gs i g → text ≡ g.name → old ≡ number_named (take i gs) name → new ≡ option_or old (cond (bytes_eq text name) (Some i) None) → new ≡ number_named (take (i + 1) gs) name
generics-more gs i g name old new text inside is same before more =
    let counted : 0 + length (take i gs) ≡ i = omega (arith, length-take-le i gs (omega arith)) in
    more
    ∙ ap (λ o. option_or o (cond (bytes_eq text name) (Some i) None)) before
    ∙ ap (λ t. option_or (number_named (take i gs) name) (cond (bytes_eq t name) (Some i) None)) same
    ∙ ap (λ n. option_or (number_named (take i gs) name) (cond (bytes_eq g.name name) (Some n) None)) (sym counted)
    ∙ sym (first-more (numbers_where (λ h. bytes_eq h.name name) (take i gs)) (bytes_eq g.name name) (0 + length (take i gs)))
    ∙ ap first_number (sym (from-more (λ h. bytes_eq h.name name) 0 (take i gs) g))
    ∙ ap (λ l. number_named l name) (sym (take_more gs i g inside ∙ ap (λ y. take i gs ++ y ∷ []) (sym is)))

-- ---- instances
one-found : {A B : Type 0} (f : ℕ × A → Option B) (n : ℕ) (x : A) → filter_map f ((n, x) ∷ []) ≡ option_to_list (f (n, x))
one-found f n x = step (f (n, x))
  where
    step : {B : Type 0} (o : Option B) → cons_option o [] ≡ option_to_list o
    step None = refl
    step (Some y) = refl

found-from : {A B : Type 0} (f : ℕ × A → Option B) (n : ℕ) (xs : List A) (x : A) → filter_map f (enumerate_from n (xs ++ x ∷ [])) ≡ filter_map f (enumerate_from n xs) ++ option_to_list (f (n + length xs, x))
found-from f n [] x =
    let same : n ≡ n + 0 = omega arith in
    one-found f n x ∙ ap (λ m. option_to_list (f (m, x))) same
found-from {A} {B} f n (y ∷ ys) x = step (f (n, y)) (found-from f (n + 1) ys x ∙ ap (λ m. filter_map f (enumerate_from (n + 1) ys) ++ option_to_list (f (m, x))) counted)
  where
    counted : (n + 1) + length ys ≡ n + suc (length ys)
    counted = omega arith

    step : (o : Option B) → filter_map f (enumerate_from (n + 1) (ys ++ x ∷ [])) ≡ filter_map f (enumerate_from (n + 1) ys) ++ option_to_list (f (n + suc (length ys), x)) → cons_option o (filter_map f (enumerate_from (n + 1) (ys ++ x ∷ []))) ≡ cons_option o (filter_map f (enumerate_from (n + 1) ys)) ++ option_to_list (f (n + suc (length ys), x))
    step None e = e
    step (Some z) e = ap (λ l. z ∷ l) e

pub found-more : {A B C : Type 0} (f : ℕ × B → Option C) (g : A → B) (xs : List A) (i : ℕ) (d : A) (old new : List C) → i < length xs → old ≡ filter_map f (enumerate_from 0 (map g (take i xs))) → new ≡ old ++ option_to_list (f (i, g (get_or xs i d))) → new ≡ filter_map f (enumerate_from 0 (map g (take (i + 1) xs)))
found-more f g xs i d old new inside before more =
    let counted : 0 + length (map g (take i xs)) ≡ i = omega (arith, length-map (take i xs) g, length-take-le i xs (omega arith)) in
    more
    ∙ ap (λ l. l ++ option_to_list (f (i, g (get_or xs i d)))) before
    ∙ ap (λ n. filter_map f (enumerate_from 0 (map g (take i xs))) ++ option_to_list (f (n, g (get_or xs i d)))) (sym counted)
    ∙ sym (found-from f 0 (map g (take i xs)) (g (get_or xs i d)))
    ∙ ap (λ l. filter_map f (enumerate_from 0 l)) (sym (map_more g xs i d inside))

pub item-is : {A : Type 0} (xs : List A) (i : ℕ) (d : A) → i < length xs → get_or xs i d ≡ get_or xs i (get_or xs i d)
item-is [] i d inside = absurd (omega arith)
item-is (x ∷ xs) zero d inside = refl
item-is (x ∷ xs) (suc i) d inside = item-is xs i d (omega arith)
