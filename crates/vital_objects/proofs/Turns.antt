-- One turn of a loop that goes over declarations from the last to the first, and keeps the value behind the last of those that are declared
-- together. The declarations are seen as what is borrowed.
use Rattle.std.proofs.Common.{◌≡◌, ℕ, List, [], ◌∷◌, ◌++◌, length, take, drop, map, reverse, cond, refl, sym, ◌∙◌, ap, append-nil, append_assoc, le_refl}
use Rattle.std.specs.Prelude.{Bool, true, false, Option, Some, None, find}
use Rattle.std.specs.List.{cons_option, filter_map}
use Rattle.std.specs.Option.{option_and_then, option_map, option_to_list}
use Rattle.std.proofs.lemmas.Grind.{reverse_onto}
use Rattle.std.proofs.lemmas.List.{drop_all, reverse-reverse, take-append-drop}
use Rattle.std.proofs.Math.Seq.{drop-append_seam, take-append_seam, take-length}
use Rattle.vital_objects.specs.Together.{beside_lasts}

-- ---- what is left of a list, and what was taken from its end

whole : {A : Type 0} (xs rest front : List A) (x : A) → rest ≡ front ++ x ∷ [] → rest ≡ take (length rest) xs → xs ≡ front ++ (x ∷ drop (length rest) xs)
whole xs rest front x last left =
    sym (take-append-drop (length rest) xs)
    ∙ ap (λ ys. ys ++ drop (length rest) xs) (sym left ∙ last)
    ∙ append_assoc front (x ∷ []) (drop (length rest) xs)

pub left_before : {A : Type 0} (xs rest front : List A) (x : A) → rest ≡ front ++ x ∷ [] → rest ≡ take (length rest) xs → front ≡ take (length front) xs
left_before xs rest front x last left = sym (ap (take (length front)) (whole xs rest front x last left) ∙ take-append_seam front (x ∷ drop (length rest) xs))

taken : {A : Type 0} (xs rest front : List A) (x : A) → rest ≡ front ++ x ∷ [] → rest ≡ take (length rest) xs → drop (length front) xs ≡ x ∷ drop (length rest) xs
taken xs rest front x last left = ap (drop (length front)) (whole xs rest front x last left) ∙ drop-append_seam front (x ∷ drop (length rest) xs)

-- what is so of what was taken so far, is so with one more
pub with_taken : {A B C : Type 0} (see : A → B) (f : List B → C) (y : C) (xs rest front : List A) (x : A) → rest ≡ front ++ x ∷ [] → rest ≡ take (length rest) xs
    → y ≡ f (see x ∷ map see (drop (length rest) xs)) → y ≡ f (map see (drop (length front) xs))
with_taken see f y xs rest front x last left is = is ∙ sym (ap (λ ys. f (map see ys)) (taken xs rest front x last left))

-- at first nothing is taken, and at the end all
pub all_left : {A : Type 0} (xs rest : List A) → rest ≡ xs → rest ≡ take (length rest) xs
all_left xs rest all = all ∙ sym (take-length xs) ∙ ap (λ ys. take (length ys) xs) (sym all)

pub none_taken : {A B C : Type 0} (see : A → B) (f : List B → C) (y : C) (xs rest : List A) → rest ≡ xs → y ≡ f [] → y ≡ f (map see (drop (length rest) xs))
none_taken see f y xs rest all is = is ∙ sym (ap (λ ys. f (map see ys)) (ap (λ ys. drop (length ys) xs) all ∙ drop_all (length xs) xs (le_refl (length xs))))

pub all_taken : {A B C : Type 0} (see : A → B) (f : List B → C) (y : C) (xs : List A) (n : ℕ) → n ≡ 0 → y ≡ f (map see (drop n xs)) → y ≡ f (map see xs)
all_taken see f y xs n none is = is ∙ ap (λ k. f (map see (drop k xs))) none

-- ---- the value behind the last of those that are declared together

pushed : {A V : Type 0} (value : A → Option V) (d : A) (o : Option A) (b : Bool) → cond b (value d) (option_and_then value o) ≡ option_and_then value (cond b (Some d) o)
pushed value d o true = refl
pushed value d o false = refl

pub value_here : {A V : Type 0} (last : A → Bool) (value : A → Option V) (d : A) (ds : List A) (next now : Option V)
    → next ≡ option_and_then value (find last ds) → now ≡ cond (last d) (value d) next → now ≡ option_and_then value (find last (d ∷ ds))
value_here last value d ds next now before read = read ∙ ap (cond (last d) (value d)) before ∙ pushed value d (find last ds) (last d)

-- ---- what is put

reverse-option : {C : Type 0} (o : Option C) (cs : List C) → reverse (cons_option o cs) ≡ reverse cs ++ option_to_list o
reverse-option None cs = sym (append-nil (reverse cs))
reverse-option (Some y) cs = reverse_onto cs y []

pub put_before : {A C : Type 0} (last : A → Bool) (f : (A × Option A) → Option C) (d : A) (ds : List A) (put : Option C) (old new : List C)
    → old ≡ reverse (filter_map f (beside_lasts last ds)) → new ≡ old ++ option_to_list put → put ≡ f (d, find last (d ∷ ds))
    → new ≡ reverse (filter_map f (beside_lasts last (d ∷ ds)))
put_before last f d ds put old new before more is =
    more
    ∙ ap (λ cs. cs ++ option_to_list put) before
    ∙ ap (λ o. reverse (filter_map f (beside_lasts last ds)) ++ option_to_list o) is
    ∙ sym (reverse-option (f (d, find last (d ∷ ds))) (filter_map f (beside_lasts last ds)))

pub put_one_before : {A C : Type 0} (last : A → Bool) (f : (A × Option A) → C) (d : A) (ds : List A) (put : C) (old new : List C)
    → old ≡ reverse (map f (beside_lasts last ds)) → new ≡ old ++ put ∷ [] → put ≡ f (d, find last (d ∷ ds))
    → new ≡ reverse (map f (beside_lasts last (d ∷ ds)))
put_one_before last f d ds put old new before more is =
    more
    ∙ ap (λ cs. cs ++ put ∷ []) before
    ∙ ap (λ c. reverse (map f (beside_lasts last ds)) ++ c ∷ []) is
    ∙ sym (reverse_onto (map f (beside_lasts last ds)) (f (d, find last (d ∷ ds))) [])

-- what was put backwards comes in order
pub in_order : {C : Type 0} (cs old new : List C) → old ≡ reverse cs → new ≡ reverse old → new ≡ cs
in_order cs old new backwards turned = turned ∙ ap reverse backwards ∙ reverse-reverse cs

-- ---- what is found

mapped : {A B : Type 0} (see : A → B) (x : A) (o : Option A) (b : Bool) → cond b (Some (see x)) (option_map see o) ≡ option_map see (cond b (Some x) o)
mapped see x o true = refl
mapped see x o false = refl

pub find_seen : {A B : Type 0} (see : A → B) (test : B → Bool) (xs : List A) → find test (map see xs) ≡ option_map see (find (λ x. test (see x)) xs)
find_seen see test [] = refl
find_seen see test (x ∷ xs) = ap (cond (test (see x)) (Some (see x))) (find_seen see test xs) ∙ mapped see x (find (λ y. test (see y)) xs) (test (see x))
