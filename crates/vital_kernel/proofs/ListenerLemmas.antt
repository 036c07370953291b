-- The lists of signals, one process after another.
use Rattle.std.proofs.Common.{◌≡◌, ℕ, zero, suc, ◌+◌, ◌<◌, ◌≤◌, Bool, true, false, ◌||◌, ◌&&◌, eqb, ◌⊎◌, Global, List, [], ◌∷◌, ◌++◌, length, map, take, get_or, set, replicate, Vec, inl, inr, refl, sym, ap, subst, ◌∙◌, arith}
use Rattle.std.proofs.lemmas.Bool.{cases_eq, cases_lt, eq-eqb, ne_eqb}
use Rattle.std.proofs.lemmas.List.{get_or-replicate, get_or-set_other, get_or-set_same, get_or-take, get_or_default, get_or_past, length-replicate, length-set, map-set, take_all}
use Rattle.std.proofs.lemmas.List.Folds.{list_any-append}
use Rattle.vital_kernel.specs.Lists.{AreListed, listening, with_process}
use Rattle.vital_signals.specs.Lists.{is_listed}

pub get-seen : {A B : Type 0} (see : A → B) (xs : List A) (i : ℕ) (d : A) (e : B) → i < length xs → get_or (map see xs) i e ≡ see (get_or xs i d)
get-seen see [] i d e within = absurd (omega arith)
get-seen see (x ∷ xs) zero d e within = refl
get-seen see (x ∷ xs) (suc i) d e within = get-seen see xs i d e (omega arith)

pub put-is : (lists : List (Vec ℕ Global)) (number process : ℕ) (old new : Vec ℕ Global) → number < length lists → old ≡ get_or lists number old → new.items ≡ old.items ++ process ∷ []
    → map (λ list. list.items) (set lists number new) ≡ with_process process (map (λ list. list.items) lists) number
put-is lists number process old new within is put =
    let seen = map (λ (list : Vec ℕ Global). list.items) lists in
    let here : get_or seen number [] ≡ old.items = get-seen (λ (list : Vec ℕ Global). list.items) lists number old [] within ∙ ap (λ (list : Vec ℕ Global). list.items) (sym is) in
    map-set (λ (list : Vec ℕ Global). list.items) lists number new
    ∙ ap (λ (items : List ℕ). set seen number items) (put ∙ ap (λ (items : List ℕ). items ++ process ∷ []) (sym here))

-- ---- one process is listed for some signals

none-more : (a c : Bool) → a ≡ (a || (c && false))
none-more true c = refl
none-more false true = refl
none-more false false = refl

one-or-more : (a c x y : Bool) → ((a || (c && x)) || (c && y)) ≡ (a || (c && (x || y)))
one-or-more true c x y = refl
one-or-more false true x y = refl
one-or-more false false x y = refl

or-one : (a c : Bool) → (a || (c || false)) ≡ (a || (c && true))
or-one true c = refl
or-one false true = refl
or-one false false = refl

with-listed : (process number n p : ℕ) (lists : List (List ℕ)) → n < length lists → is_listed p (get_or (with_process process lists number) n []) ≡ (is_listed p (get_or lists n []) || (eqb process p && eqb number n))
with-listed process number n p lists within = elim (cases_eq n number) [
  | inl same ↦
      let here : get_or (with_process process lists number) n [] ≡ get_or lists n [] ++ process ∷ [] =
      ap (λ (k : ℕ). get_or (with_process process lists k) n []) (sym same) ∙ get_or-set_same lists n (get_or lists n [] ++ process ∷ []) [] within in
      ap (is_listed p) here
      ∙ list_any-append (λ (q : ℕ). eqb q p) (get_or lists n []) (process ∷ [])
      ∙ or-one (is_listed p (get_or lists n [])) (eqb process p)
      ∙ ap (λ (b : Bool). is_listed p (get_or lists n []) || (eqb process p && b)) (sym (eq-eqb number n (sym same)))
  | inr apart ↦
      ap (is_listed p) (get_or-set_other lists number n (get_or lists number [] ++ process ∷ []) [] apart)
      ∙ none-more (is_listed p (get_or lists n [])) (eqb process p)
      ∙ ap (λ (b : Bool). is_listed p (get_or lists n []) || (eqb process p && b)) (sym (ne_eqb number n (λ same. apart (sym same))))
]

pub length-listening : (process : ℕ) (lists : List (List ℕ)) (numbers : List ℕ) → length (listening process lists numbers) ≡ length lists
length-listening process lists [] = refl
length-listening process lists (m ∷ numbers) = length-listening process (with_process process lists m) numbers ∙ length-set lists m (get_or lists m [] ++ process ∷ [])

listening-listed : (process n p : ℕ) (lists : List (List ℕ)) (numbers : List ℕ) → n < length lists → is_listed p (get_or (listening process lists numbers) n []) ≡ (is_listed p (get_or lists n []) || (eqb process p && is_listed n numbers))
listening-listed process n p lists [] within = none-more (is_listed p (get_or lists n [])) (eqb process p)
listening-listed process n p lists (m ∷ numbers) within =
    let there : n < length (with_process process lists m) = omega (arith, within, length-set lists m (get_or lists m [] ++ process ∷ [])) in
    listening-listed process n p (with_process process lists m) numbers there
    ∙ ap (λ (b : Bool). b || (eqb process p && is_listed n numbers)) (with-listed process m n p lists within)
    ∙ one-or-more (is_listed p (get_or lists n [])) (eqb process p) (eqb m n) (is_listed n numbers)

-- ---- all processes

pub listed-none : (sensitivities : List (List ℕ)) (count : ℕ) → AreListed (take 0 sensitivities) (replicate count [])
listed-none sensitivities count n p within =
    let there : n < count = omega (arith, within, length-replicate {A = List ℕ} count []) in
    ap (is_listed p) (get_or-replicate count n [] [] there)

short-take : {A : Type 0} (i : ℕ) (xs : List A) → length (take i xs) ≤ i
short-take zero xs = omega arith
short-take (suc i) [] = omega arith
short-take (suc i) (x ∷ xs) = omega (arith, short-take i xs)

others-same : (xs : List (List ℕ)) (i p : ℕ) → ¬ (p ≡ i) → get_or (take i xs) p [] ≡ get_or (take (i + 1) xs) p []
others-same xs i p apart = elim (cases_lt p i) [
  | inl less ↦ get_or-take i xs p [] less ∙ sym (get_or-take (i + 1) xs p [] (omega arith))
  | inr le ↦
      get_or_past (take i xs) p [] (omega (arith, short-take i xs, le))
      ∙ sym (get_or_past (take (i + 1) xs) p [] (omega (arith, short-take (i + 1) xs, le, apart)))
]

none-of : (a : Bool) → (a || false) ≡ a
none-of true = refl
none-of false = refl

pub listed-turn : (sensitivities : List (List ℕ)) (i : ℕ) (s : List ℕ) (now new : List (List ℕ)) → i < length sensitivities → s ≡ get_or sensitivities i s → AreListed (take i sensitivities) now → new ≡ listening i now s → AreListed (take (i + 1) sensitivities) new
listed-turn sensitivities i s now new within is before put n p there =
    let inside : n < length now = omega (arith, there, ap (λ (ls : List (List ℕ)). length ls) put, length-listening i now s) in
    ap (λ (ls : List (List ℕ)). is_listed p (get_or ls n [])) put
    ∙ listening-listed i n p now s inside
    ∙ ap (λ (b : Bool). b || (eqb i p && is_listed n s)) (before n p inside)
    ∙ one (cases_eq p i)
  where
    one : (p ≡ i) ⊎ ¬ (p ≡ i) → (is_listed n (get_or (take i sensitivities) p []) || (eqb i p && is_listed n s)) ≡ is_listed n (get_or (take (i + 1) sensitivities) p [])
    one (inl same) =
        let none : get_or (take i sensitivities) p [] ≡ [] = get_or_past (take i sensitivities) p [] (omega (arith, short-take i sensitivities, same)) in
        let here : get_or (take (i + 1) sensitivities) p [] ≡ s =
        get_or-take (i + 1) sensitivities p [] (omega (arith, same)) ∙ ap (λ (k : ℕ). get_or sensitivities k []) same ∙ get_or_default sensitivities i [] s within ∙ sym is in
        ap (λ (l : List ℕ). is_listed n l || (eqb i p && is_listed n s)) none
        ∙ ap (λ (b : Bool). b && is_listed n s) (eq-eqb i p (sym same))
        ∙ sym (ap (is_listed n) here)
    one (inr apart) =
        ap (λ (b : Bool). is_listed n (get_or (take i sensitivities) p []) || (b && is_listed n s)) (ne_eqb i p (λ same. apart (sym same)))
        ∙ none-of (is_listed n (get_or (take i sensitivities) p []))
        ∙ ap (is_listed n) (others-same sensitivities i p apart)

pub listed-all : (sensitivities lists : List (List ℕ)) (i : ℕ) → length sensitivities ≤ i → AreListed (take i sensitivities) lists → AreListed sensitivities lists
listed-all sensitivities lists i le listed = subst (λ (ss : List (List ℕ)). AreListed ss lists) (take_all i sensitivities le) listed
