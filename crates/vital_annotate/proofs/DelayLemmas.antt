-- New delays, by the values of an entry.
use Rattle.std.proofs.Common.{◌≡◌, ℕ, ◌-◌, ◌≤◌, false, Bool, List, [], ◌∷◌, map, length, take, drop, get_or, refl, subst, sym, ◌∙◌, ap, arith, length-drop}
use Rattle.std.proofs.lemmas.List.{take_all}
use Rattle.std.specs.Prelude.{ℤ, Option, None, ◌||◌, ◌^◌, nat_lt, true}
use Rattle.std.specs.List.{AllZip, list_any, zip}
use Rattle.vital_sdf.specs.declared.entry.Triple.{Triple}
use Rattle.vital_base.specs.declared.corner.Corner.{Corner}
use Rattle.vital_sdf.specs.declared.entry.Mode.{Mode}
use Rattle.vital_timing.specs.declared.delay.Delay.{Delay}
use Rattle.vital_annotate.specs.Delays.{at_least_zero, by_changes, changed, is_negative, picked, results, times_of, with_times, with_value}
use Rattle.vital_annotate.specs.NewDelays.{IsNewDelay, IsNewTime}
use Rattle.vital_annotate.specs.declared.delays.NewDelay.{NewDelay}
use Rattle.vital_annotate.specs.declared.delays.NewTime.{NewTime}

-- ---- from four values on
at-four : (f : Triple → Option ℤ) (xs : List Triple) (n : ℕ) → get_or (map f (take (length xs - 4) (drop 4 xs))) n None ≡ get_or (map f (drop 4 xs)) n None
at-four f xs n =
    let within : length (drop 4 xs) ≤ length xs - 4 = omega (arith, length-drop 4 xs) in
    ap (λ ys. get_or (map f ys) n None) (take_all (length xs - 4) (drop 4 xs) within)

four : (f : Triple → Option ℤ) (xs : List Triple) (d : Triple) → 4 ≤ length xs → f (get_or xs 0 d) ∷ f (get_or xs 1 d) ∷ f (get_or xs 2 d) ∷ f (get_or xs 3 d) ∷ get_or (map f (drop 4 xs)) 0 None ∷ get_or (map f (drop 4 xs)) 1 None ∷ [] ≡ by_changes (map f xs)
four f [] d h = absurd (omega arith)
four f (v ∷ []) d h = absurd (omega arith)
four f (v ∷ w ∷ []) d h = absurd (omega arith)
four f (v ∷ w ∷ x ∷ []) d h = absurd (omega arith)
four f (v ∷ w ∷ x ∷ y ∷ []) d h = refl
four f (v ∷ w ∷ x ∷ y ∷ z ∷ []) d h = refl
four f (v ∷ w ∷ x ∷ y ∷ z ∷ u ∷ more) d h = refl

pub four-up : (f : Triple → Option ℤ) (xs : List Triple) (d : Triple) (r0 r1 r2 r3 r4 r5 : Option ℤ) → 4 ≤ length xs → r0 ≡ f (get_or xs 0 d) → r1 ≡ f (get_or xs 1 d) → r2 ≡ f (get_or xs 2 d) → r3 ≡ f (get_or xs 3 d) → r4 ≡ get_or (map f (take (length xs - 4) (drop 4 xs))) 0 None → r5 ≡ get_or (map f (take (length xs - 4) (drop 4 xs))) 1 None → r0 ∷ r1 ∷ r2 ∷ r3 ∷ r4 ∷ r5 ∷ [] ≡ by_changes (map f xs)
four-up f xs d r0 r1 r2 r3 r4 r5 h h0 h1 h2 h3 h4 h5 =
    let e4 = at-four f xs 0 in
    let e5 = at-four f xs 1 in
    let e = four f xs d h in
    cc

-- ---- all of several times
negatives : (zs : List ℤ) (ts : List NewTime) → AllZip IsNewTime zs ts → list_any (λ t. t.is_negative) ts ≡ list_any is_negative zs
negatives [] [] h = refl
negatives [] (t ∷ ts) h = absurd h
negatives (z ∷ zs) [] h = absurd h
negatives (z ∷ zs) (t ∷ ts) h =
    let first = h.0.negative in
    let rest = negatives zs ts h.1 in
    cc

abbrev pub is_above : ℤ → Bool
is_above z = nat_lt (2 ^ 50) (at_least_zero z)

larges : (zs : List ℤ) (ts : List NewTime) → AllZip IsNewTime zs ts → list_any (λ t. t.is_large) ts ≡ list_any is_above zs
larges [] [] h = refl
larges [] (t ∷ ts) h = absurd h
larges (z ∷ zs) [] h = absurd h
larges (z ∷ zs) (t ∷ ts) h =
    let first = h.0.large in
    let rest = larges zs ts h.1 in
    cc

pub none-first : (a b : Bool) → (a || b) ≡ false → a ≡ false
none-first true b h = h
none-first false b h = refl

pub none-rest : (a b : Bool) → (a || b) ≡ false → b ≡ false
none-rest true b h = absurd (cc)
none-rest false b h = h

times : (zs : List ℤ) (ts : List NewTime) → AllZip IsNewTime zs ts → list_any (λ t. t.is_large) ts ≡ false → map (λ t. t.time) ts ≡ map at_least_zero zs
times [] [] h none = refl
times [] (t ∷ ts) h none = absurd h
times (z ∷ zs) [] h none = absurd h
times (z ∷ zs) (t ∷ ts) h none =
    let first = h.0.time (none-first t.is_large _ none) in
    let rest = times zs ts h.1 (none-rest t.is_large _ none) in
    cc

pub new-delay : (d : Delay) (zs : List ℤ) (ts : List NewTime) (new : NewDelay) → AllZip IsNewTime zs ts → new.delay ≡ with_times d (map (λ t. t.time) ts) → new.is_negative ≡ list_any (λ t. t.is_negative) ts → new.is_large ≡ list_any (λ t. t.is_large) ts → IsNewDelay (record { delay = with_times d (map at_least_zero zs); is_negative = list_any is_negative zs; is_large = list_any is_above zs }) new
new-delay d zs ts new h delay negative large = record {
  negative = negative ∙ negatives zs ts h;
  large = large ∙ larges zs ts h;
  delay = λ none. delay ∙ ap (with_times d) (times zs ts h (sym large ∙ none));
}

-- ---- the results for the times of a delay
spread : (l : List (Option ℤ)) → by_changes l ≡ get_or (by_changes l) 0 None ∷ get_or (by_changes l) 1 None ∷ get_or (by_changes l) 2 None ∷ get_or (by_changes l) 3 None ∷ get_or (by_changes l) 4 None ∷ get_or (by_changes l) 5 None ∷ []
spread [] = refl
spread (a ∷ []) = refl
spread (a ∷ b ∷ []) = refl
spread (a ∷ b ∷ d ∷ []) = refl
spread (a ∷ b ∷ d ∷ e ∷ []) = refl
spread (a ∷ b ∷ d ∷ e ∷ f ∷ []) = refl
spread (a ∷ b ∷ d ∷ e ∷ f ∷ g ∷ more) = refl

abbrev pub value : List (Option ℤ) → ℕ → Option ℤ
value vs n = get_or vs n None

abbrev pub results-of : Mode → List ℕ → List (Option ℤ) → List ℤ
results-of m olds vs = map (λ p. with_value m p.1 p.0) (zip olds vs)

pub results-spread : (c : Corner) (m : Mode) (values : List Triple) (d : Delay) (vs : List (Option ℤ)) → vs ≡ by_changes (map (picked c) values) → results c m values d ≡ results-of m (times_of d) (value vs 0 ∷ value vs 1 ∷ value vs 2 ∷ value vs 3 ∷ value vs 4 ∷ value vs 5 ∷ [])
results-spread c m values d vs e =
    ap (results-of m (times_of d)) (spread (map (picked c) values))
    ∙ ap (λ l. results-of m (times_of d) (value l 0 ∷ value l 1 ∷ value l 2 ∷ value l 3 ∷ value l 4 ∷ value l 5 ∷ [])) (sym e)

pub new-delay-of : (c : Corner) (m : Mode) (values : List Triple) (d : Delay) (vs : List (Option ℤ)) (ts : List NewTime) (new : NewDelay) → vs ≡ by_changes (map (picked c) values) → AllZip IsNewTime (results-of m (times_of d) (value vs 0 ∷ value vs 1 ∷ value vs 2 ∷ value vs 3 ∷ value vs 4 ∷ value vs 5 ∷ [])) ts → new.delay ≡ with_times d (map (λ t. t.time) ts) → new.is_negative ≡ list_any (λ t. t.is_negative) ts → new.is_large ≡ list_any (λ t. t.is_large) ts → IsNewDelay (changed c m values d) new
unfolding changed
new-delay-of c m values d vs ts new e h delay negative large =
    subst (λ zs. IsNewDelay (record { delay = with_times d (map at_least_zero zs); is_negative = list_any is_negative zs; is_large = list_any is_above zs }) new) (sym (results-spread c m values d vs e))
    (new-delay d _ ts new h delay negative large)
