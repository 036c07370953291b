-- Names in order of first sight, with one more.
use Rattle.std.proofs.Common.{◌≡◌, ℕ, true, false, List, [], ◌∷◌, ◌++◌, map, refl, sym, ◌∙◌, ap, append-nil}
use Rattle.std.specs.Prelude.{Bool, not, cond, ◌||◌, filter}
use Rattle.std.specs.List.{list_any}
use Rattle.std.specs.Str.{bytes_eq}
use Rattle.std.proofs.lemmas.List.Elements.{filter-append}
use Rattle.std.proofs.lemmas.Slice.Eq.{bytes_eq-Decides}
use Rattle.std.proofs.lemmas.Bool.{both_ways, false_from_ne_true}
use Rattle.std.proofs.lemmas.List.{map-append}
use Rattle.indexmap.specs.IndexSet.{insert_key}
use Rattle.std.specs.declared.alloc.Global.{Global}
use Rattle.std.specs.declared.vec.Vec.{Vec}
use Rattle.vital_stim.specs.Names.{with_name}
use Rattle.vital_stim.proofs.Positions.{list_any-map}
use Rattle.vital_stim.specs.Stimuli.{first_sights}

pub bytes_eq-same : (name : List ℕ) → bytes_eq name name ≡ true
bytes_eq-same name = (bytes_eq-Decides name name).1 refl

bytes_eq-flip : (a b : List ℕ) → bytes_eq a b ≡ true → bytes_eq b a ≡ true
bytes_eq-flip a b h = (bytes_eq-Decides b a).1 (sym ((bytes_eq-Decides a b).0 h))

-- the others than a name
abbrev others : List ℕ → List (List ℕ) → List (List ℕ)
others name names = filter (λ other. not (bytes_eq name other)) names

equal : (a b : List ℕ) → bytes_eq a b ≡ true → a ≡ b
equal a b = (bytes_eq-Decides a b).0

-- ---- leaving a name out changes nothing for the others
any-others-step : (name other x : List ℕ) (xs : List (List ℕ)) (v : Bool) → bytes_eq name x ≡ v → bytes_eq other name ≡ false → list_any (bytes_eq other) (others name xs) ≡ list_any (bytes_eq other) xs → list_any (bytes_eq other) (cond (not v) (x ∷ others name xs) (others name xs)) ≡ (bytes_eq other x || list_any (bytes_eq other) xs)
any-others-step name other x xs true e apart same =
    let unlike : bytes_eq other x ≡ false = ap (bytes_eq other) (sym (equal name x e)) ∙ apart in
    rw unlike same
any-others-step name other x xs false e apart same = ap (λ more. bytes_eq other x || more) same

any-others : (name other : List ℕ) (xs : List (List ℕ)) → bytes_eq other name ≡ false → list_any (bytes_eq other) (others name xs) ≡ list_any (bytes_eq other) xs
any-others name other [] apart = refl
any-others name other (x ∷ xs) apart = any-others-step name other x xs (bytes_eq name x) refl apart (any-others name other xs apart)

-- ---- each name is among those in order of first sight
abbrev pub AreAmong : List (List ℕ) → List (List ℕ) → Type 0
AreAmong [] seen = Unit {0}
AreAmong (name ∷ names) seen = (list_any (bytes_eq name) seen ≡ true) × AreAmong names seen

among-one : (name other : List ℕ) (seen : List (List ℕ)) (v : Bool) → bytes_eq other name ≡ v → list_any (bytes_eq other) seen ≡ true → (v || list_any (bytes_eq other) (others name seen)) ≡ true
among-one name other seen true e h = refl
among-one name other seen false e h = any-others name other seen e ∙ h

among-more : (name : List ℕ) (names seen : List (List ℕ)) → AreAmong names seen → AreAmong names (name ∷ others name seen)
among-more name [] seen h = tt
among-more name (n ∷ ns) seen h = (among-one name n seen (bytes_eq n name) refl h.0, among-more name ns seen h.1)

pub are_among : (names : List (List ℕ)) → AreAmong names (first_sights names)
are_among [] = tt
are_among (name ∷ names) = (rw bytes_eq-same refl, among-more name names (first_sights names) (are_among names))

-- ---- one more name
one-other : (name last : List ℕ) (v : Bool) → bytes_eq name last ≡ v → others name (last ∷ []) ≡ cond v [] (last ∷ [])
one-other name last true e = rw e refl
one-other name last false e = rw e refl

others-push : (name last : List ℕ) (seen : List (List ℕ)) (v : Bool) → bytes_eq name last ≡ v → others name (seen ++ last ∷ []) ≡ others name seen ++ cond v [] (last ∷ [])
others-push name last seen v e = filter-append (λ other. not (bytes_eq name other)) seen (last ∷ []) ∙ ap (λ more. others name seen ++ more) (one-other name last v e)

push-same : (name last : List ℕ) (seen : List (List ℕ)) (b : Bool) → bytes_eq last name ≡ true → name ∷ others name (cond b seen (seen ++ last ∷ [])) ≡ name ∷ others name seen
push-same name last seen true e = refl
push-same name last seen false e = ap (λ more. name ∷ more) (others-push name last seen true (bytes_eq-flip last name e) ∙ append-nil _)

push-other : (name last : List ℕ) (seen : List (List ℕ)) (b : Bool) → bytes_eq last name ≡ false → name ∷ others name (cond b seen (seen ++ last ∷ [])) ≡ cond b (name ∷ others name seen) ((name ∷ others name seen) ++ last ∷ [])
push-other name last seen true e = refl
push-other name last seen false e =
    let apart : bytes_eq name last ≡ false = false_from_ne_true _ (λ h. both_ways _ e (bytes_eq-flip name last h)) in
    ap (λ more. name ∷ more) (others-push name last seen false apart)

push-step : (name last : List ℕ) (seen : List (List ℕ)) (a : Bool) → bytes_eq last name ≡ a → name ∷ others name (with_name seen last) ≡ cond (a || list_any (bytes_eq last) (others name seen)) (name ∷ others name seen) ((name ∷ others name seen) ++ last ∷ [])
push-step name last seen true e = push-same name last seen (list_any (bytes_eq last) seen) e
push-step name last seen false e = rw (any-others name last seen e) (push-other name last seen (list_any (bytes_eq last) seen) e)

pub first_sights-push : (names : List (List ℕ)) (last : List ℕ) → first_sights (names ++ last ∷ []) ≡ with_name (first_sights names) last
first_sights-push [] last = refl
first_sights-push (name ∷ names) last = ap (λ seen. name ∷ others name seen) (first_sights-push names last) ∙ push-step name last (first_sights names) (bytes_eq last name) refl

-- ---- the names of a set, with one more
insert-step : (key : Vec ℕ Global) (keys : List (Vec ℕ Global)) (a : Bool) → map (λ k. k.items) (cond a keys (keys ++ key ∷ [])) ≡ cond a (map (λ k. k.items) keys) (map (λ k. k.items) keys ++ key.items ∷ [])
insert-step key keys true = refl
insert-step key keys false = map-append (λ k. k.items) keys (key ∷ [])

pub texts-insert : (key : Vec ℕ Global) (keys : List (Vec ℕ Global)) → map (λ k. k.items) (insert_key (λ a b. bytes_eq a.items b.items) keys key) ≡ with_name (map (λ k. k.items) keys) key.items
texts-insert key keys = insert-step key keys (list_any (λ k. bytes_eq key.items k.items) keys) ∙ rw list_any-map refl
