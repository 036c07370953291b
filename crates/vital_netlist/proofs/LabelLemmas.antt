-- The labels on the paths of instances, each of which stands in one before it.
use Rattle.std.proofs.Common.{◌≡◌, ℕ, zero, suc, ◌<◌, ◌≤◌, List, [], ◌∷◌, ◌++◌, map, reverse, refl, sym, ap, ◌∙◌, append-nil, append_assoc, arith}
use Rattle.std.proofs.lemmas.List.{map-append, reverse-append}
use Rattle.std.specs.Prelude.{Option, Some, None}
use Rattle.vital_netlist.specs.Designs.{DesignInstance, Site, StandBehind, behind, labels_within, site_of}

-- the first instance stands nowhere
none-first : (is : List DesignInstance) → StandBehind is → (labels : ℕ → List (List ℕ)) → behind labels (site_of is 0) ≡ []
none-first is stand labels = by_site (site_of is 0) refl
  where
    by_site : (o : Option Site) → site_of is 0 ≡ o → behind labels o ≡ []
    by_site None at = refl
    by_site (Some s) at = let before : s.instance < 0 = stand 0 s at in absurd (omega arith)

none-within : (is : List DesignInstance) → StandBehind is → (k : ℕ) → labels_within k is 0 ≡ []
none-within is stand zero = refl
none-within is stand (suc k) = none-first is stand (labels_within k is)

-- how many instances may stand above makes no difference
same-labels : (is : List DesignInstance) → StandBehind is → (k m n : ℕ) → n ≤ k → n ≤ m → labels_within k is n ≡ labels_within m is n
same-labels is stand k m zero few other = none-within is stand k ∙ sym (none-within is stand m)
same-labels is stand zero m (suc n) few other = absurd (omega arith)
same-labels is stand (suc k) zero (suc n) few other = absurd (omega arith)
same-labels is stand (suc k) (suc m) (suc n) few other = by_site (λ j before. same-labels is stand k m j (omega arith) (omega arith)) (site_of is (suc n)) refl
  where
    by_site : ((j : ℕ) → j < suc n → labels_within k is j ≡ labels_within m is j) → (o : Option Site) → site_of is (suc n) ≡ o → behind (labels_within k is) o ≡ behind (labels_within m is) o
    by_site above None at = refl
    by_site above (Some s) at = ap (λ ls. ls ++ s.label ∷ []) (above s.instance (stand (suc n) s at))

-- the labels on the path of what stands there
abbrev pub labels_at : List DesignInstance → Option Site → List (List ℕ)
labels_at is o = behind (λ n. labels_within n is n) o

pub labels-above : (is : List DesignInstance) → StandBehind is → (n : ℕ) → labels_within n is n ≡ labels_at is (site_of is n)
labels-above is stand zero = sym (none-first is stand (λ n. labels_within n is n))
labels-above is stand (suc n) = by_site (site_of is (suc n)) refl
  where
    by_site : (o : Option Site) → site_of is (suc n) ≡ o → behind (labels_within n is) o ≡ labels_at is o
    by_site None at = refl
    by_site (Some s) at =
        let before : s.instance < suc n = stand (suc n) s at in
        ap (λ ls. ls ++ s.label ∷ []) (same-labels is stand n s.instance s.instance (omega arith) (omega arith))

-- ---- the labels that were found, from the last one on

pub no-labels : (is : List DesignInstance) → StandBehind is → (n : ℕ) (o : Option Site) (found : List (List ℕ)) → o ≡ site_of is n → found ≡ [] → labels_within n is n ≡ labels_at is o ++ reverse found
no-labels is stand n o found at none =
    labels-above is stand n ∙ ap (labels_at is) (sym at) ∙ sym (append-nil (labels_at is o)) ∙ ap (λ ls. labels_at is o ++ reverse ls) (sym none)

pub one-label : (is : List DesignInstance) → StandBehind is → (s : Site) (o : Option Site) (all found new : List (List ℕ)) → o ≡ site_of is s.instance → new ≡ found ++ s.label ∷ [] → all ≡ labels_at is (Some s) ++ reverse found → all ≡ labels_at is o ++ reverse new
one-label is stand s o all found new at put before =
    before
    ∙ append_assoc (labels_within s.instance is s.instance) (s.label ∷ []) (reverse found)
    ∙ ap (λ ls. ls ++ (s.label ∷ [] ++ reverse found)) (labels-above is stand s.instance ∙ ap (labels_at is) (sym at))
    ∙ ap (λ ls. labels_at is o ++ ls) (sym (reverse-append found (s.label ∷ [])))
    ∙ ap (λ ls. labels_at is o ++ reverse ls) (sym put)

-- ---- all of them, from the top on

map-reverse : {A B : Type 0} (f : A → B) (xs : List A) → map f (reverse xs) ≡ reverse (map f xs)
map-reverse f [] = refl
map-reverse f (x ∷ xs) =
    ap (map f) (reverse-append (x ∷ []) xs)
    ∙ map-append f (reverse xs) (x ∷ [])
    ∙ ap (λ ys. ys ++ f x ∷ []) (map-reverse f xs)
    ∙ sym (reverse-append (f x ∷ []) (map f xs))

pub all-labels : {A : Type 0} (seen : A → List ℕ) (is : List DesignInstance) (o : Option Site) (all : List (List ℕ)) (found turned : List A) → o ≡ None → turned ≡ reverse found → all ≡ labels_at is o ++ reverse (map seen found) → map seen turned ≡ all
all-labels seen is o all found turned at put before =
    ap (map seen) put ∙ map-reverse seen found ∙ sym (before ∙ ap (λ s. labels_at is s ++ reverse (map seen found)) at)
