-- Spans of bits that stand one behind another.
use Rattle.std.proofs.Common.{◌≡◌, true, false, List, [], ◌∷◌, ◌++◌, refl, sym, ◌∙◌, ap, ℕ}
use Rattle.std.proofs.Math.Bool.{or_comm}
use Rattle.std.specs.Prelude.{Bool, cond, ◌&&◌, ◌||◌, Option}
use Rattle.std.specs.Borrow.{Bor}
use Rattle.std.specs.BTreeMap.{insert_entry}
use Rattle.std.specs.List.{list_any}
use Rattle.std.specs.declared.cmp.Ordering.{Ordering}
use Rattle.std.specs.declared.cmp.Ordering.TheVariants.{Less, Equal, Greater}
use Rattle.std.specs.Ordering.{match_ordering}
use Rattle.vital_associations.specs.declared.bit.Bit.{Bit}
use Rattle.vital_associations.specs.Spans.{Kept, AreApart, AreBehind, end_of, is_upto, order, up_to}
use Rattle.vital_associations.proofs.BitLemmas.{behind-first, upto-total, upto-trans, order-less, order-equal, order-greater}

-- a span from a first bit to a last one has a bit in common with another
abbrev pub touches : Bit → Bit → Kept → Bool
touches first last k = is_upto k.0 last && is_upto first (end_of k)

pub true-false : true ≡ false → ⊥
true-false h = cc

-- ---- a test of the last span that begins with a bit or before it

filter-none : (b : Bool) (k : Kept) (others : List Kept) → cond b (k ∷ others) others ≡ [] → (b ≡ false) × (others ≡ [])
filter-none true k others h = absurd (cc)
filter-none false k others h = (refl, h)

-- none that begins behind a bit has a bit in common with what ends there
pub none-touched : (kept : List Kept) (first last : Bit) → up_to kept last ≡ [] → list_any (touches first last) kept ≡ false
none-touched [] first last h = refl
none-touched (k ∷ others) first last h =
    let both = filter-none (is_upto k.0 last) k (up_to others last) h in
    ap (λ b. (b && is_upto first (end_of k)) || list_any (touches first last) others) both.0 ∙ none-touched others first last both.1

abbrev IsPast : Kept → Kept → Type 0
IsPast k x = (is_upto x.0 (end_of k) ≡ false) × (is_upto x.0 (end_of x) ≡ true)

past-step : (k other x : Kept) (others before : List Kept) (b : Bool) → is_upto other.0 (end_of k) ≡ false → is_upto other.0 (end_of other) ≡ true → ((bs : List Kept) → others ≡ bs ++ x ∷ [] → IsPast k x) → cond b (other ∷ others) others ≡ before ++ x ∷ [] → IsPast k x
past-step k other x others [] true first second rest e =
    let same : other ≡ x = cc in
    (ap (λ y. is_upto y.0 (end_of k)) (sym same) ∙ first, ap (λ y. is_upto y.0 (end_of y)) (sym same) ∙ second)
past-step k other x others (b ∷ before) true first second rest e = rest before (cc)
past-step k other x others before false first second rest e = rest before e

none-last : (before : List Kept) (x : Kept) → [] ≡ before ++ x ∷ [] → ⊥
none-last [] x h = cc
none-last (b ∷ before) x h = cc

-- the last of those that stand behind a span begins behind it
behind-last : (k x : Kept) (others before : List Kept) (last : Bit) → AreBehind k others → AreApart others → up_to others last ≡ before ++ x ∷ [] → IsPast k x
behind-last k x [] before last behind apart h = absurd (none-last before x h)
behind-last k x (other ∷ others) before last behind apart h =
    past-step k other x (up_to others last) before (is_upto other.0 last) behind.0 apart.0
    (λ bs e. behind-last k x others bs last behind.1 apart.2 e) h

or-same : (a b : Bool) → (a ≡ true → b ≡ true) → (a || b) ≡ b
or-same true b f = sym (f refl)
or-same false b f = refl

touched-step : (k x : Kept) (others before : List Kept) (first last : Bit) (b : Bool) → is_upto k.0 last ≡ b → AreBehind k others → AreApart others → ((bs : List Kept) → up_to others last ≡ bs ++ x ∷ [] → list_any (touches first last) others ≡ is_upto first (end_of x)) → cond b (k ∷ up_to others last) (up_to others last) ≡ before ++ x ∷ [] → ((b && is_upto first (end_of k)) || list_any (touches first last) others) ≡ is_upto first (end_of x)
touched-step k x others [] first last true is behind apart rest e =
    let same : k ≡ x = cc in
    let none : up_to others last ≡ [] = cc in
    ap (λ t. is_upto first (end_of k) || t) (none-touched others first last none)
    ∙ or_comm (is_upto first (end_of k)) false
    ∙ ap (λ y. is_upto first (end_of y)) same
touched-step k x others (b ∷ before) first last true is behind apart rest e =
    let there : up_to others last ≡ before ++ x ∷ [] = cc in
    let past = behind-last k x others before last behind apart there in
    ap (λ t. is_upto first (end_of k) || t) (rest before there)
    ∙ or-same (is_upto first (end_of k)) (is_upto first (end_of x))
    (λ h. upto-trans first (end_of k) (end_of x) h (upto-trans (end_of k) x.0 (end_of x) (upto-total x.0 (end_of k) past.0) past.1))
touched-step k x others before first last false is behind apart rest e = rest before e

-- of spans that stand one behind another one has a bit in common with a further span exactly if the last does that begins with its last
-- bit or before it
pub last-touched : (kept before : List Kept) (x : Kept) (first last : Bit) → AreApart kept → up_to kept last ≡ before ++ x ∷ [] → list_any (touches first last) kept ≡ is_upto first (end_of x)
last-touched [] before x first last apart h = absurd (none-last before x h)
last-touched (k ∷ others) before x first last apart h =
    touched-step k x others before first last (is_upto k.0 last) refl apart.1 apart.2
    (λ bs e. last-touched others bs x first last apart.2 e) h

-- ---- one span more

module _ (first : Bit) (index : Option (Bor (List ℕ))) where
  abbrev last : Bit
  last = end_of (first, index)

  abbrev more : List Kept → List Kept
  more kept = insert_entry order kept first index

  -- where a span begins before one that it has no bit in common with, it ends before it
  ends-before : (k : Kept) → is_upto k.0 (end_of k) ≡ true → touches first last k ≡ false → is_upto k.0 first ≡ false → is_upto k.0 last ≡ false
  ends-before k whole free before = step (is_upto k.0 last) refl
    where
      step : (b : Bool) → is_upto k.0 last ≡ b → b ≡ false
      step false is = refl
      step true is =
          sym (upto-trans first k.0 (end_of k) (upto-total k.0 first before) whole) ∙ ap (λ b. b && is_upto first (end_of k)) (sym is) ∙ free

  -- and where it begins behind its beginning, it begins behind its end
  begins-behind : (k : Kept) → is_upto first last ≡ true → touches first last k ≡ false → is_upto k.0 first ≡ true → is_upto first (end_of k) ≡ false
  begins-behind k whole free before = ap (λ b. b && is_upto first (end_of k)) (sym (upto-trans k.0 first last before whole)) ∙ free

  -- it does not begin where such a span begins
  never-equal : (k : Kept) → is_upto first last ≡ true → is_upto k.0 (end_of k) ≡ true → touches first last k ≡ false → order first k.0 ≡ Equal → ⊥
  never-equal k whole whole' free same =
      let both = order-equal first k.0 same in
      true-false (sym (upto-trans first k.0 (end_of k) both.0 whole') ∙ begins-behind k whole free both.1)

  left-free : (a b : Bool) → (a || b) ≡ false → (a ≡ false) × (b ≡ false)
  left-free true b h = absurd (cc)
  left-free false b h = (refl, h)

  -- all that is behind a span stays behind it with one more that is
  behind-more : (k : Kept) (kept : List Kept) → AreBehind k kept → is_upto first (end_of k) ≡ false → AreBehind k (more kept)
  behind-more k [] behind here = (here, tt)
  behind-more k (other ∷ others) behind here = step (order first other.0) (behind-more k others behind.1 here)
    where
      step : (o : Ordering) → AreBehind k (more others) → AreBehind k (match_ordering o ((first, index) ∷ other ∷ others) ((other.0, index) ∷ others) (other ∷ more others))
      step Less rest = (here, behind)
      step Equal rest = (behind.0, behind.1)
      step Greater rest = (behind.0, rest)

  -- what stands behind a first span of which an end stands behind another one
  behind-ends : (k : Kept) (kept : List Kept) → is_upto last (end_of k) ≡ true → AreBehind k kept → AreBehind (first, index) kept
  behind-ends k [] ends behind = tt
  behind-ends k (other ∷ others) ends behind = (behind-first last (end_of k) other.0 ends behind.0, behind-ends k others ends behind.1)

  apart-step : (k : Kept) (others : List Kept) (o : Ordering) → order first k.0 ≡ o → is_upto first last ≡ true → AreApart (k ∷ others) → touches first last k ≡ false → AreApart (more others) → AreApart (match_ordering o ((first, index) ∷ k ∷ others) ((k.0, index) ∷ others) (k ∷ more others))
  apart-step k others Less is whole apart free rest =
      let ends = ends-before k apart.0 free (order-less first k.0 is) in
      let upto = upto-trans last k.0 (end_of k) (upto-total k.0 last ends) apart.0 in (
        whole,
        (ends, behind-ends k others upto apart.1),
        apart,
      )
  apart-step k others Equal is whole apart free rest = absurd (never-equal k whole apart.0 free is)
  apart-step k others Greater is whole apart free rest = (
    apart.0,
    behind-more k others apart.1 (begins-behind k whole free (upto-total first k.0 (order-greater first k.0 is))),
    rest,
  )

  -- spans stand one behind another with one more that has no bit in common with them
  pub apart-more : (kept : List Kept) → is_upto first last ≡ true → AreApart kept → list_any (touches first last) kept ≡ false → AreApart (more kept)
  apart-more [] whole apart free = (whole, tt, tt)
  apart-more (k ∷ others) whole apart free =
      let both = left-free (touches first last k) (list_any (touches first last) others) free in
      apart-step k others (order first k.0) refl whole apart both.0 (apart-more others whole apart.2 both.1)

  or-swap : (a b c all : Bool) → all ≡ (b || c) → (a || all) ≡ (b || (a || c))
  or-swap true true c all h = refl
  or-swap true false c all h = refl
  or-swap false b c all h = h

  any-step : (test : Kept → Bool) (k : Kept) (others : List Kept) (o : Ordering) → (o ≡ Equal → ⊥) → list_any test (more others) ≡ (test (first, index) || list_any test others) → list_any test (match_ordering o ((first, index) ∷ k ∷ others) ((k.0, index) ∷ others) (k ∷ more others)) ≡ (test (first, index) || list_any test (k ∷ others))
  any-step test k others Less never rest = refl
  any-step test k others Equal never rest = absurd (never refl)
  any-step test k others Greater never rest = or-swap (test k) (test (first, index)) (list_any test others) _ rest

  pub any-more : (test : Kept → Bool) (kept : List Kept) → is_upto first last ≡ true → AreApart kept → list_any (touches first last) kept ≡ false → list_any test (more kept) ≡ (test (first, index) || list_any test kept)
  any-more test [] whole apart free = refl
  any-more test (k ∷ others) whole apart free =
      let both = left-free (touches first last k) (list_any (touches first last) others) free in
      any-step test k others (order first k.0) (never-equal k whole apart.0 both.0) (any-more test others whole apart.2 both.1)
