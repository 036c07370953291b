-- Spans that have no bit in common, sorted.
use Rattle.std.proofs.Common.{◌≡◌, ℕ, suc, ◌+◌, ◌-◌, ◌<◌, ◌≤◌, true, false, List, [], ◌∷◌, length, get_or, refl, sym, ap, subst, ◌∙◌, arith}
use Rattle.std.specs.Prelude.{Bool, cond, is_some, ◌&&◌, ◌||◌, ◌==◌, ◌⊎◌, nat_le, nat_lt, All, Option, Some, None}
use Rattle.std.proofs.Common.{inl, inr}
use Rattle.std.specs.Cmp.{IsStrictWeakOrder}
use Rattle.std.specs.List.{cons_option, list_any}
use Rattle.std.specs.List.Sorted.{IsPermutation, IsSorted}
use Rattle.std.specs.Option.{option_and_then, option_or}
use Rattle.std.specs.Ordering.{MatchOrdering, is_lt, nat_cmp, ordering_then}
use Rattle.std.specs.declared.cmp.Ordering.{Ordering}
use Rattle.std.specs.declared.cmp.Ordering.TheVariants.{Less, Equal, Greater}
use Rattle.std.specs.Cmp.{ranks}
use Rattle.std.proofs.lemmas.Bool.Decides.{nat_tests}
use Rattle.std.proofs.lemmas.Cmp.{nat_cmp_total, on_total, then_total}
use Rattle.std.proofs.lemmas.List.Elements.{All-cons, All-head, All-tail}
use Rattle.std.proofs.lemmas.List.Recursion.{is_count_by}
use Rattle.std.proofs.lemmas.List.Sorted.{All-permutation, list_any-IsPermutation, ranks_by, sorted_far, sum_by-IsPermutation}
use Rattle.vital_associations.specs.Associations.{Association}
use Rattle.vital_connections.specs.Connections.{AreApart, Connection, Shapes, bit_of, connection, has_place, place_in}
use Rattle.vital_connections.specs.Spans.{AreBehind, AreSorted, BeginsInside, behind, ends_before, given, given_by, has_bit, order, seen, span_of, spans_of}
use Rattle.vital_connections.specs.declared.span.Span.{Span}
use Rattle.vital_connections.proofs.SpanLemmas.{IsGood, given_spans, good_spans, span_gives}

module _ (port bit : ℕ) where
  -- how many spans have a bit
  abbrev pub count : List Span → ℕ
  count [] = 0
  count (s ∷ others) = cond (has_bit s port bit) (1 + count others) (count others)

  pub count_permutation : (xs ys : List Span) → IsPermutation xs ys → count ys ≡ count xs
  count_permutation xs ys moved =
      is_count_by count (λ s. has_bit s port bit) refl (λ _ _. refl) ys
      ∙ sum_by-IsPermutation (λ s. cond (has_bit s port bit) 1 0) xs ys moved
      ∙ sym (is_count_by count (λ s. has_bit s port bit) refl (λ _ _. refl) xs)

  -- ---- what a span gives

  abbrev gives : Span → Option Connection
  gives s = given_by port bit s

  abbrev there : Span → Connection
  there s = behind (bit - s.first) (seen s.connected)

  or-kept : (s : Span) (o : Option Connection) → has_bit s port bit ≡ true → option_or (gives s) o ≡ gives s
  or-kept s o h = ap (λ b. option_or (cond b (Some (there s)) None) o) h ∙ sym (ap (λ b. cond b (Some (there s)) None) h)

  or-passed : (s : Span) (o : Option Connection) → has_bit s port bit ≡ false → option_or (gives s) o ≡ o
  or-passed s o h = ap (λ b. option_or (cond b (Some (there s)) None) o) h

  -- ---- another order

  abbrev Tells : Option Connection → Span → Type 0
  Tells v s = has_bit s port bit ≡ true → gives s ≡ v

  never : (b : Bool) → b ≡ true → b ≡ false → ⊥
  never true h h' = cc
  never false h h' = cc

  none-tells : (v : Option Connection) (xs : List Span) → count xs ≤ 0 → All (Tells v) xs
  none-tells v [] few = λ k d lt. absurd (omega (arith, lt))
  none-tells v (x ∷ xs) few = step (has_bit x port bit) refl few (none-tells v xs)
    where
      step : (b : Bool) → has_bit x port bit ≡ b → cond b (1 + count xs) (count xs) ≤ 0 → (count xs ≤ 0 → All (Tells v) xs) → All (Tells v) (x ∷ xs)
      step true is few others = absurd (omega (arith, few))
      step false is few others = All-cons (Tells v) x xs (λ h. absurd (never (has_bit x port bit) h is)) (others few)

  -- where one span at most has the bit, each that has it tells what all give
  tells : (xs : List Span) → count xs ≤ 1 → All (Tells (given xs port bit)) xs
  tells [] few = λ k d lt. absurd (omega (arith, lt))
  tells (x ∷ xs) few = step (has_bit x port bit) refl few (tells xs)
    where
      step : (b : Bool) → has_bit x port bit ≡ b → cond b (1 + count xs) (count xs) ≤ 1 → (count xs ≤ 1 → All (Tells (given xs port bit)) xs) → All (Tells (given (x ∷ xs) port bit)) (x ∷ xs)
      step true is few others =
          All-cons (Tells (given (x ∷ xs) port bit)) x xs (λ h. sym (or-kept x (given xs port bit) h)) (none-tells (given (x ∷ xs) port bit) xs (omega (arith, few)))
      step false is few others =
          All-cons (Tells (given (x ∷ xs) port bit)) x xs (λ h. absurd (never (has_bit x port bit) h is))
          (let P : Option Connection → Type 0 = λ v. All (Tells v) xs in subst P (sym (or-passed x (given xs port bit) is)) (others few))

  told : (v : Option Connection) (ys : List Span) → All (Tells v) ys → list_any (λ s. has_bit s port bit) ys ≡ true → given ys port bit ≡ v
  told v [] all h = absurd (cc)
  told v (y ∷ ys) all h = step (has_bit y port bit) refl h (told v ys (All-tail (Tells v) y ys all))
    where
      step : (b : Bool) → has_bit y port bit ≡ b → (b || list_any (λ s. has_bit s port bit) ys) ≡ true → (list_any (λ s. has_bit s port bit) ys ≡ true → given ys port bit ≡ v) → given (y ∷ ys) port bit ≡ v
      step true is h others = or-kept y (given ys port bit) is ∙ All-head (Tells v) y ys all is
      step false is h others = or-passed y (given ys port bit) is ∙ others h

  none-given : (ys : List Span) → list_any (λ s. has_bit s port bit) ys ≡ false → given ys port bit ≡ None
  none-given [] h = refl
  none-given (y ∷ ys) h = step (has_bit y port bit) refl h (none-given ys)
    where
      step : (b : Bool) → has_bit y port bit ≡ b → (b || list_any (λ s. has_bit s port bit) ys) ≡ false → (list_any (λ s. has_bit s port bit) ys ≡ false → given ys port bit ≡ None) → given (y ∷ ys) port bit ≡ None
      step true is h others = absurd (cc)
      step false is h others = or-passed y (given ys port bit) is ∙ others h

  -- spans in another order give a bit the same, where one at most has it
  pub given_permutation : (xs ys : List Span) → IsPermutation xs ys → count xs ≤ 1 → given ys port bit ≡ given xs port bit
  given_permutation xs ys moved few = step (list_any (λ s. has_bit s port bit) xs) refl
    where
      step : (b : Bool) → list_any (λ s. has_bit s port bit) xs ≡ b → given ys port bit ≡ given xs port bit
      step true is = told (given xs port bit) ys (All-permutation (Tells (given xs port bit)) xs ys moved (tells xs few)) (sym (list_any-IsPermutation (λ s. has_bit s port bit) xs ys moved) ∙ is)
      step false is = none-given ys (sym (list_any-IsPermutation (λ s. has_bit s port bit) xs ys moved) ∙ is) ∙ sym (none-given xs is)

  -- ---- associations that have no bit in common

  module _ (ports signals : Shapes) where
    place-there : (b : Bool) (o : Option ℕ) (g : ℕ → Option Connection) (c : Connection) → Some c ≡ cond b (option_and_then g o) None → (b && is_some o) ≡ true
    place-there true (Some d) g c h = refl
    place-there true None g c h = absurd (cc)
    place-there false o g c h = absurd (cc)

    -- a bit that the span of an association has is in its part
    has-place : (a : Association) (s : Span) → span_of ports signals a ≡ Some s → has_bit s port bit ≡ true → has_place ports a port bit ≡ true
    has-place a s is h =
        place-there (a.port == port) (place_in (ports port) a.part bit) (bit_of signals a.actual) (there s)
        (sym (ap (λ b. cond b (Some (there s)) None) h) ∙ sym (ap (option_and_then gives) is) ∙ span_gives ports signals port bit a)

    both-false : (a b : Bool) → (a || b) ≡ false → (a ≡ false) × (b ≡ false)
    both-false true b h = absurd (cc)
    both-false false b h = (refl, h)

    -- no span of an association that has not a bit has it
    not-counted : (a : Association) (o : Option Span) (others : List Span) → span_of ports signals a ≡ o → has_place ports a port bit ≡ false → count others ≡ 0 → count (cons_option o others) ≡ 0
    not-counted a None others is out none = none
    not-counted a (Some s) others is out none = step (has_bit s port bit) refl
      where
        step : (b : Bool) → has_bit s port bit ≡ b → cond b (1 + count others) (count others) ≡ 0
        step true h = absurd (never (has_place ports a port bit) (has-place a s is h) out)
        step false h = none

    none-counted : (made : List Association) → list_any (λ b. has_place ports b port bit) made ≡ false → count (spans_of ports signals made) ≡ 0
    none-counted [] h = refl
    none-counted (a ∷ others) h =
        let both = both-false (has_place ports a port bit) (list_any (λ b. has_place ports b port bit) others) h in
        not-counted a (span_of ports signals a) (spans_of ports signals others) refl both.0 (none-counted others both.1)

    at-most-one : (a : Association) (o : Option Span) (others : List Span) → span_of ports signals a ≡ o → (has_place ports a port bit ≡ true → count others ≡ 0) → count others ≤ 1 → count (cons_option o others) ≤ 1
    at-most-one a None others is none few = few
    at-most-one a (Some s) others is none few = step (has_bit s port bit) refl
      where
        step : (b : Bool) → has_bit s port bit ≡ b → cond b (1 + count others) (count others) ≤ 1
        step true h = omega (arith, none (has-place a s is h))
        step false h = few

    -- one of their spans at most has a bit
    pub one_counted : (made : List Association) → AreApart ports made → count (spans_of ports signals made) ≤ 1
    one_counted [] apart = omega arith
    one_counted (a ∷ others) apart =
        at-most-one a (span_of ports signals a) (spans_of ports signals others) refl (λ h. none-counted others (apart.0 port bit h)) (one_counted others apart.1)

-- ---- sorted spans

pub order_ranks : IsStrictWeakOrder (λ (x y : Span). is_lt (order x y))
order_ranks = ranks_by (then_total (on_total (λ (s : Span). s.port) nat_cmp_total) (on_total (λ (s : Span). s.first) nat_cmp_total)) (λ (s : Span). s)

compared : (x y : ℕ) (o : Ordering) → nat_cmp x y ≡ o → MatchOrdering o (x < y) (x ≡ y) (y < x)
compared x y o e = let P : Ordering → Type 0 = λ o. MatchOrdering o (x < y) (x ≡ y) (y < x) in subst P e (ranks x y)

-- a span that does not begin before another one
not-before : (ap af bp bf : ℕ) (r t : Ordering) → nat_cmp bp ap ≡ r → nat_cmp bf af ≡ t → is_lt (ordering_then r t) ≡ false → (ap < bp) ⊎ ((ap ≡ bp) × (af ≤ bf))
not-before ap af bp bf Less t is is' h = absurd (cc)
not-before ap af bp bf Greater t is is' h = inl (compared bp ap Greater is)
not-before ap af bp bf Equal Less is is' h = absurd (cc)
not-before ap af bp bf Equal Equal is is' h = inr (sym (compared bp ap Equal is), (omega (arith, compared bf af Equal is')))
not-before ap af bp bf Equal Greater is is' h = inr (sym (compared bp ap Equal is), (omega (arith, compared bf af Greater is')))

ends-or-shares : (ap af ae bp bf be : ℕ) → (ap < bp) ⊎ ((ap ≡ bp) × (af ≤ bf)) → bf < be → (nat_lt ap bp || ((ap == bp) && nat_le ae bf)) ≡ false → (((ap == bp) && nat_le af bf && nat_lt bf ae) ≡ true) × (((bp == bp) && nat_le bf bf && nat_lt bf be) ≡ true)
ends-or-shares ap af ae bp bf be order whole h = (grind (arith, nat_tests), grind (arith, nat_tests))

more-count : (b : Bool) (n : ℕ) → n ≤ cond b (1 + n) n
more-count true n = omega arith
more-count false n = omega arith

one-more : (b : Bool) (n : ℕ) → b ≡ true → cond b (1 + n) n ≡ 1 + n
one-more b n h = ap (λ b. cond b (1 + n) n) h

abbrev HasBit : Span → Type 0
HasBit s = s.first < s.end

abbrev NotBefore : Span → Span → Type 0
NotBefore a b = is_lt (order b a) ≡ false

ends-at : (a b : Span) (rest : List Span) → HasBit b → NotBefore a b → ((port bit : ℕ) → has_bit a port bit ≡ true → count port bit (b ∷ rest) ≡ 0) → ends_before a b ≡ true
ends-at a b rest whole after free = step (ends_before a b) refl
  where
    step : (e : Bool) → ends_before a b ≡ e → e ≡ true
    step true is = refl
    step false is =
        let shared = ends-or-shares a.port a.first a.end b.port b.first b.end (not-before a.port a.first b.port b.first (nat_cmp b.port a.port) (nat_cmp b.first a.first) refl refl after) whole is in
        let none = free b.port b.first shared.0 in
        let one = one-more (has_bit b b.port b.first) (count b.port b.first rest) shared.1 in
        absurd (omega (arith, none, one))

behind-from : (a : Span) (others : List Span) → All HasBit others → All (NotBefore a) others → ((port bit : ℕ) → has_bit a port bit ≡ true → count port bit others ≡ 0) → AreBehind a others
behind-from a [] whole after free = tt
behind-from a (b ∷ others) whole after free = (
  ends-at a b others (All-head HasBit b others whole) (All-head (NotBefore a) b others after) free,
  behind-from a others (All-tail HasBit b others whole) (All-tail (NotBefore a) b others after)
      (λ port bit h. omega (arith, free port bit h, more-count (has_bit b port bit) (count port bit others))),
)

abbrev AreRanked : List Span → Type 0
AreRanked xs = (i j : ℕ) (d : Span) → i ≤ j → j < length xs → NotBefore (get_or xs i d) (get_or xs j d)

ranked-sorted : (xs : List Span) → AreRanked xs → All HasBit xs → ((port bit : ℕ) → count port bit xs ≤ 1) → AreSorted xs
ranked-sorted [] ranked whole few = tt
ranked-sorted (a ∷ others) ranked whole few = (
  All-head HasBit a others whole,
  behind-from a others (All-tail HasBit a others whole) (λ k d lt. ranked 0 (suc k) d (omega arith) (omega (arith, lt)))
      (λ port bit h. omega (arith, few port bit, one-more (has_bit a port bit) (count port bit others) h)),
  ranked-sorted others (λ i j d le lt. ranked (suc i) (suc j) d (omega (arith, le)) (omega (arith, lt))) (All-tail HasBit a others whole)
      (λ port bit. omega (arith, few port bit, more-count (has_bit a port bit) (count port bit others))),
)

-- in order, where one at most has each bit, each ends before the next one begins
pub are_sorted : (xs : List Span) → IsSorted order xs → All (λ s. s.first < s.end) xs → ((port bit : ℕ) → count port bit xs ≤ 1) → AreSorted xs
are_sorted xs up whole few = ranked-sorted xs (λ i j d le lt. sorted_far (λ (x y : Span). is_lt (order x y)) order_ranks xs up i j d le lt) whole few

-- ---- the spans of associations that have no bit in common, sorted

module _ (ports signals : Shapes) (made : List Association) (found spans : List Span) (apart : AreApart ports made) (is : found ≡ spans_of ports signals made) (moved : IsPermutation found spans) where
  few : (port bit : ℕ) → count port bit found ≤ 1
  few port bit = let at : count port bit found ≡ count port bit (spans_of ports signals made) = ap (count port bit) is in omega (arith, at, one_counted port bit ports signals made apart)

  good : All (IsGood ports) spans
  good = All-permutation (IsGood ports) found spans moved (subst (All (IsGood ports)) (sym is) (good_spans ports signals made))

  pub sorted_result : IsSorted order spans → AreSorted spans
  sorted_result up = are_sorted spans up (λ k d lt. (good k d lt).0) (λ port bit. omega (arith, few port bit, count_permutation port bit found spans moved))

  pub inside_result : All (BeginsInside ports) spans
  inside_result k d lt = (good k d lt).1

  pub given_result : (port bit : ℕ) → given spans port bit ≡ connection ports signals port bit made
  given_result port bit =
      given_permutation port bit found spans moved (few port bit)
      ∙ ap (λ ss. given ss port bit) is
      ∙ given_spans ports signals port bit made
