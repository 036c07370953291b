-- The span in which a bit is.
use Rattle.std.proofs.Common.{◌≡◌, ℕ, zero, suc, ◌-◌, ◌<◌, ◌≤◌, true, false, List, [], ◌∷◌, length, take, get_or, refl, sym, ap, ◌∙◌, arith}
use Rattle.std.specs.Prelude.{Bool, cond, ◌&&◌, ◌||◌, ◌==◌, nat_le, nat_lt, Option, Some, None}
use Rattle.std.specs.List.{AllWithin, slice_get}
use Rattle.std.specs.List.Sorted.{IsPartitionedBy}
use Rattle.std.specs.Option.{option_and_then, option_or}
use Rattle.std.proofs.lemmas.Bool.Decides.{nat_tests}
use Rattle.vital_connections.specs.Connections.{Connection}
use Rattle.vital_connections.specs.Spans.{AreBehind, AreSorted, begins_upto, behind, ends_before, given, given_by, has_bit, last_upto, seen}
use Rattle.vital_connections.specs.declared.span.Span.{Span}

module _ (port bit : ℕ) where
  abbrev gives : Span → Option Connection
  gives s = given_by port bit s

  abbrev upto : Span → Bool
  upto s = begins_upto port bit s

  gives-none : (s : Span) → has_bit s port bit ≡ false → gives s ≡ None
  gives-none s h = ap (λ b. cond b (Some (behind (bit - s.first) (seen s.connected))) None) h

  -- ---- numbers

  before-numbers : (ap af ae bp bf : ℕ) → af < ae → (nat_lt ap bp || ((ap == bp) && nat_le ae bf)) ≡ true → (nat_lt bp port || ((bp == port) && nat_le bf bit)) ≡ true → (nat_lt ap port || ((ap == port) && nat_le af bit)) ≡ true
  before-numbers ap af ae bp bf some ends begins = grind (arith, nat_tests)

  past-numbers : (ap af ae bp bf : ℕ) → (nat_lt ap bp || ((ap == bp) && nat_le ae bf)) ≡ true → (nat_lt bp port || ((bp == port) && nat_le bf bit)) ≡ true → ((ap == port) && nat_le af bit && nat_lt bit ae) ≡ false
  past-numbers ap af ae bp bf ends begins = grind (arith, nat_tests)

  behind-numbers : (ap af ae : ℕ) → (nat_lt ap port || ((ap == port) && nat_le af bit)) ≡ false → ((ap == port) && nat_le af bit && nat_lt bit ae) ≡ false
  behind-numbers ap af ae begins = grind (arith, nat_tests)

  -- ---- sorted spans are parted by a bit

  behind-at : (a : Span) (others : List Span) (k : ℕ) (d : Span) → AreBehind a others → k < length others → ends_before a (get_or others k d) ≡ true
  behind-at a [] k d behind lt = absurd (omega (arith, lt))
  behind-at a (b ∷ others) zero d behind lt = behind.0
  behind-at a (b ∷ others) (suc k) d behind lt = behind-at a others k d behind.1 (omega (arith, lt))

  pub parted : (xs : List Span) → AreSorted xs → IsPartitionedBy (λ s. begins_upto port bit s) xs
  parted [] sorted i j d le lt h = absurd (omega (arith, lt))
  parted (a ∷ others) sorted zero zero d le lt h = h
  parted (a ∷ others) sorted zero (suc j) d le lt h =
      let b = get_or others j d in
      before-numbers a.port a.first a.end b.port b.first sorted.0 (behind-at a others j d sorted.1 (omega (arith, lt))) h
  parted (a ∷ others) sorted (suc i) zero d le lt h = absurd (omega (arith, le))
  parted (a ∷ others) sorted (suc i) (suc j) d le lt h = parted others sorted.2 i j d (omega (arith, le)) (omega (arith, lt)) h

  -- ---- the last span that does not begin behind a bit

  none-upto : (xs : List Span) → AllWithin (λ s. begins_upto port bit s ≡ false) xs 0 (length xs) → last_upto port bit xs ≡ None
  none-upto [] h = refl
  none-upto (x ∷ xs) h =
      ap (λ o. option_or o (cond (upto x) (Some x) None)) (none-upto xs (λ k d lo lt. h (suc k) d (omega arith) (omega (arith, lt))))
      ∙ ap (λ b. cond b (Some x) None) (h 0 x (omega arith) (omega arith))

  get-or : (xs : List Span) (k : ℕ) (o : Option Span) → k < length xs → option_or (slice_get xs k) o ≡ slice_get xs k
  get-or [] k o lt = absurd (omega (arith, lt))
  get-or (x ∷ xs) zero o lt = refl
  get-or (x ∷ xs) (suc k) o lt = get-or xs k o (omega (arith, lt))

  last-more : (x y : Span) (ys : List Span) → slice_get (x ∷ y ∷ ys) (length (x ∷ y ∷ ys) - 1) ≡ slice_get (y ∷ ys) (length (y ∷ ys) - 1)
  last-more x y ys = let less : length (x ∷ y ∷ ys) - 1 ≡ suc (length (y ∷ ys) - 1) = omega arith in ap (slice_get (x ∷ y ∷ ys)) less

  -- it is the last one of those before the point that parts them
  pub last_is : (xs : List Span) (i : ℕ) → i ≤ length xs → AllWithin (λ s. begins_upto port bit s ≡ true) xs 0 i → AllWithin (λ s. begins_upto port bit s ≡ false) xs i (length xs) → slice_get (take i xs) (length (take i xs) - 1) ≡ last_upto port bit xs
  last_is [] zero le before after = refl
  last_is [] (suc i) le before after = refl
  last_is (x ∷ xs) zero le before after = sym (none-upto (x ∷ xs) after)
  last_is (x ∷ xs) (suc zero) le before after =
      sym
      (ap (λ o. option_or o (cond (upto x) (Some x) None)) (none-upto xs (λ k d lo lt. after (suc k) d (omega arith) (omega (arith, lt))))
      ∙ ap (λ b. cond b (Some x) None) (before 0 x (omega arith) (omega arith)))
  last_is (x ∷ []) (suc (suc i)) le before after = absurd (omega (arith, le))
  last_is (x ∷ y ∷ ys) (suc (suc i)) le before after =
      let rest = last_is (y ∷ ys) (suc i) (omega (arith, le)) (λ k d lo lt. before (suc k) d (omega arith) (omega (arith, lt))) (λ k d lo lt. after (suc k) d (omega (arith, lo)) (omega (arith, lt))) in
      last-more x y (take i ys)
      ∙ sym (get-or (y ∷ take i ys) (length (y ∷ take i ys) - 1) (cond (upto x) (Some x) None) (omega arith))
      ∙ ap (λ o. option_or o (cond (upto x) (Some x) None)) rest

  -- ---- what it gives

  or-none : (o : Option Connection) → option_or o None ≡ o
  or-none None = refl
  or-none (Some c) = refl

  -- where the last of the spans behind another one does not begin behind the bit, that ends before it
  last-behind : (a : Span) (others : List Span) (s : Span) → AreBehind a others → last_upto port bit others ≡ Some s → has_bit a port bit ≡ false
  last-behind a [] s behind e = absurd (cc)
  last-behind a (b ∷ others) s behind e = step (last_upto port bit others) refl (upto b) refl e (λ last. last-behind a others last behind.1)
    where
      step : (o : Option Span) → last_upto port bit others ≡ o → (t : Bool) → upto b ≡ t → option_or o (cond t (Some b) None) ≡ Some s → ((last : Span) → last_upto port bit others ≡ Some last → has_bit a port bit ≡ false) → has_bit a port bit ≡ false
      step (Some last) is t t-is e rest = rest last is
      step None is true t-is e rest = past-numbers a.port a.first a.end b.port b.first behind.0 t-is
      step None is false t-is e rest = absurd (cc)

  -- spans give a bit what the last one does that does not begin behind it
  pub given_last : (xs : List Span) → AreSorted xs → given xs port bit ≡ option_and_then (λ s. given_by port bit s) (last_upto port bit xs)
  given_last [] sorted = refl
  given_last (a ∷ others) sorted = step (last_upto port bit others) refl (upto a) refl (given_last others sorted.2)
    where
      step : (o : Option Span) → last_upto port bit others ≡ o → (t : Bool) → upto a ≡ t → given others port bit ≡ option_and_then gives (last_upto port bit others) → given (a ∷ others) port bit ≡ option_and_then gives (option_or o (cond t (Some a) None))
      step (Some s) is t t-is rest =
          ap (λ g. option_or g (given others port bit)) (gives-none a (last-behind a others s sorted.1 is))
          ∙ rest
          ∙ ap (option_and_then gives) is
      step None is true t-is rest = ap (option_or (gives a)) (rest ∙ ap (option_and_then gives) is) ∙ or-none (gives a)
      step None is false t-is rest =
          ap (option_or (gives a)) (rest ∙ ap (option_and_then gives) is)
          ∙ or-none (gives a)
          ∙ gives-none a (behind-numbers a.port a.first a.end t-is)
