-- The number of a bit among ordered bits.
use Rattle.std.proofs.Common.{◌≡◌, ℕ, zero, suc, ◌+◌, ◌<◌, ◌≤◌, true, false, List, [], ◌∷◌, length, get_or, refl, sym, ap, subst, ◌∙◌, arith}
use Rattle.std.proofs.lemmas.Bool.Decides.{nat_tests}
use Rattle.std.specs.Prelude.{Bool, cond, ◌&&◌, ◌==◌, nat_lt, position, Some, None, Result, Ok, Err}
use Rattle.std.specs.Cmp.{IsTotalOrder, ranks}
use Rattle.std.specs.List.{position_from}
use Rattle.std.specs.List.Sorted.{IsBinarySearchResult, IsNonDecreasingBy, IsSearchInRange, IsSortedBy}
use Rattle.std.specs.Ordering.{MatchOrdering, is_lt, nat_cmp, ordering_index, ordering_reverse, ordering_then}
use Rattle.std.specs.Result.{result_ok}
use Rattle.std.specs.declared.cmp.Ordering.{Ordering}
use Rattle.std.specs.declared.cmp.Ordering.TheVariants.{Less, Equal, Greater}
use Rattle.std.proofs.lemmas.Cmp.{nat_cmp_total, on_total, then_total}
use Rattle.std.proofs.lemmas.Iterator.Adapters.{position_from-zero}
use Rattle.std.proofs.lemmas.List.Sorted.{searchable_from_sorted}
use Rattle.vital_netlist.specs.declared.bit.Bit.{Bit}
use Rattle.vital_netlist.specs.Bits.{is_same}
use Rattle.vital_netlist.specs.Orders.{AreBehind, AreOrdered, order}

-- ---- where a test passes first

pub position-at : {A : Type 0} (test : A → Bool) (n : ℕ) (xs : List A) (i : ℕ) (d : A) → i < length xs → test (get_or xs i d) ≡ true → ((k : ℕ) → k < i → test (get_or xs k d) ≡ false) → position_from test n xs ≡ Some (n + i)
position-at test n [] i d lt here before = absurd (omega (arith, lt))
position-at test n (x ∷ xs) zero d lt here before = let same : n ≡ n + 0 = omega arith in ap (λ b. cond b (Some n) (position_from test (n + 1) xs)) here ∙ ap (λ m. Some m) same
position-at test n (x ∷ xs) (suc i) d lt here before =
    let same : (n + 1) + i ≡ n + suc i = omega arith in
    ap (λ b. cond b (Some n) (position_from test (n + 1) xs)) (before 0 (omega arith))
    ∙ position-at test (n + 1) xs i d (omega (arith, lt)) here (λ k less. before (suc k) (omega (arith, less)))
    ∙ ap (λ m. Some m) same

pub position-none : {A : Type 0} (test : A → Bool) (n : ℕ) (xs : List A) → ((k : ℕ) (d : A) → k < length xs → test (get_or xs k d) ≡ false) → position_from test n xs ≡ None
position-none test n [] none = refl
position-none test n (x ∷ xs) none =
    ap (λ b. cond b (Some n) (position_from test (n + 1) xs)) (none 0 x (omega arith))
    ∙ position-none test (n + 1) xs (λ k d lt. none (suc k) d (omega (arith, lt)))

-- ---- the order of bits

pub order_total : IsTotalOrder order
order_total = then_total (on_total (λ (b : Bit). b.instance) nat_cmp_total) (then_total (on_total (λ (b : Bit). b.object) nat_cmp_total) (on_total (λ (b : Bit). b.offset) nat_cmp_total))

equal-numbers : (x y : ℕ) → nat_cmp x y ≡ Equal → x ≡ y
equal-numbers x y e = let P : Ordering → Type 0 = λ o. MatchOrdering o (x < y) (x ≡ y) (y < x) in subst P e (ranks x y)

equal-parts : (a b : Bit) (r s t : Ordering) → nat_cmp a.instance b.instance ≡ r → nat_cmp a.object b.object ≡ s → nat_cmp a.offset b.offset ≡ t → ordering_then r (ordering_then s t) ≡ Equal → (a.instance ≡ b.instance) × (a.object ≡ b.object) × (a.offset ≡ b.offset)
equal-parts a b Less s t r-is s-is t-is e = absurd (cc)
equal-parts a b Greater s t r-is s-is t-is e = absurd (cc)
equal-parts a b Equal Less t r-is s-is t-is e = absurd (cc)
equal-parts a b Equal Greater t r-is s-is t-is e = absurd (cc)
equal-parts a b Equal Equal Less r-is s-is t-is e = absurd (cc)
equal-parts a b Equal Equal Greater r-is s-is t-is e = absurd (cc)
equal-parts a b Equal Equal Equal r-is s-is t-is e = (equal-numbers a.instance b.instance r-is, equal-numbers a.object b.object s-is, equal-numbers a.offset b.offset t-is)

equal-is : (a b : Bit) → order a b ≡ Equal → (a.instance ≡ b.instance) × (a.object ≡ b.object) × (a.offset ≡ b.offset)
equal-is a b e = equal-parts a b (nat_cmp a.instance b.instance) (nat_cmp a.object b.object) (nat_cmp a.offset b.offset) refl refl refl e

same-numbers : (a b c d e f : ℕ) → a ≡ d → b ≡ e → c ≡ f → ((d == a) && (e == b) && (f == c)) ≡ true
same-numbers a b c d e f p q r = grind (arith, nat_tests)

other-numbers : (a b c d e f : ℕ) → ((d == a) && (e == b) && (f == c)) ≡ true → (a ≡ d) × (b ≡ e) × (c ≡ f)
other-numbers a b c d e f h = (grind (arith, nat_tests), grind (arith, nat_tests), grind (arith, nat_tests))

-- bits that are equal by the order are the same
equal-same : (a b : Bit) → order a b ≡ Equal → is_same b a ≡ true
equal-same a b e = let is = equal-is a b e in same-numbers a.instance a.object a.offset b.instance b.object b.offset is.0 is.1 is.2

alike : (i i' o o' f f' : ℕ) → i ≡ i' → o ≡ o' → f ≡ f' → ordering_then (nat_cmp i i') (ordering_then (nat_cmp o o') (nat_cmp f f')) ≡ ordering_then (nat_cmp i i) (ordering_then (nat_cmp o o) (nat_cmp f f))
alike i i' o o' f f' p q r = sym (ap (λ n. ordering_then (nat_cmp i n) (ordering_then (nat_cmp o o) (nat_cmp f f))) p ∙ ap (λ n. ordering_then (nat_cmp i i') (ordering_then (nat_cmp o n) (nat_cmp f f))) q ∙ ap (λ n. ordering_then (nat_cmp i i') (ordering_then (nat_cmp o o') (nat_cmp f n))) r)

own-turned : (r : Ordering) → r ≡ ordering_reverse r → r ≡ Equal
own-turned Less e = absurd (cc)
own-turned Equal e = refl
own-turned Greater e = absurd (cc)

same-equal : (a b : Bit) → is_same b a ≡ true → order a b ≡ Equal
same-equal a b h =
    let is = other-numbers a.instance a.object a.offset b.instance b.object b.offset h in
    alike a.instance b.instance a.object b.object a.offset b.offset is.0 is.1 is.2
    ∙ own-turned (order a a) (order_total.antisymm a a)

by-order : (a b : Bit) (r : Ordering) (t : Bool) → order a b ≡ r → is_same b a ≡ t → (r ≡ Equal → ⊥) → t ≡ false
by-order a b r false o s h = refl
by-order a b r true o s h = absurd (h (sym o ∙ same-equal a b s))

not-same : (a b : Bit) → (order a b ≡ Equal → ⊥) → is_same b a ≡ false
not-same a b h = by-order a b (order a b) (is_same b a) refl refl h

-- ---- ordered bits

behind-at : (a : Bit) (others : List Bit) (k : ℕ) (d : Bit) → AreBehind a others → k < length others → order a (get_or others k d) ≡ Less
behind-at a [] k d behind lt = absurd (omega (arith, lt))
behind-at a (b ∷ others) zero d behind lt = behind.0
behind-at a (b ∷ others) (suc k) d behind lt = behind-at a others k d behind.1 (omega (arith, lt))

pub ordered-at : (xs : List Bit) (i j : ℕ) (d : Bit) → AreOrdered xs → i < j → j < length xs → order (get_or xs i d) (get_or xs j d) ≡ Less
ordered-at [] i j d ordered less lt = absurd (omega (arith, lt))
ordered-at (a ∷ others) i zero d ordered less lt = absurd (omega (arith, less))
ordered-at (a ∷ others) zero (suc j) d ordered less lt = behind-at a others j d ordered.0 (omega (arith, lt))
ordered-at (a ∷ others) (suc i) (suc j) d ordered less lt = ordered-at others i j d ordered.1 (omega (arith, less)) (omega (arith, lt))

not-less : (a b : Bit) → order a b ≡ Less → is_lt (order b a) ≡ false
not-less a b e = ap is_lt (order_total.antisymm b a ∙ ap ordering_reverse e)

sorted : (xs : List Bit) → AreOrdered xs → IsSortedBy (λ a b. is_lt (order a b)) xs
sorted xs ordered k d lo lt = not-less (get_or xs k d) (get_or xs (k + 1) d) (ordered-at xs k (k + 1) d ordered (omega arith) lt)

rising : (xs : List Bit) (b : Bit) → AreOrdered xs → IsNonDecreasingBy (λ y. ordering_index (order y b)) xs
rising xs b ordered = searchable_from_sorted order_total (λ (y : Bit). y) xs b (sorted xs ordered)

less-not : (r : Ordering) → r ≡ Less → r ≡ Equal → ⊥
less-not r e e' = cc

greater-not : (r : Ordering) → r ≡ Greater → r ≡ Equal → ⊥
greater-not r e e' = cc

-- where one is found, no earlier one is the same
earlier : (xs : List Bit) (b : Bit) (i k : ℕ) (d : Bit) → AreOrdered xs → i < length xs → k < i → order (get_or xs i d) b ≡ Equal → is_same b (get_or xs k d) ≡ false
earlier xs b i k d ordered lt less e =
    not-same (get_or xs k d) b
    (λ e'. less-not (order (get_or xs k d) (get_or xs i d)) (ordered-at xs k i d ordered less lt)
    (order_total.congr (get_or xs k d) b (get_or xs i d) e' ∙ order_total.antisymm b (get_or xs i d) ∙ ap ordering_reverse e))

is-less : (k i : ℕ) → nat_lt k i ≡ true → k < i
is-less k i h = grind (arith, nat_tests)

is-most : (k i : ℕ) → nat_lt k i ≡ false → i ≤ k
is-most k i h = grind (arith, nat_tests)

zero-plus : (i : ℕ) → 0 + i ≡ i
zero-plus i = omega arith

by-point : (xs : List Bit) (b : Bit) (i k : ℕ) (d : Bit) (t : Bool) → nat_lt k i ≡ t → ((k : ℕ) (d : Bit) → 0 ≤ k → k < i → order (get_or xs k d) b ≡ Less) → ((k : ℕ) (d : Bit) → i ≤ k → k < length xs → order (get_or xs k d) b ≡ Greater) → k < length xs → order (get_or xs k d) b ≡ Equal → ⊥
by-point xs b i k d true is before after lt e = less-not (order (get_or xs k d) b) (before k d (omega arith) (is-less k i is)) e
by-point xs b i k d false is before after lt e = greater-not (order (get_or xs k d) b) (after k d (is-most k i is) lt) e

-- what a search among ordered bits answers is the number of the bit
pub found_is : (xs : List Bit) (b : Bit) (r : Result ℕ ℕ) → AreOrdered xs → IsSearchInRange r (length xs) → IsBinarySearchResult (λ y. order y b) xs r → result_ok r ≡ position (is_same b) xs
found_is xs b (Ok i) ordered inside found =
    sym
    (position_from-zero (is_same b) xs
    ∙ position-at (is_same b) 0 xs i b inside (equal-same (get_or xs i b) b (found b)) (λ k less. earlier xs b i k b ordered inside less (found b))
    ∙ ap (λ m. Some m) (zero-plus i))
found_is xs b (Err i) ordered inside found =
    let point = found (rising xs b ordered) in
    sym
    (position_from-zero (is_same b) xs
    ∙ position-none (is_same b) 0 xs (λ k d lt. not-same (get_or xs k d) b (by-point xs b i k d (nat_lt k i) refl point.0 point.1 lt)))

-- where a bit stands that is equal by the order is the number of the bit
pub equal-there : (xs : List Bit) (b x : Bit) (i : ℕ) → AreOrdered xs → i < length xs → ((d : Bit) → x ≡ get_or xs i d) → order x b ≡ Equal → position (is_same b) xs ≡ Some i
equal-there xs b x i ordered inside here equal = sym (found_is xs b (Ok i) ordered inside (λ d. ap (λ y. order y b) (sym (here d)) ∙ equal))
