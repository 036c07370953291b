-- The bits of a design stand in order.
use Rattle.std.proofs.Common.{◌≡◌, ℕ, zero, suc, ◌+◌, ◌<◌, ◌≤◌, true, false, List, [], ◌∷◌, ◌++◌, map, refl, sym, ap, subst, ◌∙◌, arith}
use Rattle.std.specs.Prelude.{⊤, Bool, cond, ◌==◌, nat_lt, filter}
use Rattle.std.specs.List.{enumerate_from, flat_map, range_with_len}
use Rattle.std.specs.Ordering.{nat_cmp, ordering_then}
use Rattle.std.specs.declared.cmp.Ordering.TheVariants.{Less, Equal, Greater}
use Rattle.std.proofs.lemmas.Bool.Decides.{nat_tests}
use Rattle.vital_netlist.specs.declared.bit.Bit.{Bit}
use Rattle.vital_netlist.specs.Bits.{bit}
use Rattle.vital_netlist.specs.Orders.{AreBehind, AreOrdered, order}

-- ---- numbers

is-less : (x y : ℕ) → x < y → nat_lt x y ≡ true
is-less x y h = grind (arith, nat_tests)

is-not-less : (x y : ℕ) → x ≡ y → nat_lt x y ≡ false
is-not-less x y h = grind (arith, nat_tests)

is-equal : (x y : ℕ) → x ≡ y → (x == y) ≡ true
is-equal x y h = grind (arith, nat_tests)

less-cmp : (x y : ℕ) → x < y → nat_cmp x y ≡ Less
less-cmp x y h = ap (λ b. cond b Less (cond (x == y) Equal Greater)) (is-less x y h)

equal-cmp : (x y : ℕ) → x ≡ y → nat_cmp x y ≡ Equal
equal-cmp x y h = ap (λ b. cond b Less (cond (x == y) Equal Greater)) (is-not-less x y h) ∙ ap (λ b. cond b Equal Greater) (is-equal x y h)

by-instance : (a b : Bit) → a.instance < b.instance → order a b ≡ Less
by-instance a b h = ap (λ o. ordering_then o (ordering_then (nat_cmp a.object b.object) (nat_cmp a.offset b.offset))) (less-cmp a.instance b.instance h)

by-object : (a b : Bit) → a.instance ≡ b.instance → a.object < b.object → order a b ≡ Less
by-object a b e h =
    ap (λ o. ordering_then o (ordering_then (nat_cmp a.object b.object) (nat_cmp a.offset b.offset))) (equal-cmp a.instance b.instance e)
    ∙ ap (λ o. ordering_then o (nat_cmp a.offset b.offset)) (less-cmp a.object b.object h)

by-offset : (a b : Bit) → a.instance ≡ b.instance → a.object ≡ b.object → a.offset < b.offset → order a b ≡ Less
by-offset a b e e' h =
    ap (λ o. ordering_then o (ordering_then (nat_cmp a.object b.object) (nat_cmp a.offset b.offset))) (equal-cmp a.instance b.instance e)
    ∙ ap (λ o. ordering_then o (nat_cmp a.offset b.offset)) (equal-cmp a.object b.object e')
    ∙ less-cmp a.offset b.offset h

-- ---- lists

abbrev Each : (Bit → Type 0) → List Bit → Type 0
Each P [] = ⊤
Each P (b ∷ others) = P b × Each P others

each-append : (P : Bit → Type 0) (xs ys : List Bit) → Each P xs → Each P ys → Each P (xs ++ ys)
each-append P [] ys h k = k
each-append P (x ∷ xs) ys h k = (h.0, each-append P xs ys h.1 k)

each-weaker : (P Q : Bit → Type 0) (xs : List Bit) → ((b : Bit) → P b → Q b) → Each P xs → Each Q xs
each-weaker P Q [] w h = tt
each-weaker P Q (x ∷ xs) w h = (w x h.0, each-weaker P Q xs w h.1)

behind-from : (P : Bit → Type 0) (a : Bit) (xs : List Bit) → Each P xs → ((b : Bit) → P b → order a b ≡ Less) → AreBehind a xs
behind-from P a [] h less = tt
behind-from P a (x ∷ xs) h less = (less x h.0, behind-from P a xs h.1 less)

behind-append : (a : Bit) (xs ys : List Bit) → AreBehind a xs → AreBehind a ys → AreBehind a (xs ++ ys)
behind-append a [] ys h k = k
behind-append a (x ∷ xs) ys h k = (h.0, behind-append a xs ys h.1 k)

ordered-append : (P Q : Bit → Type 0) (xs ys : List Bit) → AreOrdered xs → AreOrdered ys → Each P xs → Each Q ys → ((a b : Bit) → P a → Q b → order a b ≡ Less) → AreOrdered (xs ++ ys)
ordered-append P Q [] ys up up' h k less = up'
ordered-append P Q (x ∷ xs) ys up up' h k less =
    (behind-append x xs ys up.0 (behind-from Q x ys k (λ b q. less x b h.0 q)), ordered-append P Q xs ys up.1 up' h.1 k less)

behind-filter : (p : Bit → Bool) (a : Bit) (xs : List Bit) → AreBehind a xs → AreBehind a (filter p xs)
behind-filter p a [] h = tt
behind-filter p a (x ∷ xs) h = step (p x) (behind-filter p a xs h.1)
  where
    step : (t : Bool) → AreBehind a (filter p xs) → AreBehind a (cond t (x ∷ filter p xs) (filter p xs))
    step true k = (h.0, k)
    step false k = k

pub ordered_filter : (p : Bit → Bool) (xs : List Bit) → AreOrdered xs → AreOrdered (filter p xs)
ordered_filter p [] up = tt
ordered_filter p (x ∷ xs) up = step (p x) (ordered_filter p xs up.1)
  where
    step : (t : Bool) → AreOrdered (filter p xs) → AreOrdered (cond t (x ∷ filter p xs) (filter p xs))
    step true k = (behind-filter p x xs up.0, k)
    step false k = k

-- ---- the bits of one port or signal

abbrev At : ℕ → ℕ → Bit → Type 0
At n k b = (b.instance ≡ n) × (b.object ≡ k)

abbrev IsFromOffset : ℕ → ℕ → ℕ → Bit → Type 0
IsFromOffset n k f b = (b.instance ≡ n) × (b.object ≡ k) × (f ≤ b.offset)

abbrev row : ℕ → ℕ → ℕ → ℕ → List Bit
row n k f len = map (bit n) (map (λ offset. (k, offset)) (range_with_len f len))

row-from : (n k f len : ℕ) → Each (IsFromOffset n k f) (row n k f len)
row-from n k f zero = tt
row-from n k f (suc len) =
    ((refl, refl, omega arith), each-weaker (IsFromOffset n k (f + 1)) (IsFromOffset n k f) (row n k (f + 1) len) (λ b h. (h.0, h.1, omega (arith, h.2))) (row-from n k (f + 1) len))

row-ordered : (n k f len : ℕ) → AreOrdered (row n k f len)
row-ordered n k f zero = tt
row-ordered n k f (suc len) = (
  behind-from (IsFromOffset n k (f + 1)) (bit n (k, f)) (row n k (f + 1) len) (row-from n k (f + 1) len) (λ b h. by-offset (bit n (k, f)) b (sym h.0) (sym h.1) (omega (arith, h.2))),
  row-ordered n k (f + 1) len,
)

-- ---- those of an instance

abbrev IsOf : ℕ → Bit → Type 0
IsOf n b = b.instance ≡ n

abbrev IsFromObject : ℕ → ℕ → Bit → Type 0
IsFromObject n k b = (b.instance ≡ n) × (k ≤ b.object)

map-append' : (f : ℕ × ℕ → Bit) (xs ys : List (ℕ × ℕ)) → map f (xs ++ ys) ≡ map f xs ++ map f ys
map-append' f [] ys = refl
map-append' f (x ∷ xs) ys = ap (λ bs. f x ∷ bs) (map-append' f xs ys)

module _ {A : Type 0} (len : A → ℕ) where
  abbrev whole : ℕ × A → List (ℕ × ℕ)
  whole o = map (λ offset. (o.0, offset)) (range_with_len 0 (len o.1))

  abbrev rows : ℕ → ℕ → List A → List Bit
  rows n k os = map (bit n) (flat_map whole (enumerate_from k os))

  rows-more : (n k : ℕ) (o : A) (os : List A) → rows n k (o ∷ os) ≡ row n k 0 (len o) ++ rows n (k + 1) os
  rows-more n k o os = map-append' (bit n) (whole (k, o)) (flat_map whole (enumerate_from (k + 1) os))

  rows-from : (n k : ℕ) (os : List A) → Each (IsFromObject n k) (rows n k os)
  rows-from n k [] = tt
  rows-from n k (o ∷ os) =
      let P : List Bit → Type 0 = Each (IsFromObject n k) in
      subst P (sym (rows-more n k o os))
      (each-append (IsFromObject n k) (row n k 0 (len o)) (rows n (k + 1) os)
      (each-weaker (IsFromOffset n k 0) (IsFromObject n k) (row n k 0 (len o)) (λ b h. (h.0, omega (arith, h.1))) (row-from n k 0 (len o)))
      (each-weaker (IsFromObject n (k + 1)) (IsFromObject n k) (rows n (k + 1) os) (λ b h. (h.0, omega (arith, h.1))) (rows-from n (k + 1) os)))

  rows-ordered : (n k : ℕ) (os : List A) → AreOrdered (rows n k os)
  rows-ordered n k [] = tt
  rows-ordered n k (o ∷ os) =
      subst AreOrdered (sym (rows-more n k o os))
      (ordered-append (IsFromOffset n k 0) (IsFromObject n (k + 1)) (row n k 0 (len o)) (rows n (k + 1) os) (row-ordered n k 0 (len o)) (rows-ordered n (k + 1) os)
      (row-from n k 0 (len o))
      (rows-from n (k + 1) os)
      (λ a b p q. by-object a b (p.0 ∙ sym q.0) (omega (arith, p.1, q.1))))

-- ---- those of all instances

abbrev IsFrom : ℕ → Bit → Type 0
IsFrom n b = n ≤ b.instance

module _ {A B : Type 0} (len : A → ℕ) (objects : B → List A) where
  abbrev all-rows : ℕ → List B → List Bit
  all-rows n is = flat_map (λ i. rows len i.0 0 (objects i.1)) (enumerate_from n is)

  all-from : (n : ℕ) (is : List B) → Each (IsFrom n) (all-rows n is)
  all-from n [] = tt
  all-from n (i ∷ is) =
      each-append (IsFrom n) (rows len n 0 (objects i)) (all-rows (n + 1) is)
      (each-weaker (IsFromObject n 0) (IsFrom n) (rows len n 0 (objects i)) (λ b h. omega (arith, h.0)) (rows-from len n 0 (objects i)))
      (each-weaker (IsFrom (n + 1)) (IsFrom n) (all-rows (n + 1) is) (λ b h. omega (arith, h)) (all-from (n + 1) is))

  pub all_ordered : (n : ℕ) (is : List B) → AreOrdered (all-rows n is)
  all_ordered n [] = tt
  all_ordered n (i ∷ is) =
      ordered-append (IsFromObject n 0) (IsFrom (n + 1)) (rows len n 0 (objects i)) (all-rows (n + 1) is) (rows-ordered len n 0 (objects i)) (all_ordered (n + 1) is)
      (rows-from len n 0 (objects i))
      (all-from (n + 1) is)
      (λ a b p q. by-instance a b (omega (arith, p.0, q)))
