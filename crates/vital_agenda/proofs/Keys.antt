-- Keys of the queue: a time, and then the number of a driver.
use Rattle.std.proofs.Common.{◌≡◌, ℕ, ◌<◌, ◌≤◌, Bool, true, false, ◌⊎◌, inl, inr, refl, ap, ◌∙◌, arith}
use Rattle.std.specs.declared.cmp.Ordering.{Ordering}
use Rattle.std.specs.declared.cmp.Ordering.TheVariants.{Less, Equal, Greater}
use Rattle.std.specs.Ordering.{is_eq, is_gt, nat_cmp, ordering_then}
use Rattle.std.specs.BTreeMap.{is_at}
use Rattle.std.proofs.lemmas.Bool.{le-ltb, lt-ltb, cases_lt, cases_eq, eq-eqb, ne_eqb}

abbrev pub Key : Type 0
Key = ℕ × ℕ

abbrev pub key_cmp : Key → Key → Ordering
key_cmp a b = ordering_then (nat_cmp a.0 b.0) (nat_cmp a.1 b.1)

less_is : (a b : ℕ) → nat_cmp a b ≡ Less → a < b
less_is a b h = elim (cases_lt a b) [
  | inl lt ↦ lt
  | inr ge ↦ elim (cases_eq a b) [
    | inl same ↦ let no : Equal ≡ Less = rw (le-ltb a b ge, eq-eqb a b same) at h in cc
    | inr other ↦ let no : Greater ≡ Less = rw (le-ltb a b ge, ne_eqb a b other) at h in cc
  ]
]

equal_is : (a b : ℕ) → nat_cmp a b ≡ Equal → a ≡ b
equal_is a b h = elim (cases_lt a b) [
  | inl lt ↦ let no : Less ≡ Equal = rw (lt-ltb a b lt) at h in cc
  | inr ge ↦ elim (cases_eq a b) [
    | inl same ↦ same
    | inr other ↦ let no : Greater ≡ Equal = rw (le-ltb a b ge, ne_eqb a b other) at h in cc
  ]
]

greater_is : (a b : ℕ) → nat_cmp a b ≡ Greater → b < a
greater_is a b h = elim (cases_lt a b) [
  | inl lt ↦ let no : Less ≡ Greater = rw (lt-ltb a b lt) at h in cc
  | inr ge ↦ elim (cases_eq a b) [
    | inl same ↦ let no : Equal ≡ Greater = rw (le-ltb a b ge, eq-eqb a b same) at h in cc
    | inr other ↦ omega arith
  ]
]

pub compare_lt : (a b : ℕ) → a < b → nat_cmp a b ≡ Less
compare_lt a b lt = rw (lt-ltb a b lt) refl

pub compare_eq : (a b : ℕ) → a ≡ b → nat_cmp a b ≡ Equal
compare_eq a b same = rw (le-ltb a b (omega arith), eq-eqb a b same) refl

pub compare_gt : (a b : ℕ) → b < a → nat_cmp a b ≡ Greater
compare_gt a b gt = rw (le-ltb a b (omega arith), ne_eqb a b (λ same. omega arith)) refl

-- how a key stands to one that comes after it
then_less : (x y : ℕ) (o : Ordering) → ordering_then (nat_cmp x y) o ≡ Less → (x < y) ⊎ ((x ≡ y) × (o ≡ Less))
then_less x y o h = elim (cases_lt x y) [
  | inl lt ↦ inl lt
  | inr ge ↦ elim (cases_eq x y) [
    | inl same ↦ inr (same, rw (compare_eq x y same) at h)
    | inr other ↦ let no : Greater ≡ Less = rw (compare_gt x y (omega arith)) at h in cc
  ]
]

then_equal : (x y : ℕ) (o : Ordering) → ordering_then (nat_cmp x y) o ≡ Equal → (x ≡ y) × (o ≡ Equal)
then_equal x y o h = elim (cases_lt x y) [
  | inl lt ↦ let no : Less ≡ Equal = rw (compare_lt x y lt) at h in cc
  | inr ge ↦ elim (cases_eq x y) [
    | inl same ↦ (same, rw (compare_eq x y same) at h)
    | inr other ↦ let no : Greater ≡ Equal = rw (compare_gt x y (omega arith)) at h in cc
  ]
]

then_greater : (x y : ℕ) (o : Ordering) → ordering_then (nat_cmp x y) o ≡ Greater → (y < x) ⊎ ((x ≡ y) × (o ≡ Greater))
then_greater x y o h = elim (cases_lt x y) [
  | inl lt ↦ let no : Less ≡ Greater = rw (compare_lt x y lt) at h in cc
  | inr ge ↦ elim (cases_eq x y) [
    | inl same ↦ inr (same, rw (compare_eq x y same) at h)
    | inr other ↦ inl (omega arith)
  ]
]

pub key_equal : (a b : Key) → key_cmp a b ≡ Equal → (a.0 ≡ b.0) × (a.1 ≡ b.1)
key_equal a b h = let both = then_equal a.0 b.0 (nat_cmp a.1 b.1) h in (both.0, equal_is a.1 b.1 both.1)

-- of one driver's keys, or of keys at one time, the lesser is at the lesser time, or of the lesser driver
pub key_less : (a b : Key) → key_cmp a b ≡ Less → (a.0 < b.0) ⊎ ((a.0 ≡ b.0) × (a.1 < b.1))
key_less a b h = elim (then_less a.0 b.0 (nat_cmp a.1 b.1) h) [ inl lt ↦ inl lt | inr both ↦ inr (both.0, less_is a.1 b.1 both.1) ]

pub key_greater : (a b : Key) → key_cmp a b ≡ Greater → (b.0 < a.0) ⊎ ((a.0 ≡ b.0) × (b.1 < a.1))
key_greater a b h = elim (then_greater a.0 b.0 (nat_cmp a.1 b.1) h) [ inl lt ↦ inl lt | inr both ↦ inr (both.0, greater_is a.1 b.1 both.1) ]

-- a search for a key finds that one alone
pub found_is : (a b : Key) → is_at (key_cmp a) b ≡ true → (a.0 ≡ b.0) × (a.1 ≡ b.1)
found_is a b h = key_equal a b (equal_from (key_cmp a b) h)
  where
    equal_from : (o : Ordering) → is_eq o ≡ true → o ≡ Equal
    equal_from Less h = cc
    equal_from Equal h = refl
    equal_from Greater h = cc

pub found_there : (a b : Key) → a.0 ≡ b.0 → a.1 ≡ b.1 → is_at (key_cmp a) b ≡ true
found_there a b time driver = rw (compare_eq a.0 b.0 time, compare_eq a.1 b.1 driver) refl

pub not_found : (a b : Key) → ((a.0 ≡ b.0) → (a.1 ≡ b.1) → ⊥) → is_at (key_cmp a) b ≡ false
not_found a b apart = from_bool (is_at (key_cmp a) b) (λ h. let both = found_is a b h in apart both.0 both.1)
  where
    from_bool : (b : Bool) → (b ≡ true → ⊥) → b ≡ false
    from_bool true h = absurd (h refl)
    from_bool false h = refl

less_from : (a b : Key) → (a.0 < b.0) ⊎ ((a.0 ≡ b.0) × (a.1 < b.1)) → key_cmp a b ≡ Less
less_from a b (inl lt) = rw (compare_lt a.0 b.0 lt) refl
less_from a b (inr both) = rw (compare_eq a.0 b.0 both.0, compare_lt a.1 b.1 both.1) refl

less_through : (a b c : Key) → (a.0 < b.0) ⊎ ((a.0 ≡ b.0) × (a.1 < b.1)) → (b.0 < c.0) ⊎ ((b.0 ≡ c.0) × (b.1 < c.1)) → (a.0 < c.0) ⊎ ((a.0 ≡ c.0) × (a.1 < c.1))
less_through a b c (inl lt) (inl lt') = inl (omega arith)
less_through a b c (inl lt) (inr both) = inl (omega arith)
less_through a b c (inr both) (inl lt) = inl (omega arith)
less_through a b c (inr both) (inr both') = inr (both.0 ∙ both'.0, omega arith)

pub key_less_trans : (a b c : Key) → key_cmp a b ≡ Less → key_cmp b c ≡ Less → key_cmp a c ≡ Less
key_less_trans a b c p q = less_from a c (less_through a b c (key_less a b p) (key_less b c q))

pub key_same : (a b : Key) → a.0 ≡ b.0 → a.1 ≡ b.1 → a ≡ b
key_same a b p q = ap (λ (x : ℕ). let k : Key = (x, a.1) in k) p ∙ ap (λ (y : ℕ). let k : Key = (b.0, y) in k) q

pub key_not_greater : (a b : Key) → is_gt (key_cmp a b) ≡ false → (a.0 < b.0) ⊎ ((a.0 ≡ b.0) × (a.1 ≤ b.1))
key_not_greater a b h = by_order (key_cmp a b) refl h
  where
    by_order : (o : Ordering) → key_cmp a b ≡ o → is_gt o ≡ false → (a.0 < b.0) ⊎ ((a.0 ≡ b.0) × (a.1 ≤ b.1))
    by_order Less order not_gt = elim (key_less a b order) [ inl lt ↦ inl lt | inr both ↦ inr (both.0, omega arith) ]
    by_order Equal order not_gt = let both = key_equal a b order in inr (both.0, omega (arith, both.1))
    by_order Greater order not_gt = cc
