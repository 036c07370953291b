-- The names of the bits of ports differ, where the names of the ports do.
use Rattle.std.proofs.Common.{◌≡◌, ℕ, zero, suc, ◌+◌, ◌<◌, List, [], ◌∷◌, ◌++◌, map, get_or, true, false, refl, sym, ap, subst, ◌∙◌, append_assoc, append-nil, inl, inr, arith}
use Rattle.std.specs.Prelude.{Bool, cond, ◌&&◌, ◌==◌, if◌then◌else◌, Option, Some, None}
use Rattle.std.specs.List.{AllByRecursion, flat_map, range_with_len}
use Rattle.std.specs.Int.Digits.{digits_of}
use Rattle.std.specs.Str.{bytes_eq}
use Rattle.std.proofs.lemmas.Bool.{false_from_ne_true}
use Rattle.std.proofs.lemmas.Bool.Decides.{nat_tests}
use Rattle.std.proofs.lemmas.Int.Digits.{first_digits_of, same_from_digits_of}
use Rattle.std.proofs.lemmas.List.{append_cancel_right}
use Rattle.std.proofs.lemmas.Slice.Eq.{bytes_eq-Decides}
use Rattle.vital_connections.specs.Objects.{Object, index_at, index_from}
use Rattle.vital_declarations.specs.Numbers.{length_between}
use Rattle.vital_netlist.specs.Names.{bit_name}
use Rattle.vital_vhdl_lexemes.specs.Bytes.{is_graphic, is_letter_or_digit}
use Rattle.vital_vhdl_lexemes.specs.Forms.{are_underlined, begins, closes, continues, is_extended_identifier}
use Rattle.vital_naturals.specs.Numerals.{numeral}
use Rattle.vital_nodes.specs.IdentifierNames.{IsIdentifierName}
use Rattle.vital_nodes.specs.declared.expr.Direction.{Direction}
use Rattle.vital_nodes.specs.declared.expr.Direction.TheVariants.{To, Downto}
use Rattle.vital_structure.specs.Shapes.{Shape, Scalar, Vector, bits_of}
use Rattle.vital_typed_cells.proofs.Apart.{AreApart}
use Rattle.vital_netlist.proofs.Bits.{both-true}
use Rattle.vital_netlist.proofs.Lists.{each-append, each-between, each-map, each-unmap}
use Rattle.vital_netlist.proofs.UnitNames.{IsObjectFormed}

-- ---- numerals

map-plus : (xs ys : List ℕ) → map (λ d. 48 + d) xs ≡ map (λ d. 48 + d) ys → xs ≡ ys
map-plus [] [] e = refl
map-plus [] (y ∷ ys) e = absurd (cc)
map-plus (x ∷ xs) [] e = absurd (cc)
map-plus (x ∷ xs) (y ∷ ys) e =
    let head : 48 + x ≡ 48 + y = cc in
    let tail : map (λ d. 48 + d) xs ≡ map (λ d. 48 + d) ys = cc in
    let p : x ≡ y = omega (arith, head) in
    let q = map-plus xs ys tail in
    λ i. p i ∷ q i

no-zero : (ds : List ℕ) → 0 < get_or ds 0 0 → 48 ∷ [] ≡ map (λ d. 48 + d) ds → ⊥
no-zero [] some e = omega (arith, some)
no-zero (d ∷ ds) some e = let head : 48 ≡ 48 + d = cc in omega (arith, head, some)

numeral-same : (m n : ℕ) → numeral m ≡ numeral n → m ≡ n
numeral-same zero zero e = refl
numeral-same zero (suc n) e = absurd (no-zero (digits_of 10 (suc n)) (first_digits_of 10 (suc n) (omega arith) (omega arith)) e)
numeral-same (suc m) zero e = absurd (no-zero (digits_of 10 (suc m)) (first_digits_of 10 (suc m) (omega arith) (omega arith)) (sym e))
numeral-same (suc m) (suc n) e = same_from_digits_of 10 (suc m) (suc n) (omega arith) (map-plus (digits_of 10 (suc m)) (digits_of 10 (suc n)) e)

-- ---- what stands behind the last opening parenthesis

last-part : List ℕ → List ℕ → List ℕ
last-part acc [] = acc
last-part acc (x ∷ xs) = if x == 40 then last-part [] xs else last-part (acc ++ x ∷ []) xs

by-mark : (b : Bool) (acc : List ℕ) (x : ℕ) (xs rest : List ℕ) → ((a : List ℕ) → last-part a (xs ++ 40 ∷ rest) ≡ last-part [] rest) → cond b (last-part [] (xs ++ 40 ∷ rest)) (last-part (acc ++ x ∷ []) (xs ++ 40 ∷ rest)) ≡ last-part [] rest
by-mark true acc x xs rest all = all []
by-mark false acc x xs rest all = all (acc ++ x ∷ [])

past-mark : (acc xs rest : List ℕ) → last-part acc (xs ++ 40 ∷ rest) ≡ last-part [] rest
unfolding last-part
past-mark acc [] rest = refl
past-mark acc (x ∷ xs) rest = by-mark (x == 40) acc x xs rest (λ a. past-mark a xs rest)

no-mark : (acc xs : List ℕ) → AllByRecursion (λ x. (x == 40) ≡ false) xs → last-part acc xs ≡ acc ++ xs
unfolding last-part
no-mark acc [] all = sym (append-nil acc)
no-mark acc (x ∷ xs) all =
    ap (λ b. cond b (last-part [] xs) (last-part (acc ++ x ∷ []) xs)) all.0 ∙ no-mark (acc ++ x ∷ []) xs all.1 ∙ append_assoc acc (x ∷ []) xs

no-digit : (d : ℕ) → ((48 + d) == 40) ≡ false
no-digit d = grind (arith, nat_tests)

digits-marks : (ds : List ℕ) → AllByRecursion (λ x. (x == 40) ≡ false) (map (λ d. 48 + d) ds)
digits-marks [] = tt
digits-marks (d ∷ ds) = (no-digit d, digits-marks ds)

numeral-marks : (n : ℕ) → AllByRecursion (λ x. (x == 40) ≡ false) (numeral n)
numeral-marks zero = (refl, tt)
numeral-marks (suc n) = digits-marks (digits_of 10 (suc n))

-- a number behind
abbrev closed : ℕ → List ℕ
closed n = numeral n ++ 41 ∷ []

closed-part : (name : List ℕ) (n : ℕ) → last-part [] (name ++ 40 ∷ closed n) ≡ closed n
closed-part name n = past-mark [] name (closed n) ∙ no-mark [] (closed n) (each-append (λ x. (x == 40) ≡ false) (numeral n) (41 ∷ []) (numeral-marks n) (refl, tt))

same-parts : (a b : List ℕ) (n m : ℕ) → bit_name a (Some n) ≡ bit_name b (Some m) → (a ≡ b) × (n ≡ m)
same-parts a b n m e =
    let e' : a ++ 40 ∷ closed n ≡ b ++ 40 ∷ closed m = sym (append_assoc a (40 ∷ []) (closed n)) ∙ e ∙ append_assoc b (40 ∷ []) (closed m) in
    let same : closed n ≡ closed m = sym (closed-part a n) ∙ ap (last-part []) e' ∙ closed-part b m in (
      append_cancel_right a b (40 ∷ closed n) (e' ∙ ap (λ (t : List ℕ). b ++ 40 ∷ t) (sym same)),
      numeral-same n m (append_cancel_right (numeral n) (numeral m) (41 ∷ []) same),
    )

-- ---- no identifier ends with a closing parenthesis

no-underlined : (xs : List ℕ) → are_underlined is_letter_or_digit (xs ++ 41 ∷ []) ≡ true → ⊥
no-underlined [] h = cc
no-underlined (x ∷ xs) h = no-underlined xs (both-true (continues is_letter_or_digit (x ∷ (xs ++ 41 ∷ []))) (are_underlined is_letter_or_digit (xs ++ 41 ∷ [])) h).1

no-closing-two : (b : Bool) (x : ℕ) → cond b ((41 == 92) && closes 92 []) (is_graphic x && closes 92 (41 ∷ [])) ≡ true → ⊥
no-closing-two true x h = cc
no-closing-two false x h = let last : (41 == 92) ≡ true = (both-true (is_graphic x) (closes 92 (41 ∷ [])) h).1 in cc

no-closing : (xs : List ℕ) → closes 92 (xs ++ 41 ∷ []) ≡ true → ⊥
no-closing [] h = cc
no-closing (x ∷ []) h = no-closing-two (x == 92) x h
no-closing (x ∷ y ∷ xs) h = by-test (x == 92) h (no-closing xs) (no-closing (y ∷ xs))
  where
    by-test : (b : Bool) → cond b ((y == 92) && closes 92 (xs ++ 41 ∷ [])) (is_graphic x && closes 92 (y ∷ (xs ++ 41 ∷ []))) ≡ true → (closes 92 (xs ++ 41 ∷ []) ≡ true → ⊥) → (closes 92 (y ∷ (xs ++ 41 ∷ [])) ≡ true → ⊥) → ⊥
    by-test true h two one = two (both-true (y == 92) (closes 92 (xs ++ 41 ∷ [])) h).1
    by-test false h two one = one (both-true (is_graphic x) (closes 92 (y ∷ (xs ++ 41 ∷ []))) h).1

no-extended : (xs : List ℕ) → is_extended_identifier (xs ++ 41 ∷ []) ≡ true → ⊥
no-extended [] h = cc
no-extended (x ∷ xs) h = no-closing xs (both-true _ _ (both-true _ _ h).1).1

no-end : (name xs : List ℕ) → IsIdentifierName name → name ≡ xs ++ 41 ∷ [] → ⊥
no-end name xs (inl basic) e =
    no-underlined xs (subst (λ (t : List ℕ). are_underlined is_letter_or_digit t ≡ true) e (both-true (begins _ name) (are_underlined is_letter_or_digit name) basic.basic).1)
no-end name xs (inr extended) e = no-extended xs (subst (λ (t : List ℕ). is_extended_identifier t ≡ true) e extended)

-- ---- two bits

vector-end : (name other : List ℕ) (n : ℕ) → IsIdentifierName name → name ≡ bit_name other (Some n) → ⊥
vector-end name other n formed e = no-end name ((other ++ 40 ∷ []) ++ numeral n) formed (e ∙ sym (append_assoc (other ++ 40 ∷ []) (numeral n) (41 ∷ [])))

never : (b : Bool) → b ≡ true → b ≡ false → ⊥
never true h h' = cc
never false h h' = cc

same-names : (a b : List ℕ) (m n : Option ℕ) → IsIdentifierName a → IsIdentifierName b → bit_name a m ≡ bit_name b n → a ≡ b
same-names a b None None fa fb e = e
same-names a b None (Some n) fa fb e = absurd (vector-end a b n fa e)
same-names a b (Some m) None fa fb e = absurd (vector-end b a m fb (sym e))
same-names a b (Some m) (Some n) fa fb e = (same-parts a b m n e).0

names-differ : (a b : List ℕ) (m n : Option ℕ) → IsIdentifierName a → IsIdentifierName b → bytes_eq a b ≡ false → bytes_eq (bit_name a m) (bit_name b n) ≡ false
names-differ a b m n fa fb other =
    false_from_ne_true (bytes_eq (bit_name a m) (bit_name b n))
    (λ same. never (bytes_eq a b) ((bytes_eq-Decides a b).1 (same-names a b m n fa fb ((bytes_eq-Decides (bit_name a m) (bit_name b n)).0 same))) other)

same-index : (dir : Direction) (left right d e : ℕ) → d < e → e < length_between dir left right → index_from dir left d ≡ index_from dir left e → ⊥
same-index To left right d e less inside same = omega (arith, less, same)
same-index Downto left right d e less inside same = omega (arith, less, inside, same)

offsets-differ : (name : List ℕ) (s : Shape) (d e : ℕ) → d < e → e < bits_of s → bit_name name (index_at s d) ≡ bit_name name (index_at s e) → ⊥
offsets-differ name Scalar d e less inside same = omega (arith, less, inside)
offsets-differ name (Vector r) d e less inside same =
    same-index r.direction r.left r.right d e less inside (same-parts name name (index_from r.direction r.left d) (index_from r.direction r.left e) same).1

-- ---- all bits

apart-append : (xs ys : List (List ℕ)) → AreApart bytes_eq xs → AreApart bytes_eq ys → AllByRecursion (λ x. AllByRecursion (λ y. bytes_eq x y ≡ false) ys) xs → AreApart bytes_eq (xs ++ ys)
apart-append [] ys first second across = second
apart-append (x ∷ xs) ys first second across =
    (each-append (λ y. bytes_eq x y ≡ false) xs ys first.0 across.0, apart-append xs ys first.1 second across.1)

apart-range : (f : ℕ → List ℕ) (a len : ℕ) → ((d e : ℕ) → d < e → e < a + len → f d ≡ f e → ⊥) → AreApart bytes_eq (map f (range_with_len a len))
apart-range f a zero differ = tt
apart-range f a (suc len) differ = (
  each-map (λ y. bytes_eq (f a) y ≡ false) f (range_with_len (a + 1) len)
      (each-between (λ e. bytes_eq (f a) (f e) ≡ false) (a + 1) len
      (λ d below. false_from_ne_true (bytes_eq (f a) (f ((a + 1) + d))) (λ same. differ a ((a + 1) + d) (omega arith) (omega arith) ((bytes_eq-Decides (f a) (f ((a + 1) + d))).0 same)))),
  apart-range f (a + 1) len (λ d e less below. differ d e less (omega arith)),
)

abbrev pub names-of : Object → List (List ℕ)
names-of o = map (λ offset. bit_name o.name (index_at o.shape offset)) (range_with_len 0 (bits_of o.shape))

own-apart : (o : Object) → AreApart bytes_eq (names-of o)
own-apart o = apart-range (λ offset. bit_name o.name (index_at o.shape offset)) 0 (bits_of o.shape) (λ d e less below. offsets-differ o.name o.shape d e less (omega arith))

each-bit : (P : List ℕ → Type 0) (o : Object) → ((n : Option ℕ) → P (bit_name o.name n)) → AllByRecursion P (names-of o)
each-bit P o all =
    each-map P (λ offset. bit_name o.name (index_at o.shape offset)) (range_with_len 0 (bits_of o.shape))
    (each-between (λ offset. P (bit_name o.name (index_at o.shape offset))) 0 (bits_of o.shape) (λ d below. all (index_at o.shape (0 + d))))

others-differ : (o : Object) (n : Option ℕ) (os : List Object) → IsObjectFormed o → AllByRecursion IsObjectFormed os → AllByRecursion (λ (p : Object). bytes_eq o.name p.name ≡ false) os → AllByRecursion (λ y. bytes_eq (bit_name o.name n) y ≡ false) (flat_map names-of os)
others-differ o n [] formed all differ = tt
others-differ o n (p ∷ os) formed all differ =
    each-append (λ y. bytes_eq (bit_name o.name n) y ≡ false) (names-of p) (flat_map names-of os)
    (each-bit (λ y. bytes_eq (bit_name o.name n) y ≡ false) p (λ m. names-differ o.name p.name n m formed all.0 differ.0))
    (others-differ o n os formed all.1 differ.1)

pub bits-apart : (os : List Object) → AllByRecursion IsObjectFormed os → AreApart bytes_eq (map (λ (o : Object). o.name) os) → AreApart bytes_eq (flat_map names-of os)
bits-apart [] formed apart = tt
bits-apart (o ∷ os) formed apart =
    apart-append (names-of o) (flat_map names-of os) (own-apart o) (bits-apart os formed.1 apart.1)
    (each-bit (λ x. AllByRecursion (λ y. bytes_eq x y ≡ false) (flat_map names-of os)) o
    (λ n. others-differ o n os formed.0 formed.1 (each-unmap (λ m. bytes_eq o.name m ≡ false) (λ (p : Object). p.name) os apart.0)))
