-- What stands between spans is associated with no bit.
use Rattle.std.proofs.Common.{◌≡◌, ℕ, zero, suc, ◌+◌, ◌-◌, ◌<◌, ◌≤◌, true, false, List, [], ◌∷◌, ◌++◌, take, drop, map, refl, sym, ap, subst, ◌∙◌, arith}
use Rattle.std.specs.Prelude.{All, Bool, cond, not, filter, ◌&&◌, ◌||◌, ◌==◌, nat_le, nat_lt, ⊤, Option, Some, None}
use Rattle.std.specs.List.{enumerate_from, range_with_len}
use Rattle.std.specs.Option.{option_or}
use Rattle.std.proofs.lemmas.Bool.Decides.{nat_tests}
use Rattle.std.proofs.lemmas.List.Elements.{All-head, All-tail, filter-append}
use Rattle.vital_connections.specs.Connections.{Connection, is_bit, is_own, own_bits}
use Rattle.vital_connections.specs.Connections as connections
use Rattle.vital_connections.specs.Objects.{Object, bits_of_all, shape_at}
use Rattle.vital_connections.specs.Own.{all_gaps, behind_gap, gap, gaps, leading}
use Rattle.vital_connections.specs.Runs.{bits_between}
use Rattle.vital_connections.specs.Spans.{AreBehind, AreSorted, behind, given, given_by, has_bit, seen}
use Rattle.vital_connections.specs.declared.span.Connected.{Connected}
use Rattle.vital_connections.specs.declared.span.Connected.TheVariants as connected
use Rattle.vital_connections.specs.declared.span.Span.{Span}
use Rattle.vital_structure.specs.Shapes.{bits_of}

-- ---- bits that stand side by side

abbrev Test : Type 0
Test = ℕ × ℕ → Bool

abbrev bits : ℕ → ℕ → ℕ → List (ℕ × ℕ)
bits n first len = map (λ offset. (n, offset)) (range_with_len first len)

bits-len : (n first len len' : ℕ) → len ≡ len' → bits n first len ≡ bits n first len'
bits-len n first len len' e = ap (bits n first) e

bits-from : (n first first' len : ℕ) → first ≡ first' → bits n first len ≡ bits n first' len
bits-from n first first' len e = ap (λ f. bits n f len) e

bits-split : (n first j k : ℕ) → bits n first (j + k) ≡ bits n first j ++ bits n (first + j) k
bits-split n first zero k = let here : first ≡ first + 0 = omega arith in let none : 0 + k ≡ k = omega arith in bits-len n first (0 + k) k none ∙ bits-from n first (first + 0) k here
bits-split n first (suc j) k =
    let len : suc j + k ≡ suc (j + k) = omega arith in
    let from : first + 1 + j ≡ first + suc j = omega arith in
    bits-len n first (suc j + k) (suc (j + k)) len
    ∙ ap (λ bs. (n, first) ∷ bs) (bits-split n (first + 1) j k ∙ ap (λ bs. bits n (first + 1) j ++ bs) (bits-from n (first + 1 + j) (first + suc j) k from))

all-pass : (p : Test) (n first len : ℕ) → ((k : ℕ) → first ≤ k → k < first + len → p (n, k) ≡ true) → filter p (bits n first len) ≡ bits n first len
all-pass p n first zero h = refl
all-pass p n first (suc len) h =
    ap (λ b. cond b ((n, first) ∷ filter p (bits n (first + 1) len)) (filter p (bits n (first + 1) len))) (h first (omega arith) (omega arith))
    ∙ ap (λ bs. (n, first) ∷ bs) (all-pass p n (first + 1) len (λ k lo hi. h k (omega (arith, lo)) (omega (arith, hi))))

none-pass : (p : Test) (n first len : ℕ) → ((k : ℕ) → first ≤ k → k < first + len → p (n, k) ≡ false) → filter p (bits n first len) ≡ []
none-pass p n first zero h = refl
none-pass p n first (suc len) h =
    ap (λ b. cond b ((n, first) ∷ filter p (bits n (first + 1) len)) (filter p (bits n (first + 1) len))) (h first (omega arith) (omega arith))
    ∙ none-pass p n (first + 1) len (λ k lo hi. h k (omega (arith, lo)) (omega (arith, hi)))

alike : (p q : Test) (n first len : ℕ) → ((k : ℕ) → first ≤ k → k < first + len → p (n, k) ≡ q (n, k)) → filter p (bits n first len) ≡ filter q (bits n first len)
alike p q n first zero h = refl
alike p q n first (suc len) h =
    ap (λ b. cond b ((n, first) ∷ filter p (bits n (first + 1) len)) (filter p (bits n (first + 1) len))) (h first (omega arith) (omega arith))
    ∙ ap (λ bs. cond (q (n, first)) ((n, first) ∷ bs) bs) (alike p q n (first + 1) len (λ k lo hi. h k (omega (arith, lo)) (omega (arith, hi))))

-- bits that pass up to one, do not pass before another one, and go on behind that
gap-step : (p : Test) (n from first last end : ℕ) → from ≤ first → first < last → first < end → ((k : ℕ) → from ≤ k → k < first → p (n, k) ≡ true) → ((k : ℕ) → first ≤ k → k < last → p (n, k) ≡ false) → filter p (bits_between n from end) ≡ bits_between n from first ++ filter p (bits_between n last end)
gap-step p n from first last end le less inside before after = step (nat_le last end) refl
  where
    part : (mid : ℕ) → first + mid ≤ last → from + (first - from) + mid ≡ first + mid → filter p (bits n from (first - from + (mid + (end - last)))) ≡ bits_between n from first ++ filter p (bits n (from + (first - from) + mid) (end - last))
    part mid short at =
        ap (filter p) (bits-split n from (first - from) (mid + (end - last)) ∙ ap (λ bs. bits n from (first - from) ++ bs) (bits-split n (from + (first - from)) mid (end - last)))
        ∙ filter-append p (bits n from (first - from)) (bits n (from + (first - from)) mid ++ bits n (from + (first - from) + mid) (end - last))
        ∙ ap (λ bs. bs ++ filter p (bits n (from + (first - from)) mid ++ bits n (from + (first - from) + mid) (end - last))) (all-pass p n from (first - from) (λ k lo hi. before k lo (omega (arith, hi, le))))
        ∙ ap (λ bs. bits n from (first - from) ++ bs)
        (filter-append p (bits n (from + (first - from)) mid) (bits n (from + (first - from) + mid) (end - last))
        ∙ ap (λ bs. bs ++ filter p (bits n (from + (first - from) + mid) (end - last))) (none-pass p n (from + (first - from)) mid (λ k lo hi. after k (omega (arith, lo, le)) (omega (arith, hi, short, at)))))

    long : last ≤ end → filter p (bits_between n from end) ≡ bits_between n from first ++ filter p (bits_between n last end)
    long h =
        let len : end - from ≡ first - from + ((last - first) + (end - last)) = omega (arith, le, less, h) in
        let at : from + (first - from) + (last - first) ≡ last = omega (arith, le, less) in
        ap (λ k. filter p (bits n from k)) len
        ∙ part (last - first) (omega (arith, less)) (omega (arith, le))
        ∙ ap (λ f. bits_between n from first ++ filter p (bits n f (end - last))) at

    short : end < last → filter p (bits_between n from end) ≡ bits_between n from first ++ filter p (bits_between n last end)
    short h =
        let len : end - from ≡ first - from + ((end - first) + (end - last)) = omega (arith, le, inside, h) in
        let none : end - last ≡ 0 = omega (arith, h) in
        ap (λ k. filter p (bits n from k)) len
        ∙ part (end - first) (omega (arith, h, inside)) (omega (arith, le))
        ∙ ap (λ k. bits_between n from first ++ filter p (bits n (from + (first - from) + (end - first)) k)) none
        ∙ ap (λ k. bits_between n from first ++ filter p (bits n last k)) (sym none)

    le-is : nat_le last end ≡ true → last ≤ end
    le-is h = grind (arith, nat_tests)

    lt-is : nat_le last end ≡ false → end < last
    lt-is h = grind (arith, nat_tests)

    step : (b : Bool) → nat_le last end ≡ b → filter p (bits_between n from end) ≡ bits_between n from first ++ filter p (bits_between n last end)
    step true is = long (le-is is)
    step false is = short (lt-is is)

-- ---- bits of one port

abbrev own : List Span → Test
own spans b = is_own (given spans b.0 b.1)

gives-none : (s : Span) (port bit : ℕ) → has_bit s port bit ≡ false → given_by port bit s ≡ None
gives-none s port bit h = ap (λ b. cond b (Some (behind (bit - s.first) (seen s.connected))) None) h

passed : (s : Span) (others : List Span) (port bit : ℕ) → has_bit s port bit ≡ false → given (s ∷ others) port bit ≡ given others port bit
passed s others port bit h = ap (λ o. option_or o (given others port bit)) (gives-none s port bit h)

kept : (s : Span) (o : Option Connection) (port bit : ℕ) → has_bit s port bit ≡ true → option_or (given_by port bit s) o ≡ Some (behind (bit - s.first) (seen s.connected))
kept s o port bit h = ap (λ b. option_or (cond b (Some (behind (bit - s.first) (seen s.connected))) None) o) h

ended : (ap af ae bp bf be port bit : ℕ) → (nat_lt ap bp || ((ap == bp) && nat_le ae bf)) ≡ true → ((ap == port) && nat_le af bit && nat_lt bit ae) ≡ true → ((bp == port) && nat_le bf bit && nat_lt bit be) ≡ false
ended ap af ae bp bf be port bit ends has = grind (arith, nat_tests)

-- no span behind another one has a bit of that
none-behind : (s : Span) (others : List Span) (port bit : ℕ) → AreBehind s others → has_bit s port bit ≡ true → given others port bit ≡ None
none-behind s [] port bit behind has = refl
none-behind s (o ∷ others) port bit behind has =
    passed o others port bit (ended s.port s.first s.end o.port o.first o.end port bit behind.0 has)
    ∙ none-behind s others port bit behind.1 has

-- all are of one port, and begin with one of its bits
abbrev AreAt : ℕ → ℕ → List Span → Type 0
AreAt n end [] = ⊤
AreAt n end (s ∷ others) = (s.port ≡ n) × (s.first < end) × AreAt n end others

-- all begin with a bit or behind it
abbrev BeginFrom : ℕ → List Span → Type 0
BeginFrom from [] = ⊤
BeginFrom from (s ∷ others) = (from ≤ s.first) × BeginFrom from others

upto-end : (n a b ae bf : ℕ) → a ≡ n → b ≡ n → (nat_lt a b || ((a == b) && nat_le ae bf)) ≡ true → ae ≤ bf
upto-end n a b ae bf at at' ends = grind (arith, nat_tests)

begin-behind : (n end : ℕ) (s : Span) (others : List Span) → s.port ≡ n → AreAt n end others → AreBehind s others → BeginFrom s.end others
begin-behind n end s [] here at behind = tt
begin-behind n end s (o ∷ others) here at behind =
    (upto-end n s.port o.port s.end o.first here at.0 behind.0, begin-behind n end s others here at.2 behind.1)

begin-later : (a b : ℕ) (spans : List Span) → a < b → BeginFrom b spans → BeginFrom a spans
begin-later a b [] less begin = tt
begin-later a b (o ∷ others) less begin = ((omega (arith, less, begin.0)), begin-later a b others less begin.1)

too-early : (ap af ae port bit : ℕ) → bit < af → ((ap == port) && nat_le af bit && nat_lt bit ae) ≡ false
too-early ap af ae port bit h = grind (arith, nat_tests)

too-late : (ap af ae port bit : ℕ) → ae ≤ bit → ((ap == port) && nat_le af bit && nat_lt bit ae) ≡ false
too-late ap af ae port bit h = grind (arith, nat_tests)

in-span : (n ap af ae bit : ℕ) → ap ≡ n → af ≤ bit → bit < ae → ((ap == n) && nat_le af bit && nat_lt bit ae) ≡ true
in-span n ap af ae bit at lo hi = grind (arith, nat_tests)

none-before : (from : ℕ) (spans : List Span) (port bit : ℕ) → BeginFrom from spans → bit < from → given spans port bit ≡ None
none-before from [] port bit begin lt = refl
none-before from (s ∷ others) port bit begin lt =
    passed s others port bit (too-early s.port s.first s.end port bit (omega (arith, lt, begin.0)))
    ∙ none-before from others port bit begin.1 lt

-- what is associated with no bit counts for nothing
not-bit : (d : ℕ) (c : Connection) → is_bit c ≡ false → is_bit (behind d c) ≡ false
not-bit d connections.Open h = refl
not-bit d (connections.Level l) h = refl
not-bit d (connections.Bit object first) h = absurd (cc)

is-bit-behind : (d object first : ℕ) → is_own (Some (behind d (connections.Bit object first))) ≡ false
is-bit-behind d object first = refl

same-own : (s : Span) (others : List Span) (port bit : ℕ) → is_bit (seen s.connected) ≡ false → AreBehind s others → own (s ∷ others) (port, bit) ≡ own others (port, bit)
same-own s others port bit free behind = step (has_bit s port bit) refl
  where
    step : (b : Bool) → has_bit s port bit ≡ b → own (s ∷ others) (port, bit) ≡ own others (port, bit)
    step true is =
        ap is_own (kept s (given others port bit) port bit is)
        ∙ ap not (not-bit (bit - s.first) (seen s.connected) free)
        ∙ ap is_own (sym (none-behind s others port bit behind is))
    step false is = ap is_own (passed s others port bit is)

-- the bits of a port that stand in no span that is associated with bits are those that are associated with none
gaps-own : (n end : ℕ) (spans : List Span) (from : ℕ) → AreSorted spans → AreAt n end spans → BeginFrom from spans → gaps n end spans from ≡ filter (own spans) (bits_between n from end)
gaps-own n end [] from sorted at begin = sym (all-pass (own []) n from (end - from) (λ k lo hi. refl))
gaps-own n end (s ∷ others) from sorted at begin = step s.connected refl (gaps-own n end others from sorted.2 at.2 begin.1) (gaps-own n end others s.end sorted.2 at.2 later)
  where
    later : BeginFrom s.end others
    later = begin-behind n end s others at.0 at.2 sorted.1

    free : is_bit (seen s.connected) ≡ false → gaps n end others from ≡ filter (own others) (bits_between n from end) → gaps n end others from ≡ filter (own (s ∷ others)) (bits_between n from end)
    free h rest = rest ∙ sym (alike (own (s ∷ others)) (own others) n from (end - from) (λ k lo hi. same-own s others n k h sorted.1))

    taken : (object first : ℕ) → s.connected ≡ connected.Bits object first → gaps n end others s.end ≡ filter (own others) (bits_between n s.end end) → bits_between s.port from s.first ++ gaps n end others s.end ≡ filter (own (s ∷ others)) (bits_between n from end)
    taken object first is rest =
        ap (λ p. bits_between p from s.first ++ gaps n end others s.end) at.0
        ∙ ap (λ bs. bits_between n from s.first ++ bs)
        (rest ∙ sym (alike (own (s ∷ others)) (own others) n s.end (end - s.end) (λ k lo hi. ap is_own (passed s others n k (too-late s.port s.first s.end n k lo)))))
        ∙ sym
        (gap-step (own (s ∷ others)) n from s.first s.end end begin.0 sorted.0 at.1
        (λ k lo hi. ap is_own (none-before s.first (s ∷ others) n k ((omega arith), begin-later s.first s.end others sorted.0 later) hi))
        (λ k lo hi. ap is_own (kept s (given others n k) n k (in-span n s.port s.first s.end k at.0 lo hi)) ∙ ap (λ c. is_own (Some (behind (k - s.first) (seen c)))) is))

    step : (c : Connected) → s.connected ≡ c → gaps n end others from ≡ filter (own others) (bits_between n from end) → gaps n end others s.end ≡ filter (own others) (bits_between n s.end end) → gap c from s ++ gaps n end others (behind_gap c from s) ≡ filter (own (s ∷ others)) (bits_between n from end)
    step connected.Open is here there = free (ap (λ c. is_bit (seen c)) is) here
    step (connected.Level l) is here there = free (ap (λ c. is_bit (seen c)) is) here
    step (connected.Bits object first) is here there = taken object first is there

-- ---- bits of all ports

-- each span is of a port from a number on, and begins with a bit of it
abbrev AreFrom : ℕ → List Object → List Span → Type 0
AreFrom n os [] = ⊤
AreFrom n os (s ∷ others) = (n ≤ s.port) × (s.first < bits_of (shape_at os (s.port - n))) × AreFrom n os others

-- the first spans, which are of the first port, and the others
abbrev here : ℕ → List Span → List Span
here n spans = take (leading n spans) spans

abbrev rest : ℕ → List Span → List Span
rest n spans = drop (leading n spans) spans

one-suc : (k : ℕ) → 1 + k ≡ suc k
one-suc k = omega arith

here-more : (n : ℕ) (s : Span) (others : List Span) → (s.port == n) ≡ true → here n (s ∷ others) ≡ s ∷ here n others
here-more n s others is = ap (λ b. take (cond b (1 + leading n others) 0) (s ∷ others)) is ∙ ap (λ k. take k (s ∷ others)) (one-suc (leading n others))

rest-more : (n : ℕ) (s : Span) (others : List Span) → (s.port == n) ≡ true → rest n (s ∷ others) ≡ rest n others
rest-more n s others is = ap (λ b. drop (cond b (1 + leading n others) 0) (s ∷ others)) is ∙ ap (λ k. drop k (s ∷ others)) (one-suc (leading n others))

here-none : (n : ℕ) (s : Span) (others : List Span) → (s.port == n) ≡ false → here n (s ∷ others) ≡ []
here-none n s others is = ap (λ b. take (cond b (1 + leading n others) 0) (s ∷ others)) is

rest-all : (n : ℕ) (s : Span) (others : List Span) → (s.port == n) ≡ false → rest n (s ∷ others) ≡ s ∷ others
rest-all n s others is = ap (λ b. drop (cond b (1 + leading n others) 0) (s ∷ others)) is

same-port : (a n : ℕ) → (a == n) ≡ true → a ≡ n
same-port a n h = grind (arith, nat_tests)

later-port : (a n : ℕ) → (a == n) ≡ false → n ≤ a → n + 1 ≤ a
later-port a n h le = grind (arith, nat_tests)

port-upto : (a b ae bf : ℕ) → (nat_lt a b || ((a == b) && nat_le ae bf)) ≡ true → a ≤ b
port-upto a b ae bf h = grind (arith, nat_tests)

front-behind : (a : Span) (n : ℕ) (spans : List Span) → AreBehind a spans → AreBehind a (here n spans)
front-behind a n [] behind = tt
front-behind a n (s ∷ others) behind = step (s.port == n) refl (front-behind a n others behind.1)
  where
    step : (b : Bool) → (s.port == n) ≡ b → AreBehind a (here n others) → AreBehind a (here n (s ∷ others))
    step true is front = subst (AreBehind a) (sym (here-more n s others is)) (behind.0, front)
    step false is front = subst (AreBehind a) (sym (here-none n s others is)) tt

front-sorted : (n : ℕ) (spans : List Span) → AreSorted spans → AreSorted (here n spans)
front-sorted n [] sorted = tt
front-sorted n (s ∷ others) sorted = step (s.port == n) refl (front-sorted n others sorted.2)
  where
    step : (b : Bool) → (s.port == n) ≡ b → AreSorted (here n others) → AreSorted (here n (s ∷ others))
    step true is front = subst AreSorted (sym (here-more n s others is)) (sorted.0, front-behind s n others sorted.1, front)
    step false is front = subst AreSorted (sym (here-none n s others is)) tt

rest-sorted : (n : ℕ) (spans : List Span) → AreSorted spans → AreSorted (rest n spans)
rest-sorted n [] sorted = tt
rest-sorted n (s ∷ others) sorted = step (s.port == n) refl (rest-sorted n others sorted.2)
  where
    step : (b : Bool) → (s.port == n) ≡ b → AreSorted (rest n others) → AreSorted (rest n (s ∷ others))
    step true is back = subst AreSorted (sym (rest-more n s others is)) back
    step false is back = subst AreSorted (sym (rest-all n s others is)) sorted

begins-here : (n : ℕ) (o : Object) (os : List Object) (s : Span) → s.port ≡ n → s.first < bits_of (shape_at (o ∷ os) (s.port - n)) → s.first < bits_of o.shape
begins-here n o os s at inside =
    let none : s.port - n ≡ 0 = omega arith in
    let P : ℕ → Type 0 = λ m. s.first < bits_of (shape_at (o ∷ os) m) in
    subst P none inside

front-at : (n : ℕ) (o : Object) (os : List Object) (spans : List Span) → AreFrom n (o ∷ os) spans → AreAt n (bits_of o.shape) (here n spans)
front-at n o os [] from = tt
front-at n o os (s ∷ others) from = step (s.port == n) refl (front-at n o os others from.2)
  where
    step : (b : Bool) → (s.port == n) ≡ b → AreAt n (bits_of o.shape) (here n others) → AreAt n (bits_of o.shape) (here n (s ∷ others))
    step true is front =
        let at = same-port s.port n is in
        subst (AreAt n (bits_of o.shape)) (sym (here-more n s others is)) (at, begins-here n o os s at from.1, front)
    step false is front = subst (AreAt n (bits_of o.shape)) (sym (here-none n s others is)) tt

begins-there : (n : ℕ) (o : Object) (os : List Object) (s : Span) → n + 1 ≤ s.port → s.first < bits_of (shape_at (o ∷ os) (s.port - n)) → s.first < bits_of (shape_at os (s.port - (n + 1)))
begins-there n o os s le inside =
    let more : s.port - n ≡ suc (s.port - (n + 1)) = omega arith in
    let P : ℕ → Type 0 = λ m. s.first < bits_of (shape_at (o ∷ os) m) in
    subst P more inside

all-later : (n : ℕ) (o : Object) (os : List Object) (a : Span) (spans : List Span) → n + 1 ≤ a.port → AreBehind a spans → AreFrom n (o ∷ os) spans → AreFrom (n + 1) os spans
all-later n o os a [] le behind from = tt
all-later n o os a (s ∷ others) le behind from =
    let later : n + 1 ≤ s.port = omega (arith, le, port-upto a.port s.port a.end s.first behind.0) in
    (later, begins-there n o os s later from.1, all-later n o os a others le behind.1 from.2)

rest-from : (n : ℕ) (o : Object) (os : List Object) (spans : List Span) → AreSorted spans → AreFrom n (o ∷ os) spans → AreFrom (n + 1) os (rest n spans)
rest-from n o os [] sorted from = tt
rest-from n o os (s ∷ others) sorted from = step (s.port == n) refl (rest-from n o os others sorted.2 from.2)
  where
    step : (b : Bool) → (s.port == n) ≡ b → AreFrom (n + 1) os (rest n others) → AreFrom (n + 1) os (rest n (s ∷ others))
    step true is back = subst (AreFrom (n + 1) os) (sym (rest-more n s others is)) back
    step false is back =
        let later = later-port s.port n is from.0 in
        subst (AreFrom (n + 1) os) (sym (rest-all n s others is)) (later, begins-there n o os s later from.1, all-later n o os s others later sorted.1 from.2)

other-port : (a n af ae bit : ℕ) → n + 1 ≤ a → ((a == n) && nat_le af bit && nat_lt bit ae) ≡ false
other-port a n af ae bit h = grind (arith, nat_tests)

other-port' : (a n m af ae bit : ℕ) → a ≡ n → n + 1 ≤ m → ((a == m) && nat_le af bit && nat_lt bit ae) ≡ false
other-port' a n m af ae bit at h = grind (arith, nat_tests)

none-later : (n : ℕ) (os : List Object) (spans : List Span) (bit : ℕ) → AreFrom (n + 1) os spans → given spans n bit ≡ None
none-later n os [] bit from = refl
none-later n os (s ∷ others) bit from = passed s others n bit (other-port s.port n s.first s.end bit from.0) ∙ none-later n os others bit from.2

none-earlier : (n m end : ℕ) (spans : List Span) (bit : ℕ) → n + 1 ≤ m → AreAt n end spans → given spans m bit ≡ None
none-earlier n m end [] bit le at = refl
none-earlier n m end (s ∷ others) bit le at = passed s others m bit (other-port' s.port n m s.first s.end bit at.0 le) ∙ none-earlier n m end others bit le at.2

or-assoc : (a b c : Option Connection) → option_or (option_or a b) c ≡ option_or a (option_or b c)
or-assoc None b c = refl
or-assoc (Some x) b c = refl

given-append : (xs ys : List Span) (port bit : ℕ) → given (xs ++ ys) port bit ≡ option_or (given xs port bit) (given ys port bit)
given-append [] ys port bit = refl
given-append (x ∷ xs) ys port bit = ap (option_or (given_by port bit x)) (given-append xs ys port bit) ∙ sym (or-assoc (given_by port bit x) (given xs port bit) (given ys port bit))

parts : (n : ℕ) (spans : List Span) → here n spans ++ rest n spans ≡ spans
parts n [] = refl
parts n (s ∷ others) = step (s.port == n) refl (parts n others)
  where
    step : (b : Bool) → (s.port == n) ≡ b → here n others ++ rest n others ≡ others → here n (s ∷ others) ++ rest n (s ∷ others) ≡ s ∷ others
    step true is both = (λ i. here-more n s others is i ++ rest-more n s others is i) ∙ ap (λ ss. s ∷ ss) both
    step false is both = (λ i. here-none n s others is i ++ rest-all n s others is i)

or-none : (o : Option Connection) → option_or o None ≡ o
or-none None = refl
or-none (Some c) = refl

given-here : (n bit : ℕ) (os : List Object) (spans : List Span) → AreFrom (n + 1) os (rest n spans) → given spans n bit ≡ given (here n spans) n bit
given-here n bit os spans from =
    ap (λ ss. given ss n bit) (sym (parts n spans))
    ∙ given-append (here n spans) (rest n spans) n bit
    ∙ ap (option_or (given (here n spans) n bit)) (none-later n os (rest n spans) bit from)
    ∙ or-none (given (here n spans) n bit)

given-rest : (n m bit end : ℕ) (spans : List Span) → n + 1 ≤ m → AreAt n end (here n spans) → given spans m bit ≡ given (rest n spans) m bit
given-rest n m bit end spans le at =
    ap (λ ss. given ss m bit) (sym (parts n spans))
    ∙ given-append (here n spans) (rest n spans) m bit
    ∙ ap (λ o. option_or o (given (rest n spans) m bit)) (none-earlier n m end (here n spans) bit le at)

from-zero : (n end : ℕ) (spans : List Span) → AreAt n end spans → BeginFrom 0 spans
from-zero n end [] at = tt
from-zero n end (s ∷ others) at = (omega arith, from-zero n end others at.2)

-- tests that are alike at the ports from one on
all-alike : (p q : Test) (n : ℕ) (os : List Object) → ((m k : ℕ) → n ≤ m → p (m, k) ≡ q (m, k)) → filter p (bits_of_all (enumerate_from n os)) ≡ filter q (bits_of_all (enumerate_from n os))
all-alike p q n [] same = refl
all-alike p q n (o ∷ os) same =
    filter-append p (bits n 0 (bits_of o.shape)) (bits_of_all (enumerate_from (n + 1) os))
    ∙ ap (λ bs. bs ++ filter p (bits_of_all (enumerate_from (n + 1) os))) (alike p q n 0 (bits_of o.shape) (λ k lo hi. same n k (omega arith)))
    ∙ ap (λ bs. filter q (bits n 0 (bits_of o.shape)) ++ bs) (all-alike p q (n + 1) os (λ m k le. same m k (omega (arith, le))))
    ∙ sym (filter-append q (bits n 0 (bits_of o.shape)) (bits_of_all (enumerate_from (n + 1) os)))

all-gaps-own : (n : ℕ) (os : List Object) (spans : List Span) → AreSorted spans → AreFrom n os spans → all_gaps n os spans ≡ filter (own spans) (bits_of_all (enumerate_from n os))
all-gaps-own n [] spans sorted from = refl
all-gaps-own n (o ∷ os) spans sorted from =
    let end = bits_of o.shape in
    let at = front-at n o os spans from in
    let later = rest-from n o os spans sorted from in
    let whole : end - 0 ≡ end = omega arith in
    ap (λ bs. bs ++ all_gaps (n + 1) os (rest n spans))
    (gaps-own n end (here n spans) 0 (front-sorted n spans sorted) at (from-zero n end (here n spans) at)
    ∙ ap (λ len. filter (own (here n spans)) (bits n 0 len)) whole
    ∙ sym (alike (own spans) (own (here n spans)) n 0 end (λ k lo hi. ap is_own (given-here n k os spans later))))
    ∙ ap (λ bs. filter (own spans) (bits n 0 end) ++ bs)
    (all-gaps-own (n + 1) os (rest n spans) (rest-sorted n spans sorted) later
    ∙ sym (all-alike (own spans) (own (rest n spans)) (n + 1) os (λ m k le. ap is_own (given-rest n m k end spans le at))))
    ∙ sym (filter-append (own spans) (bits n 0 end) (bits_of_all (enumerate_from (n + 1) os)))

all-from : (os : List Object) (spans : List Span) → All (λ s. s.first < bits_of (shape_at os s.port)) spans → AreFrom 0 os spans
all-from os [] inside = tt
all-from os (s ∷ others) inside =
    let none : s.port ≡ s.port - 0 = omega arith in
    let P : ℕ → Type 0 = λ m. s.first < bits_of (shape_at os m) in
    (omega arith, subst P none (All-head (λ s. s.first < bits_of (shape_at os s.port)) s others inside), all-from os others (All-tail (λ s. s.first < bits_of (shape_at os s.port)) s others inside))

-- what stands between the spans of all ports are the bits that are associated with none
pub gaps_own : (os : List Object) (spans : List Span) (connected : ℕ → ℕ → Option Connection) → AreSorted spans → All (λ s. s.first < bits_of (shape_at os s.port)) spans → ((port bit : ℕ) → given spans port bit ≡ connected port bit) → all_gaps 0 os spans ≡ own_bits connected os
gaps_own os spans connected sorted inside is =
    all-gaps-own 0 os spans sorted (all-from os spans inside)
    ∙ all-alike (own spans) (λ b. is_own (connected b.0 b.1)) 0 os (λ m k le. ap is_own (is m k))
