-- The processes that are listed for the signals that have an event, in order and each once, are those that the events make run.
use Rattle.std.proofs.Common.{◌≡◌, ℕ, zero, suc, ◌+◌, ◌-◌, ◌<◌, ◌≤◌, Bool, true, false, ◌||◌, cond, eqb, List, [], ◌∷◌, length, map, take, drop, get_or, inl, inr, refl, sym, ap, subst, ◌∙◌, arith}
use Rattle.std.specs.List.{enumerate_from, filter, flat_map, list_any, sum_by}
use Rattle.std.specs.List.Sorted.{IsStrictlyIncreasing}
use Rattle.std.proofs.lemmas.Bool.{cases_eq, eq-eqb, ne_eqb}
use Rattle.std.proofs.lemmas.List.{drop-drop, length-append}
use Rattle.std.proofs.lemmas.List.Folds.{list_any-append}
use Rattle.std.proofs.lemmas.List.Sums.{sum_by-cons, sum_by-drop_more, sum_by-take-drop, sum_by_more_le}
use Rattle.vital_kernel.specs.Lists.{AreListed}
use Rattle.vital_kernel.specs.Triggered.{ListenerState, is_triggered, triggered_by}
use Rattle.vital_kernel.proofs.RisingNumbers.{RiseFrom, rise-lower, rise-of, same-rising}
use Rattle.vital_signals.specs.Lists.{AreRising, is_listed}

-- ---- the order of the two searches

turned : (m e : ℕ) → eqb m e ≡ eqb e m
turned m e = elim (cases_eq m e) [
  | inl same ↦ eq-eqb m e same ∙ sym (eq-eqb e m (sym same))
  | inr apart ↦ ne_eqb m e apart ∙ sym (ne_eqb e m (λ same. apart (sym same)))
]

any-turned : (e : ℕ) (s : List ℕ) → list_any (λ m. eqb m e) s ≡ list_any (λ m. eqb e m) s
any-turned e [] = refl
any-turned e (m ∷ s) = ap (λ (b : Bool). b || list_any (λ k. eqb k e) s) (turned m e) ∙ ap (λ (b : Bool). eqb e m || b) (any-turned e s)

none-any : (s : List ℕ) → list_any (λ m. false) s ≡ false
none-any [] = refl
none-any (m ∷ s) = none-any s

four : (a b c d : Bool) → ((a || b) || (c || d)) ≡ ((a || c) || (b || d))
four true b c d = refl
four false true true d = refl
four false true false d = refl
four false false c d = refl

any-or : (p q : ℕ → Bool) (s : List ℕ) → list_any (λ m. p m || q m) s ≡ (list_any p s || list_any q s)
any-or p q [] = refl
any-or p q (m ∷ s) = ap (λ (b : Bool). (p m || q m) || b) (any-or p q s) ∙ four (p m) (q m) (list_any p s) (list_any q s)

pub any-swap : (events s : List ℕ) → list_any (λ e. is_listed e s) events ≡ is_triggered events s
any-swap [] s = sym (none-any s)
any-swap (e ∷ events) s =
    ap (λ (b : Bool). b || list_any (λ k. is_listed k s) events) (any-turned e s)
    ∙ ap (λ (b : Bool). list_any (λ m. eqb e m) s || b) (any-swap events s)
    ∙ sym (any-or (λ m. eqb e m) (λ m. list_any (λ k. eqb k m) events) s)

-- ---- what is listed for the signals

gathered : (f : ℕ → List ℕ) (p : ℕ) (events : List ℕ) → is_listed p (flat_map f events) ≡ list_any (λ e. is_listed p (f e)) events
gathered f p [] = refl
gathered f p (e ∷ events) = list_any-append (λ (q : ℕ). eqb q p) (f e) (flat_map f events) ∙ ap (λ (b : Bool). is_listed p (f e) || b) (gathered f p events)

as-listed : (sensitivities lists : List (List ℕ)) (low : ℕ) (p : ℕ) (events : List ℕ) → AreListed sensitivities lists → AreRising low (length lists) events
    → list_any (λ e. is_listed p (get_or lists e [])) events ≡ list_any (λ e. is_listed e (get_or sensitivities p [])) events
as-listed sensitivities lists low p [] listed rising = refl
as-listed sensitivities lists low p (e ∷ events) listed rising =
    ap (λ (b : Bool). b || list_any (λ k. is_listed p (get_or lists k [])) events) (listed e p rising.1)
    ∙ ap (λ (b : Bool). is_listed e (get_or sensitivities p []) || b) (as-listed sensitivities lists (e + 1) p events listed rising.2)

-- ---- those that the events make run

abbrev run_from : (List ℕ → Bool) → ℕ → List (List ℕ) → List ℕ
run_from test k ss = map (λ p. p.0) (filter (λ p. test p.1) (enumerate_from k ss))

run-rise : (test : List ℕ → Bool) (k : ℕ) (ss : List (List ℕ)) → RiseFrom k (run_from test k ss)
run-rise test k [] = tt
run-rise test k (s ∷ ss) = by_test (test s) (run-rise test (k + 1) ss)
  where
    by_test : (b : Bool) → RiseFrom (k + 1) (run_from test (k + 1) ss) → RiseFrom k (map (λ p. p.0) (cond b ((k, s) ∷ filter (λ p. test p.1) (enumerate_from (k + 1) ss)) (filter (λ p. test p.1) (enumerate_from (k + 1) ss))))
    by_test true others = (omega arith, others)
    by_test false others = rise-lower k (k + 1) (run_from test (k + 1) ss) (omega arith) others

not-before : (test : List ℕ → Bool) (n k : ℕ) (ss : List (List ℕ)) → n < k → is_listed n (run_from test k ss) ≡ false
not-before test n k [] lt = refl
not-before test n k (s ∷ ss) lt = by_test (test s) (not-before test n (k + 1) ss (omega arith))
  where
    by_test : (b : Bool) → is_listed n (run_from test (k + 1) ss) ≡ false → is_listed n (map (λ p. p.0) (cond b ((k, s) ∷ filter (λ p. test p.1) (enumerate_from (k + 1) ss)) (filter (λ p. test p.1) (enumerate_from (k + 1) ss)))) ≡ false
    by_test true others = ap (λ (b : Bool). b || is_listed n (run_from test (k + 1) ss)) (ne_eqb k n (λ same. omega (arith, same, lt))) ∙ others
    by_test false others = others

run-listed : (test : List ℕ → Bool) (n k : ℕ) (ss : List (List ℕ)) → test [] ≡ false → is_listed (k + n) (run_from test k ss) ≡ test (get_or ss n [])
run-listed test n k [] none = sym none
run-listed test zero k (s ∷ ss) none = by_test (test s)
  where
    by_test : (b : Bool) → is_listed (k + 0) (map (λ p. p.0) (cond b ((k, s) ∷ filter (λ p. test p.1) (enumerate_from (k + 1) ss)) (filter (λ p. test p.1) (enumerate_from (k + 1) ss)))) ≡ b
    by_test true = ap (λ (b : Bool). b || is_listed (k + 0) (run_from test (k + 1) ss)) (eq-eqb k (k + 0) (omega arith))
    by_test false = not-before test (k + 0) (k + 1) ss (omega arith)
run-listed test (suc n) k (s ∷ ss) none =
    let next : k + 1 + n ≡ k + suc n = omega arith in
    by_test (test s) (subst (λ (m : ℕ). is_listed m (run_from test (k + 1) ss) ≡ test (get_or ss n [])) next (run-listed test n (k + 1) ss none))
  where
    by_test : (b : Bool) → is_listed (k + suc n) (run_from test (k + 1) ss) ≡ test (get_or ss n []) → is_listed (k + suc n) (map (λ p. p.0) (cond b ((k, s) ∷ filter (λ p. test p.1) (enumerate_from (k + 1) ss)) (filter (λ p. test p.1) (enumerate_from (k + 1) ss)))) ≡ test (get_or ss n [])
    by_test true others = ap (λ (b : Bool). b || is_listed (k + suc n) (run_from test (k + 1) ss)) (ne_eqb k (k + suc n) (λ same. omega (arith, same))) ∙ others
    by_test false others = others

pub triggered-is : (sensitivities lists : List (List ℕ)) (events before now : List ℕ) → AreListed sensitivities lists → AreRising 0 (length lists) events → before ≡ flat_map (λ e. get_or lists e []) events
    → IsStrictlyIncreasing now → ((test : ℕ → Bool) → list_any test now ≡ list_any test before) → now ≡ triggered_by events sensitivities
triggered-is sensitivities lists events before now listed rising made up same =
    same-rising 0 now (triggered_by events sensitivities) (rise-of 0 now up (λ some. omega arith)) (run-rise (is_triggered events) 0 sensitivities) (λ n. one n)
  where
    one : (n : ℕ) → is_listed n now ≡ is_listed n (triggered_by events sensitivities)
    one n =
        let zero-more : 0 + n ≡ n = omega arith in
        same (λ (other : ℕ). eqb other n)
        ∙ ap (is_listed n) made
        ∙ gathered (λ e. get_or lists e []) n events
        ∙ as-listed sensitivities lists 0 n events listed rising
        ∙ any-swap events (get_or sensitivities n [])
        ∙ sym (run-listed (is_triggered events) n 0 sensitivities refl)
        ∙ ap (λ (m : ℕ). is_listed m (triggered_by events sensitivities)) zero-more

-- ---- there is room for those that are listed

later-places : (lists : List (List ℕ)) (low e : ℕ) → low ≤ e → sum_by (λ l. length l) (drop e lists) ≤ sum_by (λ l. length l) (drop low lists)
later-places lists low e le = by_rest (e - low) (omega (arith, le))
  where
    by_rest : (j : ℕ) → low + j ≡ e → sum_by (λ l. length l) (drop e lists) ≤ sum_by (λ l. length l) (drop low lists)
    by_rest j is =
        let same : drop j (drop low lists) ≡ drop e lists = drop-drop j low lists ∙ ap (λ (n : ℕ). drop n lists) is in
        let parts = sum_by-take-drop (λ (l : List ℕ). length l) (drop low lists) j in
        let rest : sum_by (λ l. length l) (drop j (drop low lists)) ≡ sum_by (λ l. length l) (drop e lists) = ap (λ (ls : List (List ℕ)). sum_by (λ l. length l) ls) same in
        omega (arith, parts, rest)

pub few-places : (lists : List (List ℕ)) (low : ℕ) (events : List ℕ) → AreRising low (length lists) events → sum_by (λ e. length (get_or lists e [])) events ≤ sum_by (λ l. length l) (drop low lists)
few-places lists low [] rising = omega arith
few-places lists low (e ∷ events) rising =
    omega (
      arith,
      sum_by-cons (λ (k : ℕ). length (get_or lists k [])) e events,
      few-places lists (e + 1) events rising.2,
      sum_by-drop_more (λ (l : List ℕ). length l) lists e [] rising.1,
      later-places lists low e rising.0,
    )

pub length-gathered : (f : ℕ → List ℕ) (events : List ℕ) → length (flat_map f events) ≡ sum_by (λ e. length (f e)) events
length-gathered f [] = refl
length-gathered f (e ∷ events) =
    length-append (f e) (flat_map f events) ∙ ap (λ (n : ℕ). length (f e) + n) (length-gathered f events) ∙ sym (sum_by-cons (λ (k : ℕ). length (f k)) e events)

pub rising-below : (low high : ℕ) (xs : List ℕ) (k : ℕ) → AreRising low high xs → k < length xs → get_or xs k 0 < high
rising-below low high [] k rising lt = absurd (omega arith)
rising-below low high (x ∷ xs) zero rising lt = rising.1
rising-below low high (x ∷ xs) (suc k) rising lt = rising-below (x + 1) high xs k rising.2 (omega arith)

pub room-for : (lists : List (List ℕ)) (events : List ℕ) (i room : ℕ) (listed here : List ℕ) → i < length events → AreRising 0 (length lists) events
    → listed ≡ flat_map (λ e. get_or lists e []) (take i events) → get_or lists (get_or events i 0) [] ≡ here → sum_by (λ l. length l) lists ≤ room → length listed + length here ≤ room
room-for lists events i room listed here within rising made is most =
    let f = λ (e : ℕ). get_or lists e [] in
    omega (
      arith,
      ap (λ (ns : List ℕ). length ns) made,
      length-gathered f (take i events),
      ap (λ (ns : List ℕ). length ns) is,
      sum_by_more_le (λ (e : ℕ). length (f e)) events i 0 within,
      few-places lists 0 events rising,
    )

-- ---- states

abbrev pub state : ℕ → List (List ℕ) → List ℕ → ListenerState
state signals sensitivities triggered = record { signals = signals; sensitivities = sensitivities; triggered = triggered }

pub state-made : (signals signals' : ℕ) (sensitivities sensitivities' : List (List ℕ)) (triggered triggered' : List ℕ) → signals ≡ signals' → sensitivities ≡ sensitivities' → triggered ≡ triggered'
    → state signals sensitivities triggered ≡ state signals' sensitivities' triggered'
state-made signals signals' sensitivities sensitivities' triggered triggered' one two three =
    ap (λ (n : ℕ). state n sensitivities triggered) one ∙ ap (λ (ss : List (List ℕ)). state signals' ss triggered) two ∙ ap (λ (ns : List ℕ). state signals' sensitivities' ns) three
