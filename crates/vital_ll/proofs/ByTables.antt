-- Closed masks hold every choice set, and ranks show that each rule derives something.
use Rattle.std.proofs.Common.{◌≡◌, ℕ, zero, suc, ◌+◌, ◌^◌, ◌<◌, ◌≤◌, min, max, Bool, true, false, not, ◌&&◌, ◌||◌, cond, eqb, ltb, leb, List, [], ◌∷◌, ◌++◌, length, get_or, Some, IsTrue, slice_get, All, refl, sym, ap, ◌∙◌, subst, arith, inl, inr}
use Rattle.std.proofs.lemmas.Bool.{eqb-true, eq-eqb, ltb-true, leb-true, and_parts, or_cases}
use Rattle.std.proofs.lemmas.List.Elements.{All-nil, All-cons, All-head, All-tail}
use Rattle.std.proofs.lemmas.Nat.Bits.{bit_at_or, bit_at_and, bit_at-pow_same, bit_at-lt, bit_at-zero}
use Rattle.std.specs.Int.{bit_at}
use Rattle.std.specs.Int.Bits.{bit_and, bit_or}
use Rattle.vital_ll.specs.declared.grammar.Sym.{Sym}
use Rattle.vital_ll.specs.declared.grammar.Sym.TheVariants.{Token, Rule}
use Rattle.vital_ll.specs.declared.derivation.Step.{Step}
use Rattle.vital_ll.specs.Grammar.{Grammar, alternative_of, Derives, nothing, token, rule}
use Rattle.vital_ll.specs.Sentence.{Next}
use Rattle.vital_ll.specs.Choice.{IsChoice, IsPredictive, IsNamed, IsWellFormed}
use Rattle.vital_ll.specs.Marks.{Marks, empties, begins}
use Rattle.vital_ll.specs.Masks.{MaskTable, nullable_at, first_at, follow_at, bit_of, is_within, mask_of, follows_within, is_closed_rule, are_closed_from, are_closed, are_apart, decides_from, decides, choice_mask}
use Rattle.vital_ll.specs.Ranks.{names_below, alternatives_below, rules_below, ranks_lower, has_lower, are_ranked_from, are_ranked}
use Rattle.vital_ll.proofs.Deriving.{Derives-append}
use Rattle.vital_ll.proofs.Progress.{all_named}
use Rattle.vital_ll.proofs.Complete.{AreClosed, choice_marked}
use Rattle.vital_ll.proofs.Sound.{kind_is}

-- the token's bit is set
abbrev pub Has : ℕ → Next → Type 0
Has m t = bit_at m (bit_of t) ≡ 1

within_has : (a b : ℕ) (t : Next) → is_within a b ≡ true → Has a t → Has b t
within_has a b t e h =
    let same : bit_or a b ≡ b = eqb-true (bit_or a b) b e in
    let at : bit_at b (bit_of t) ≡ max (bit_at a (bit_of t)) (bit_at b (bit_of t)) = ap (λ (x : ℕ). bit_at x (bit_of t)) (sym same) ∙ bit_at_or a b (bit_of t) in
    let low : bit_at b (bit_of t) < 2 = bit_at-lt b (bit_of t) in
    omega arith

or_left_has : (a b : ℕ) (t : Next) → Has a t → Has (bit_or a b) t
or_left_has a b t h =
    let at : bit_at (bit_or a b) (bit_of t) ≡ max (bit_at a (bit_of t)) (bit_at b (bit_of t)) = bit_at_or a b (bit_of t) in
    let low : bit_at b (bit_of t) < 2 = bit_at-lt b (bit_of t) in omega arith

or_right_has : (a b : ℕ) (t : Next) → Has b t → Has (bit_or a b) t
or_right_has a b t h =
    let at : bit_at (bit_or a b) (bit_of t) ≡ max (bit_at a (bit_of t)) (bit_at b (bit_of t)) = bit_at_or a b (bit_of t) in
    let low : bit_at a (bit_of t) < 2 = bit_at-lt a (bit_of t) in omega arith

apart_has : (a b : ℕ) (t : Next) → eqb (bit_and a b) 0 ≡ true → Has a t → Has b t → ⊥
apart_has a b t e h k =
    let none : bit_and a b ≡ 0 = eqb-true (bit_and a b) 0 e in
    let at : bit_at (bit_and a b) (bit_of t) ≡ min (bit_at a (bit_of t)) (bit_at b (bit_of t)) = bit_at_and a b (bit_of t) in
    let zero_at : bit_at (bit_and a b) (bit_of t) ≡ 0 = ap (λ (x : ℕ). bit_at x (bit_of t)) none ∙ bit_at-zero (bit_of t) in
    omega arith

-- the marks of one token that a table of masks has
abbrev first_marks : MaskTable → Next → Marks
first_marks table t r = eqb (bit_at (first_at table r) (bit_of t)) 1

abbrev follow_marks : MaskTable → Next → Marks
follow_marks table t r = eqb (bit_at (follow_at table r) (bit_of t)) 1

marks_has : (m : ℕ) (t : Next) → eqb (bit_at m (bit_of t)) 1 ≡ true → Has m t
marks_has m t e = eqb-true (bit_at m (bit_of t)) 1 e

has_marks : (m : ℕ) (t : Next) → Has m t → eqb (bit_at m (bit_of t)) 1 ≡ true
has_marks m t h = eq-eqb (bit_at m (bit_of t)) 1 h

-- a token with which symbols can begin by the marks is in their mask
mask_has : (table : MaskTable) (t : Next) (after : ℕ) (b : Bool) (symbols : List Sym) → (b ≡ true → Has after t) →
    begins (nullable_at table) (first_marks table t) t b symbols ≡ true → Has (mask_of table after symbols) t
mask_has table t after b [] h e = h e
mask_has table t after b (Token u ∷ rest) h e =
    subst (λ (x : Next). bit_at (2 ^ bit_of (Some u)) (bit_of x) ≡ 1) (sym (kind_is u t e)) (bit_at-pow_same (bit_of (Some u)))
mask_has table t after b (Rule r ∷ rest) h e =
    elim (or_cases (first_marks table t r) (nullable_at table r && begins (nullable_at table) (first_marks table t) t b rest) e) [
      | inl f ↦ or_left_has (first_at table r) (cond (nullable_at table r) (mask_of table after rest) 0) t (marks_has (first_at table r) t f)
      | inr f ↦
          let p = and_parts (nullable_at table r) (begins (nullable_at table) (first_marks table t) t b rest) f in
          or_right_has (first_at table r) (cond (nullable_at table r) (mask_of table after rest) 0) t
          (subst (λ (x : Bool). Has (cond x (mask_of table after rest) 0) t) (sym p.0) (mask_has table t after b rest h p.1))
    ]

-- what is known of an alternative of a rule whose masks are closed
record RuleClosed (table : MaskTable) (r : ℕ) (c : List Sym) : Type 0 where
  pub empty : empties (nullable_at table) c ≡ true → nullable_at table r ≡ true
  pub first : is_within (mask_of table 0 c) (first_at table r) ≡ true
  pub follows : follows_within table (follow_at table r) c ≡ true

implied : (a b : Bool) → (not a || b) ≡ true → a ≡ true → b ≡ true
implied true b e h = e
implied false b e h = absurd (cc)

closed_head : (table : MaskTable) (r : ℕ) (d : List Sym) (alternatives : List (List Sym)) → is_closed_rule table r (d ∷ alternatives) ≡ true → RuleClosed table r d × (is_closed_rule table r alternatives ≡ true)
closed_head table r d alternatives e =
    let p = and_parts ((not (empties (nullable_at table) d) || nullable_at table r) && is_within (mask_of table 0 d) (first_at table r) && follows_within table (follow_at table r) d) (is_closed_rule table r alternatives) e in
    let q = and_parts ((not (empties (nullable_at table) d) || nullable_at table r) && is_within (mask_of table 0 d) (first_at table r)) (follows_within table (follow_at table r) d) p.0 in
    let s = and_parts (not (empties (nullable_at table) d) || nullable_at table r) (is_within (mask_of table 0 d) (first_at table r)) q.0 in
    (record { empty = implied (empties (nullable_at table) d) (nullable_at table r) s.0; first = s.1; follows = q.1 }, p.1)

rule_closed : (table : MaskTable) (r : ℕ) (alternatives : List (List Sym)) (a : ℕ) (c : List Sym) → is_closed_rule table r alternatives ≡ true → slice_get alternatives a ≡ Some c → RuleClosed table r c
rule_closed table r [] a c e at = absurd (cc)
rule_closed table r (d ∷ alternatives) zero c e at = let same : d ≡ c = cc in subst (λ (l : List Sym). RuleClosed table r l) same (closed_head table r d alternatives e).0
rule_closed table r (d ∷ alternatives) (suc a) c e at = rule_closed table r alternatives a c (closed_head table r d alternatives e).1 at

closed_from : (table : MaskTable) (n : ℕ) (rules : Grammar) (r a : ℕ) (c : List Sym) → are_closed_from table n rules ≡ true → alternative_of rules r a ≡ Some c → RuleClosed table (n + r) c
closed_from table n [] r a c e at = absurd (cc)
closed_from table n (alternatives ∷ rules) zero a c e at =
    let p = and_parts (is_closed_rule table n alternatives) (are_closed_from table (n + 1) rules) e in
    subst (λ (x : ℕ). RuleClosed table x c) (let f : n ≡ n + 0 = omega arith in f) (rule_closed table n alternatives a c p.0 at)
closed_from table n (alternatives ∷ rules) (suc r) a c e at =
    let p = and_parts (is_closed_rule table n alternatives) (are_closed_from table (n + 1) rules) e in
    subst (λ (x : ℕ). RuleClosed table x c) (let f : (n + 1) + r ≡ n + suc r = omega arith in f) (closed_from table (n + 1) rules r a c p.1 at)

-- so the marks of each token are closed
follows_has : (table : MaskTable) (after : ℕ) (t : Next) (b : Bool) (before rest : List Sym) (s : ℕ) → follows_within table after (before ++ Rule s ∷ rest) ≡ true → (b ≡ true → Has after t) →
    begins (nullable_at table) (first_marks table t) t b rest ≡ true → Has (follow_at table s) t
follows_has table after t b [] rest s e h on =
    let p = and_parts (is_within (mask_of table after rest) (follow_at table s)) (follows_within table after rest) e in
    within_has (mask_of table after rest) (follow_at table s) t p.0 (mask_has table t after b rest h on)
follows_has table after t b (Token u ∷ before) rest s e h on = follows_has table after t b before rest s e h on
follows_has table after t b (Rule r ∷ before) rest s e h on =
    let p = and_parts (is_within (mask_of table after (before ++ Rule s ∷ rest)) (follow_at table r)) (follows_within table after (before ++ Rule s ∷ rest)) e in
    follows_has table after t b before rest s p.1 h on

closed_at : (g : Grammar) (table : MaskTable) (r a : ℕ) (c : List Sym) → are_closed_from table 0 g ≡ true → alternative_of g r a ≡ Some c → RuleClosed table r c
closed_at g table r a c e at = subst (λ (x : ℕ). RuleClosed table x c) (let f : 0 + r ≡ r = omega arith in f) (closed_from table 0 g r a c e at)

-- a rule with an alternative of rules that can be empty can be empty
pub empty_by_masks : (g : Grammar) (table : MaskTable) (r a : ℕ) (c : List Sym) → are_closed g table ≡ true → alternative_of g r a ≡ Some c →
    empties (nullable_at table) c ≡ true → nullable_at table r ≡ true
empty_by_masks g table r a c e is empty =
    let p = and_parts (is_within 1 (follow_at table 0)) (are_closed_from table 0 g) e in (closed_at g table r a c p.1 is).empty empty

marks_closed : (g : Grammar) (table : MaskTable) (t : Next) → are_closed g table ≡ true → AreClosed g (nullable_at table) (first_marks table t) (λ r. true) (follow_marks table t) t
marks_closed g table t e =
    let p = and_parts (is_within 1 (follow_at table 0)) (are_closed_from table 0 g) e in
    record {
      empty_closed = λ r a chosen is f. (closed_at g table r a chosen p.1 is).empty f;
      first_closed = λ r a chosen is f.
          has_marks (first_at table r) t (within_has (mask_of table 0 chosen) (first_at table r) t (closed_at g table r a chosen p.1 is).first
          (mask_has table t 0 false chosen (λ (x : false ≡ true). absurd (cc)) f));
      reach_closed = λ r a s before after is f. refl;
      follow_closed = λ r a s before after is f on.
          has_marks (follow_at table s) t (follows_has table (follow_at table r) t (follow_marks table t r) before after s (closed_at g table r a (before ++ Rule s ∷ after) p.1 is).follows
          (λ x. marks_has (follow_at table r) t x) on);
      at_first = refl;
      at_end = λ x. has_marks (follow_at table 0) t (within_has 1 (follow_at table 0) t p.0
          (subst (λ (y : Next). bit_at 1 (bit_of y) ≡ 1) (sym x) refl));
    }

-- each token of a choice set is in the mask
pub mask_holds : (g : Grammar) (table : MaskTable) (r a : ℕ) (t : Next) (chosen : List Sym) → are_closed g table ≡ true → alternative_of g r a ≡ Some chosen → IsChoice g r a t → Has (choice_mask table r chosen) t
mask_holds g table r a t chosen e is h =
    mask_has table t (follow_at table r) (follow_marks table t r) chosen (λ x. marks_has (follow_at table r) t x)
    (choice_marked g (nullable_at table) (first_marks table t) (λ r. true) (follow_marks table t) t r a chosen (marks_closed g table t e) is h)

-- masks that are apart share no token
apart_seen : (table : MaskTable) (after seen : ℕ) (t : Next) (alternatives : List (List Sym)) (a : ℕ) (c : List Sym) → are_apart table after seen alternatives ≡ true → slice_get alternatives a ≡ Some c →
    Has (mask_of table after c) t → Has seen t → ⊥
apart_seen table after seen t [] a c e at h k = cc
apart_seen table after seen t (d ∷ alternatives) zero c e at h k =
    let p = and_parts (eqb (bit_and (mask_of table after d) seen) 0) (are_apart table after (bit_or (mask_of table after d) seen) alternatives) e in
    let same : c ≡ d = cc in
    apart_has (mask_of table after d) seen t p.0 (subst (λ (l : List Sym). Has (mask_of table after l) t) same h) k
apart_seen table after seen t (d ∷ alternatives) (suc a) c e at h k =
    let p = and_parts (eqb (bit_and (mask_of table after d) seen) 0) (are_apart table after (bit_or (mask_of table after d) seen) alternatives) e in
    apart_seen table after (bit_or (mask_of table after d) seen) t alternatives a c p.1 at h (or_right_has (mask_of table after d) seen t k)

apart_pair : (table : MaskTable) (after seen : ℕ) (t : Next) (alternatives : List (List Sym)) (a b : ℕ) (c d : List Sym) → are_apart table after seen alternatives ≡ true →
    slice_get alternatives a ≡ Some c → slice_get alternatives b ≡ Some d → (a ≡ b → ⊥) → Has (mask_of table after c) t → Has (mask_of table after d) t → ⊥
apart_pair table after seen t [] a b c d e at bt ne h k = cc
apart_pair table after seen t (x ∷ alternatives) zero zero c d e at bt ne h k = ne refl
apart_pair table after seen t (x ∷ alternatives) zero (suc b) c d e at bt ne h k =
    let p = and_parts (eqb (bit_and (mask_of table after x) seen) 0) (are_apart table after (bit_or (mask_of table after x) seen) alternatives) e in
    let same : c ≡ x = cc in
    apart_seen table after (bit_or (mask_of table after x) seen) t alternatives b d p.1 bt k
    (or_left_has (mask_of table after x) seen t (subst (λ (l : List Sym). Has (mask_of table after l) t) same h))
apart_pair table after seen t (x ∷ alternatives) (suc a) zero c d e at bt ne h k =
    let p = and_parts (eqb (bit_and (mask_of table after x) seen) 0) (are_apart table after (bit_or (mask_of table after x) seen) alternatives) e in
    let same : d ≡ x = cc in
    apart_seen table after (bit_or (mask_of table after x) seen) t alternatives a c p.1 at h
    (or_left_has (mask_of table after x) seen t (subst (λ (l : List Sym). Has (mask_of table after l) t) same k))
apart_pair table after seen t (x ∷ alternatives) (suc a) (suc b) c d e at bt ne h k =
    let p = and_parts (eqb (bit_and (mask_of table after x) seen) 0) (are_apart table after (bit_or (mask_of table after x) seen) alternatives) e in
    apart_pair table after (bit_or (mask_of table after x) seen) t alternatives a b c d p.1 at bt (λ s. ne (ap suc s)) h k

decides_pair : (table : MaskTable) (n : ℕ) (rules : Grammar) (r a b : ℕ) (t : Next) (c d : List Sym) → decides_from table n rules ≡ true → alternative_of rules r a ≡ Some c → alternative_of rules r b ≡ Some d → (a ≡ b → ⊥) →
    Has (mask_of table (follow_at table (n + r)) c) t → Has (mask_of table (follow_at table (n + r)) d) t → ⊥
decides_pair table n [] r a b t c d e at bt ne h k = cc
decides_pair table n (alternatives ∷ rules) zero a b t c d e at bt ne h k =
    let p = and_parts (are_apart table (follow_at table n) 0 alternatives) (decides_from table (n + 1) rules) e in
    let f : n + 0 ≡ n = omega arith in
    apart_pair table (follow_at table n) 0 t alternatives a b c d p.0 at bt ne
    (subst (λ (x : ℕ). Has (mask_of table (follow_at table x) c) t) f h) (subst (λ (x : ℕ). Has (mask_of table (follow_at table x) d) t) f k)
decides_pair table n (alternatives ∷ rules) (suc r) a b t c d e at bt ne h k =
    let p = and_parts (are_apart table (follow_at table n) 0 alternatives) (decides_from table (n + 1) rules) e in
    let f : n + suc r ≡ (n + 1) + r = omega arith in
    decides_pair table (n + 1) rules r a b t c d p.1 at bt ne
    (subst (λ (x : ℕ). Has (mask_of table (follow_at table x) c) t) f h) (subst (λ (x : ℕ). Has (mask_of table (follow_at table x) d) t) f k)

-- the masks of two alternatives of a rule have no token in common
pub masks_apart : (g : Grammar) (table : MaskTable) (r a b : ℕ) (t : Next) (c d : List Sym) → decides g table ≡ true → alternative_of g r a ≡ Some c → alternative_of g r b ≡ Some d → (a ≡ b → ⊥) →
    Has (choice_mask table r c) t → Has (choice_mask table r d) t → ⊥
masks_apart g table r a b t c d apart is_c is_d ne h k =
    let f : r ≡ 0 + r = omega arith in
    decides_pair table 0 g r a b t c d apart is_c is_d ne
    (subst (λ (x : ℕ). Has (mask_of table (follow_at table x) c) t) f h) (subst (λ (x : ℕ). Has (mask_of table (follow_at table x) d) t) f k)

-- masks that are closed and do not meet show that the grammar is predictive
pub predictive_by_masks : (g : Grammar) (table : MaskTable) → IsTrue (are_closed g table) → IsTrue (decides g table) → IsPredictive g
predictive_by_masks g table closed apart r (a, b, t, ne, has_a, has_b) =
    masks_apart g table r a b t has_a.0 has_b.0 apart has_a.1 has_b.1 ne
    (mask_holds g table r a t has_a.0 closed has_a.1 has_a) (mask_holds g table r b t has_b.0 closed has_b.1 has_b)

-- symbols that name rules below n
names_all : (n : ℕ) (symbols : List Sym) → names_below n symbols ≡ true → All (IsNamed n) symbols
names_all n [] e = All-nil (IsNamed n)
names_all n (Token u ∷ rest) e = All-cons (IsNamed n) (Token u) rest tt (names_all n rest e)
names_all n (Rule r ∷ rest) e =
    let p = and_parts (ltb r n) (names_below n rest) e in
    All-cons (IsNamed n) (Rule r) rest (ltb-true r n p.0) (names_all n rest p.1)

alternatives_all : (n : ℕ) (alternatives : List (List Sym)) → alternatives_below n alternatives ≡ true → All (All (IsNamed n)) alternatives
alternatives_all n [] e = All-nil (All (IsNamed n))
alternatives_all n (c ∷ alternatives) e =
    let p = and_parts (names_below n c) (alternatives_below n alternatives) e in
    All-cons (All (IsNamed n)) c alternatives (names_all n c p.0) (alternatives_all n alternatives p.1)

rules_all : (n : ℕ) (rules : Grammar) → rules_below n rules ≡ true → All (λ alternatives. length alternatives ≤ 65535) rules × All (All (All (IsNamed n))) rules
rules_all n [] e = (All-nil (λ alternatives. length alternatives ≤ 65535), All-nil (All (All (IsNamed n))))
rules_all n (alternatives ∷ rules) e =
    let p = and_parts (leb (length alternatives) 65535 && alternatives_below n alternatives) (rules_below n rules) e in
    let q = and_parts (leb (length alternatives) 65535) (alternatives_below n alternatives) p.0 in
    let rest = rules_all n rules p.1 in
    (All-cons (λ l. length l ≤ 65535) alternatives rules (leb-true (length alternatives) 65535 q.0) rest.0, All-cons (All (All (IsNamed n))) alternatives rules (alternatives_all n alternatives q.1) rest.1)

-- some alternative names rules of lower rank alone
record Lower (ranks : List ℕ) (rank : ℕ) (alternatives : List (List Sym)) : Type 0 where
  pub a : ℕ
  pub chosen : List Sym
  pub is : slice_get alternatives a ≡ Some chosen
  pub lower : ranks_lower ranks rank chosen ≡ true

lower_of : (ranks : List ℕ) (rank : ℕ) (alternatives : List (List Sym)) → has_lower ranks rank alternatives ≡ true → Lower ranks rank alternatives
lower_of ranks rank [] e = absurd (cc)
lower_of ranks rank (c ∷ alternatives) e =
    elim (or_cases (ranks_lower ranks rank c) (has_lower ranks rank alternatives) e) [
      | inl f ↦ record { a = 0; chosen = c; is = refl; lower = f }
      | inr f ↦ let l = lower_of ranks rank alternatives f in record { a = suc l.a; chosen = l.chosen; is = l.is; lower = l.lower }
    ]

ranked_from : (ranks : List ℕ) (n : ℕ) (rules : Grammar) (r : ℕ) → are_ranked_from ranks n rules ≡ true → r < length rules →
    (a : ℕ) × (chosen : List Sym) × (alternative_of rules r a ≡ Some chosen) × (ranks_lower ranks (get_or ranks (n + r) 0) chosen ≡ true)
ranked_from ranks n [] r e h = absurd (omega arith)
ranked_from ranks n (alternatives ∷ rules) zero e h =
    let p = and_parts (has_lower ranks (get_or ranks n 0) alternatives) (are_ranked_from ranks (n + 1) rules) e in
    let l = lower_of ranks (get_or ranks n 0) alternatives p.0 in
    (l.a, l.chosen, l.is, subst (λ (x : ℕ). ranks_lower ranks (get_or ranks x 0) l.chosen ≡ true) (let f : n ≡ n + 0 = omega arith in f) l.lower)
ranked_from ranks n (alternatives ∷ rules) (suc r) e h =
    let p = and_parts (has_lower ranks (get_or ranks n 0) alternatives) (are_ranked_from ranks (n + 1) rules) e in
    let l = ranked_from ranks (n + 1) rules r p.1 (omega arith) in
    (l.0, l.1, l.2, subst (λ (x : ℕ). ranks_lower ranks (get_or ranks x 0) l.1 ≡ true) (let f : (n + 1) + r ≡ n + suc r = omega arith in f) l.3)

-- symbols of which each rule derives something do
derives_each : (g : Grammar) (ranks : List ℕ) (rank : ℕ) (symbols : List Sym) → ranks_lower ranks rank symbols ≡ true → All (IsNamed (length g)) symbols →
    ((r : ℕ) → r < length g → get_or ranks r 0 < rank → (tokens : List ℕ) × (tree : List Step) × Derives g (Rule r ∷ []) tokens tree) →
    (tokens : List ℕ) × (tree : List Step) × Derives g symbols tokens tree
derives_each g ranks rank [] e named each = ([], [], nothing)
derives_each g ranks rank (Token u ∷ rest) e named each =
    let d = derives_each g ranks rank rest e (All-tail (IsNamed (length g)) (Token u) rest named) each in (u ∷ d.0, d.1, token d.2)
derives_each g ranks rank (Rule r ∷ rest) e named each =
    let p = and_parts (ltb (get_or ranks r 0) rank) (ranks_lower ranks rank rest) e in
    let d = derives_each g ranks rank rest p.1 (All-tail (IsNamed (length g)) (Rule r) rest named) each in
    let f = each r (All-head (IsNamed (length g)) (Rule r) rest named) (ltb-true (get_or ranks r 0) rank p.0) in
    (f.0 ++ d.0, f.1 ++ d.1, Derives-append f.2 d.2)

-- so each rule does, by its rank
derives_by_rank : (g : Grammar) (ranks : List ℕ) → All (All (All (IsNamed (length g)))) g → are_ranked_from ranks 0 g ≡ true →
    (n r : ℕ) → r < length g → get_or ranks r 0 < n → (tokens : List ℕ) × (tree : List Step) × Derives g (Rule r ∷ []) tokens tree
derives_by_rank g ranks named e zero r inside h = absurd (omega arith)
derives_by_rank g ranks named e (suc n) r inside h =
    let l = ranked_from ranks 0 g r e inside in
    let lower = subst (λ (x : ℕ). ranks_lower ranks (get_or ranks x 0) l.1 ≡ true) (let f : 0 + r ≡ r = omega arith in f) l.3 in
    let d = derives_each g ranks (get_or ranks r 0) l.1 lower (all_named g (length g) r l.0 l.1 named l.2)
    (λ s low k. derives_by_rank g ranks named e n s low (omega arith)) in
    (d.0 ++ [], _, rule l.2 d.2 nothing)

pub well_formed_by_ranks : (g : Grammar) (ranks : List ℕ) → IsTrue (are_ranked g ranks) → IsWellFormed g
well_formed_by_ranks g ranks e =
    let p = and_parts (ltb 0 (length g) && leb (length g) 65535 && rules_below (length g) g) (are_ranked_from ranks 0 g) e in
    let q = and_parts (ltb 0 (length g) && leb (length g) 65535) (rules_below (length g) g) p.0 in
    let s = and_parts (ltb 0 (length g)) (leb (length g) 65535) q.0 in
    let all = rules_all (length g) g q.1 in
    record {
      some_rule = ltb-true 0 (length g) s.0;
      few_rules = leb-true (length g) 65535 s.1;
      few_alternatives = all.0;
      named = all.1;
      derives = λ r inside. derives_by_rank g ranks all.1 p.1 (get_or ranks r 0 + 1) r inside (omega arith);
    }
