-- Spans by their bits, and by numbers.
use Rattle.std.proofs.Common.{◌≡◌, ℕ, true, false, List, [], ◌∷◌, refl, sym, ◌∙◌, ap, arith}
use Rattle.std.specs.Prelude.{Bool, not, cond, ◌&&◌, ◌||◌, ◌==◌, nat_le, nat_lt}
use Rattle.std.specs.List.{list_any}
use Rattle.std.specs.declared.cmp.Ordering.TheVariants.{Less, Equal, Greater}
use Rattle.std.specs.Ordering.{is_lt, nat_cmp, ordering_then}
use Rattle.std.proofs.lemmas.Bool.Decides.{nat_tests}
use Rattle.vital_associations.specs.declared.bit.Bit.{Bit}
use Rattle.vital_associations.specs.declared.span.Span.{Span as Span'}
use Rattle.vital_associations.specs.Spans.{Kept, by_index, end_of, is_met, is_upto, lent, rank}
use Rattle.vital_associations.proofs.SpanLemmas.{touches, true-false}

-- the first bit of a span
abbrev pub first-of : Span' → Bit
first-of s = record { port = s.port; index = s.least }

-- one number is at most another one
upto-number : (a b : ℕ) → not (is_lt (nat_cmp b a)) ≡ nat_le a b
upto-number a b = step (nat_lt b a) (b == a) (nat_le a b) (grind (arith, nat_tests))
  where
    step : (less same most : Bool) → most ≡ not less → not (is_lt (cond less Less (cond same Equal Greater))) ≡ most
    step true same most h = sym h
    step false true most h = sym h
    step false false most h = sym h

in-bits : (a b c d : ℕ) (less same less' same' : Bool) → same' ≡ same → (same ≡ true → (less ≡ false) × (less' ≡ false)) → (same ≡ false → less' ≡ not less) → (not (is_lt (ordering_then (cond less Less (cond same Equal Greater)) (nat_cmp b a))) && not (is_lt (ordering_then (cond less' Less (cond same' Equal Greater)) (nat_cmp d c)))) ≡ (same' && nat_le a b && nat_le c d)
in-bits a b c d true true less' same' e alike apart = absurd (true-false (alike refl).0)
in-bits a b c d false true true same' e alike apart = absurd (true-false (alike refl).1)
in-bits a b c d false true false false e alike apart = absurd (true-false (sym e))
in-bits a b c d false true false true e alike apart = ap (λ t. t && not (is_lt (nat_cmp d c))) (upto-number a b) ∙ ap (λ t. nat_le a b && t) (upto-number c d)
in-bits a b c d true false less' true e alike apart = absurd (true-false e)
in-bits a b c d true false less' false e alike apart = refl
in-bits a b c d false false less' true e alike apart = absurd (true-false e)
in-bits a b c d false false true false e alike apart = refl
in-bits a b c d false false false false e alike apart = absurd (true-false (sym (apart refl)))

-- bits in order, of one port or of two
pub bits-meet : (p q a b c d : ℕ) → (not (is_lt (ordering_then (nat_cmp q p) (nat_cmp b a))) && not (is_lt (ordering_then (nat_cmp p q) (nat_cmp d c)))) ≡ ((p == q) && nat_le a b && nat_le c d)
bits-meet p q a b c d =
    in-bits a b c d (nat_lt q p) (q == p) (nat_lt p q) (p == q) (grind (arith, nat_tests))
    (λ h. (grind (arith, nat_tests), grind (arith, nat_tests)))
    (λ h. grind (arith, nat_tests))

port-itself : (n : ℕ) → nat_cmp n n ≡ Equal
port-itself n = itself (nat_lt n n) (n == n) (grind (arith, nat_tests)) (grind (arith, nat_tests))
  where
    itself : (less same : Bool) → less ≡ false → same ≡ true → cond less Less (cond same Equal Greater) ≡ Equal
    itself true same h h' = absurd (true-false h)
    itself false true h h' = refl
    itself false false h h' = absurd (true-false (sym h'))

-- the first bit of a span does not stand behind its last one
pub whole-upto : (s : Span') → nat_le (by_index s.least) (by_index s.greatest) ≡ true → is_upto (end_of (first-of s, s.least)) (end_of (first-of s, s.greatest)) ≡ true
whole-upto s h = ap (λ o. not (is_lt (ordering_then o (nat_cmp (by_index s.greatest) (by_index s.least))))) (port-itself s.port) ∙ upto-number (by_index s.least) (by_index s.greatest) ∙ h

-- a span has a bit in common with kept ones exactly if they touch its bits
pub met-touched : (kept : List Kept) (s : Span') → is_met kept (lent s) ≡ list_any (touches (first-of s) (end_of (first-of s, s.greatest))) kept
met-touched [] s = refl
met-touched (k ∷ others) s =
    ap (λ b. b || is_met others (lent s)) (sym (bits-meet k.0.port s.port (rank k.0) (by_index s.greatest) (by_index s.least) (by_index k.1)))
    ∙ ap (λ b. touches (first-of s) (end_of (first-of s, s.greatest)) k || b) (met-touched others s)
