-- Bits in order.
use Rattle.std.proofs.Common.{◌≡◌, true, false, refl, sym, ◌∙◌, ap}
use Rattle.std.specs.Prelude.{Bool, not}
use Rattle.std.specs.Cmp.{IsTotalOrder}
use Rattle.std.specs.declared.cmp.Ordering.{Ordering}
use Rattle.std.specs.declared.cmp.Ordering.TheVariants.{Less, Equal, Greater}
use Rattle.std.specs.Ordering.{is_lt, is_gt, ordering_reverse}
use Rattle.std.proofs.lemmas.Cmp.{nat_cmp_total, on_total, then_total, upto}
use Rattle.vital_associations.specs.declared.bit.Bit.{Bit}
use Rattle.vital_associations.specs.Spans.{is_upto, order, rank}

total : IsTotalOrder order
total = then_total (on_total (λ b. b.port) nat_cmp_total) (on_total rank nat_cmp_total)

turned : (r s : Ordering) → r ≡ ordering_reverse s → not (is_lt r) ≡ not (is_gt s)
turned r Less e = ap (λ t. not (is_lt t)) e
turned r Equal e = ap (λ t. not (is_lt t)) e
turned r Greater e = ap (λ t. not (is_lt t)) e

upto-is : (a b : Bit) → is_upto a b ≡ not (is_gt (order a b))
upto-is a b = turned (order b a) (order a b) (total.antisymm b a)

not-true : (b : Bool) → not b ≡ true → b ≡ false
not-true true h = absurd (cc)
not-true false h = refl

-- a bit that does not stand behind a second one, which does not stand behind a third one, does not stand behind that
pub upto-trans : (a b c : Bit) → is_upto a b ≡ true → is_upto b c ≡ true → is_upto a c ≡ true
upto-trans a b c first second =
    upto-is a c
    ∙ ap not (upto total a b c (not-true _ (sym (upto-is a b) ∙ first)) (not-true _ (sym (upto-is b c) ∙ second)))

one-way : (o : Ordering) → not (is_gt o) ≡ false → not (is_lt o) ≡ true
one-way Less h = absurd (cc)
one-way Equal h = absurd (cc)
one-way Greater h = refl

-- of two bits one does not stand behind the other
pub upto-total : (a b : Bit) → is_upto a b ≡ false → is_upto b a ≡ true
upto-total a b h = one-way (order a b) (sym (upto-is a b) ∙ h)

by-contradiction : (b : Bool) → (b ≡ true → true ≡ false) → b ≡ false
by-contradiction true f = f refl
by-contradiction false f = refl

-- a bit before one that stands before a third one
pub behind-first : (a b c : Bit) → is_upto a b ≡ true → is_upto c b ≡ false → is_upto c a ≡ false
behind-first a b c first second = by-contradiction _ (λ h. sym (upto-trans c a b h first) ∙ second)

pub behind-second : (a b c : Bit) → is_upto a b ≡ false → is_upto a c ≡ true → is_upto c b ≡ false
behind-second a b c first second = by-contradiction _ (λ h. sym (upto-trans a c b second h) ∙ first)

-- what an order of two bits says
pub order-less : (a b : Bit) → order a b ≡ Less → is_upto b a ≡ false
order-less a b h = ap (λ o. not (is_lt o)) h

pub order-equal : (a b : Bit) → order a b ≡ Equal → (is_upto a b ≡ true) × (is_upto b a ≡ true)
order-equal a b h = (upto-is a b ∙ ap (λ o. not (is_gt o)) h, ap (λ o. not (is_lt o)) h)

pub order-greater : (a b : Bit) → order a b ≡ Greater → is_upto a b ≡ false
order-greater a b h = upto-is a b ∙ ap (λ o. not (is_gt o)) h
