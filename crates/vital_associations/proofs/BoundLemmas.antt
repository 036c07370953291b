-- How many numbers are in ranges.
use Rattle.std.proofs.Common.{◌≡◌, ℕ, ◌+◌, true, false, arith}
use Rattle.std.specs.Prelude.{not, ◌==◌, nat_le}
use Rattle.std.proofs.lemmas.Bool.Decides.{nat_tests}
use Rattle.vital_declarations.specs.Numbers.{Range, length_between, length_of}
use Rattle.vital_nodes.specs.declared.expr.Direction.{Direction}
use Rattle.vital_nodes.specs.declared.expr.Direction.TheVariants.{To, Downto}
use Rattle.vital_associations.specs.Overlaps.{greatest, least, lower}

null-at : (d : Direction) (left right : ℕ) → (length_between d left right == 0) ≡ not (nat_le (lower d left right) (lower d right left))
null-at To left right = grind (arith, nat_tests)
null-at Downto left right = grind (arith, nat_tests)

-- a range is null where its greatest number is less than its least one
pub null_is : (r : Range) → (length_of r == 0) ≡ not (nat_le (least r) (greatest r))
null_is r = null-at r.direction r.left r.right

lengths-at : (d e : Direction) (l r m s : ℕ) → (length_between d l r == 0) ≡ false → (length_between e m s == 0) ≡ false → (lower d r l + lower e m s == lower e s m + lower d l r) ≡ (length_between d l r == length_between e m s)
lengths-at To To l r m s h h' = grind (arith, nat_tests)
lengths-at To Downto l r m s h h' = grind (arith, nat_tests)
lengths-at Downto To l r m s h h' = grind (arith, nat_tests)
lengths-at Downto Downto l r m s h h' = grind (arith, nat_tests)

-- two ranges that are not null have one length exactly if their ends are equally far apart
pub same_lengths : (a b : Range) → (length_of a == 0) ≡ false → (length_of b == 0) ≡ false → (greatest a + least b == greatest b + least a) ≡ (length_of a == length_of b)
same_lengths a b h h' = lengths-at a.direction b.direction a.left a.right b.left b.right h h'

-- a null range has as many numbers as another one exactly if that is null
pub null_lengths : (a b : Range) → (length_of a == 0) ≡ true → (length_of b == 0) ≡ (length_of a == length_of b)
null_lengths a b h = grind (arith, nat_tests)

pub other_lengths : (a b : Range) → (length_of b == 0) ≡ true → (length_of a == 0) ≡ (length_of a == length_of b)
other_lengths a b h = grind (arith, nat_tests)
