-- Times that are written are short, and so are delays of short times.
use Rattle.std.proofs.Common.{◌≡◌, ℕ, Bool, true, false, List, Option, Some, None, refl}
use Rattle.std.specs.Prelude.{cond, nat_le}
use Rattle.std.specs.Option.{IfSome, option_and_then}
use Rattle.vital_nodes.specs.declared.expr.Physical.{Physical}
use Rattle.vital_operands.specs.Items.{physical_time}
use Rattle.vital_operands.specs.Named.{even_delay}
use Rattle.vital_timing.specs.declared.delay.Delay.{Delay}
use Rattle.vital_timing.specs.declared.delay.DelayType.{DelayType}
use Rattle.vital_timing.specs.declared.delay.DelayType.TheVariants.{One, Two, Six}
use Rattle.vital_timing.specs.declared.time_literal.UnitOfTime.{UnitOfTime}
use Rattle.vital_timing.specs.TimeLiterals.{literal_femtoseconds, literal_time, unit_named}
use Rattle.vital_typed_cells.specs.Times.{are_short, is_short}
use Rattle.vital_typed_cells.proofs.ExprTests.{both-true}

abbrev pub Short : ℕ → Type 0
Short t = is_short t ≡ true

if-short : (b : Bool) (n : ℕ) → (b ≡ true → Short n) → IfSome (cond b (Some n) None) Short
if-short true n holds = holds refl
if-short false n holds = tt

literal-short : (number : List ℕ) (u : UnitOfTime) → IfSome (literal_time number u) Short
literal-short number u = if-short (nat_le (literal_femtoseconds number u) 1_125_899_906_842_624) (literal_femtoseconds number u) (λ h. h)

unit-short : (number : List ℕ) (u : Option UnitOfTime) → IfSome (option_and_then (λ v. literal_time number v) u) Short
unit-short number None = tt
unit-short number (Some u) = literal-short number u

pub physical-short : (p : Physical) → IfSome (physical_time p) Short
physical-short p = unit-short p.number (unit_named p.unit.name)

-- ---- delays

abbrev pub AreShort : Delay → Type 0
AreShort d = are_short d ≡ true

pub even-short : (d : DelayType) (t : ℕ) → Short t → AreShort (even_delay d t)
even-short One t short = short
even-short Two t short = both-true (is_short t) (is_short t) short short
even-short Six t short =
    both-true _ (is_short t) (both-true _ (is_short t) (both-true _ (is_short t) (both-true _ (is_short t) (both-true (is_short t) (is_short t) short short) short) short) short) short
