-- What typed expressions for times and delays are worth.
use Rattle.std.specs.Prelude.{ℕ, Option, Some}
use Rattle.vital_operands.specs.declared.tree.DelayExpr.{DelayExpr}
use Rattle.vital_operands.specs.declared.tree.DelayExpr.TheVariants as delays
use Rattle.vital_operands.specs.declared.tree.TimeExpr.{TimeExpr}
use Rattle.vital_operands.specs.declared.tree.TimeExpr.TheVariants as times
use Rattle.vital_timing.specs.declared.delay.Delay.{Delay}
use Rattle.vital_timing.specs.declared.delay.Delay.TheVariants as delay
use Rattle.vital_typed_cells.specs.Expressions.{Delay', Names, Time, Worth}

-- ---- constants

abbrev pub time_of : Option Worth → ℕ
time_of (Some (Time t)) = t
time_of other = 0

abbrev pub delay_of : Option Worth → Delay
delay_of (Some (Delay' d)) = d
delay_of other = delay.One 0

-- ---- times, in femtoseconds, and delays

abbrev pub one_time : Delay → ℕ
one_time (delay.One t) = t
one_time other = 0

abbrev pub time : Names → TimeExpr → ℕ
time e (times.Literal t) = t
time e (times.Generic name) = one_time (e.generic name)
time e (times.Constant name) = time_of (e.constant name)

abbrev pub delay_worth : Names → DelayExpr → Delay
delay_worth e (delays.Literal d) = d
delay_worth e (delays.Generic name) = e.generic name
delay_worth e (delays.Constant name) = delay_of (e.constant name)
