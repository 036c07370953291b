use Rattle.std.proofs.Common.{◌*◌, ◌+◌, ◌∙◌, arith}
use Rattle.vital_timing.specs.TimeLiterals.{femtoseconds}
use Rattle.vital_timing.proofs.Carries.{great-literal, small-literal, time-is, worth-pos}
use Rattle.vital_timing.proofs.time_literal.UnitOfTime.literal_time.Goals as goal

pub returns-then-time-from : goal.returns-then-time-from
returns-then-time-from c =
    small-literal (femtoseconds c.args.self) c.args.number.now _ (worth-pos c.args.self)
    (time-is c.from.result c.from-worth.result c.fraction_of.result (femtoseconds c.args.self) c.split_at_point.result.0.now c.split_at_point.result.1.now c.args.number.now
    (c.from.ensures ∙ c.whole_number.ensures) (c.from-worth.ensures ∙ c.femtoseconds.ensures) c.fraction_of.ensures.value c.split_at_point.ensures.before c.split_at_point.ensures.behind)
    (omega (arith, c.from-2.ensures))

pub returns-else-time-from : goal.returns-else-time-from
returns-else-time-from c =
    great-literal (femtoseconds c.args.self) c.args.number.now (c.from.result * c.from-worth.result + c.fraction_of.result)
    (time-is c.from.result c.from-worth.result c.fraction_of.result (femtoseconds c.args.self) c.split_at_point.result.0.now c.split_at_point.result.1.now c.args.number.now
    (c.from.ensures ∙ c.whole_number.ensures) (c.from-worth.ensures ∙ c.femtoseconds.ensures) c.fraction_of.ensures.value c.split_at_point.ensures.before c.split_at_point.ensures.behind)
    (omega (arith, c.from-2.ensures))
