use Rattle.std.proofs.Common.{◌++◌, ◌∙◌, ap, sym}
use Rattle.std.specs.Option.{option_copied}
use Rattle.std.proofs.lemmas.Result.{on_ok_weaker}
use Rattle.vital_limits.specs.TextLimits.{limits_of_arch}
use Rattle.vital_nodes.specs.declared.unit.Unit.TheVariants as units
use Rattle.vital_limits.proofs.WithinLemmas.{put-unit}
use Rattle.vital_limits.proofs.text_limits.put_of_arch.Goals as goal

pub returns-in-Some : goal.returns-in-Some
returns-in-Some c =
    on_ok_weaker c.put_in_arch.result
    (λ put. put-unit (units.Arch c.in-Some.arch.now) _ _ put ∙ ap (λ a. c.args.limits.now.items ++ limits_of_arch (option_copied a)) (sym c.in-Some.is))
    c.put_in_arch.ensures
