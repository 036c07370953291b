use Rattle.std.proofs.Common.{sym, ◌∙◌, ap}
use Rattle.std.specs.Option.{option_and_then, option_copied}
use Rattle.vital_limits.specs.ConstantLimits.{constant_named}
use Rattle.vital_limits.proofs.packages.named_at.Goals as goal

pub returns-in-Some : goal.returns-in-Some
returns-in-Some c =
    c.constant_named.ensures
    ∙ ap (constant_named c.args.library.now c.args.number) c.as_slice.ensures
    ∙ ap (option_and_then (λ i. constant_named c.args.library.now c.args.number i.name)) (ap option_copied (sym c.in-Some.is) ∙ c.identifier_of_node.ensures)
