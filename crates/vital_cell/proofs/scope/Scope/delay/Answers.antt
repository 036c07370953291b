use Rattle.std.proofs.Common.{sym, ◌∙◌, ap}
use Rattle.std.specs.Prelude.{slice_get, unwrap_or}
use Rattle.std.specs.Option.{option_and_then}
use Rattle.vital_cell.proofs.NameLemmas.{delay-there}
use Rattle.vital_timing.specs.declared.delay.Delay.TheVariants as delay
use Rattle.vital_cell.proofs.scope.Scope.delay.Goals as goal

pub returns-in-Some : goal.returns-in-Some
returns-in-Some c =
    let ds = c.args.self.now.delays.now in
    c.delay_at.ensures
    ∙ ap (λ o. unwrap_or (option_and_then (slice_get ds) o) (delay.One 0)) c.in-Some.ensures.number
    ∙ sym (delay-there c.args.self.now.generics.now ds c.args.name.now)

pub returns-in-None : goal.returns-in-None
returns-in-None c =
    let ds = c.args.self.now.delays.now in
    ap (λ o. unwrap_or (option_and_then (slice_get ds) o) (delay.One 0)) c.in-None.ensures.number
    ∙ sym (delay-there c.args.self.now.generics.now ds c.args.name.now)
