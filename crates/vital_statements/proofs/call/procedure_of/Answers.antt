use Rattle.std.proofs.Common.{◌∙◌, ap}
use Rattle.std.specs.Option.{option_and_then}
use Rattle.vital_names.specs.Kinds.{procedure_meant}
use Rattle.vital_names.specs.Meanings.{meaning}
use Rattle.vital_names.specs.Sites as sites
use Rattle.vital_statements.proofs.call.procedure_of.Goals as goal

pub returns-in-Some : goal.returns-in-Some
returns-in-Some c =
    let cell = c.args.names.now in
    c.procedure.ensures
    ∙ ap (option_and_then procedure_meant)
    (c.in-Some.ensures
    ∙ ap (λ name. meaning name cell (sites.lent c.site_at-site.result)) c.as_slice.ensures
    ∙ ap (meaning c.args.call.identifier.now.name cell) c.site_at-site.ensures)

pub returns-in-None : goal.returns-in-None
returns-in-None c =
    let cell = c.args.names.now in
    ap (option_and_then procedure_meant)
    (c.in-None.ensures
    ∙ ap (λ name. meaning name cell (sites.lent c.site_at-site.result)) c.as_slice.ensures
    ∙ ap (meaning c.args.call.identifier.now.name cell) c.site_at-site.ensures)
