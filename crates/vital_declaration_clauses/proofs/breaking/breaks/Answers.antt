use Rattle.std.proofs.Common.{sym, ◌∙◌, ap}
use Rattle.vital_names.specs.Sites as sites
use Rattle.vital_declaration_clauses.specs.Clauses.{breaks}
use Rattle.vital_declaration_clauses.proofs.breaking.breaks.Goals as goal

pub returns-in-OfSignals : goal.returns-in-OfSignals
returns-in-OfSignals c =
    c.breaks_4.ensures (sites.lent c.args.site.now)
    ∙ ap (λ k. breaks k c.args.names.now (sites.lent c.args.site.now) c.args.declaration.now) (sym c.in-OfSignals.is)
