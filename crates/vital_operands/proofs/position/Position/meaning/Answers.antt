use Rattle.std.proofs.Common.{◌≡◌, ◌∙◌, ap, sym, inl, inr}
use Rattle.vital_names.specs.Meanings.{meaning, meaning_in_value}
use Rattle.vital_names.specs.Sites as sites
use Rattle.vital_operands.specs.Positions.{meaning_at}
use Rattle.vital_operands.specs.Seen.{lent}
use Rattle.vital_operands.proofs.position.Position.meaning.Goals as goal

pub returns-in-Statement : goal.returns-in-Statement
returns-in-Statement c =
    c.meaning.ensures
    ∙ ap (λ n. meaning n c.in-Statement.names.now (sites.lent c.site_of.result)) c.as_slice-name.ensures
    ∙ ap (λ s. meaning c.args.identifier.now.name c.in-Statement.names.now s) c.site_of.ensures
    ∙ ap (λ p. meaning_at (lent p) c.args.identifier.now) (sym c.in-Statement.is)

pub returns-in-Package : goal.returns-in-Package
returns-in-Package c =
    c.meaning_in_value.ensures
    ∙ ap (λ n. meaning_in_value n c.in-Package.number c.in-Package.library.now) c.as_slice-name.ensures
    ∙ ap (λ p. meaning_at (lent p) c.args.identifier.now) (sym c.in-Package.is)

pub returns-in-Value : goal.returns-in-Value
returns-in-Value c =
    let here : meaning c.args.identifier.now.name c.in-Value.names.now (sites.lent c.in-Value.site) ≡ meaning_at (lent c.args.self.now) c.args.identifier.now =
    elim c.in-Value.is [ inl is ↦ ap (λ p. meaning_at (lent p) c.args.identifier.now) (sym is) | inr is ↦ ap (λ p. meaning_at (lent p) c.args.identifier.now) (sym is) ] in
    c.meaning-in-Value.ensures
    ∙ ap (λ n. meaning n c.in-Value.names.now (sites.lent c.in-Value.site)) c.as_slice-name.ensures
    ∙ here
