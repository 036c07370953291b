use Rattle.std.proofs.Common.{false, sym, ◌∙◌, ap}
use Rattle.std.specs.Option.{option_map_or}
use Rattle.vital_declaration_clauses.specs.GoodConstants.{is_good_value}
use Rattle.vital_declaration_clauses.specs.Scopes.{lent}
use Rattle.vital_declarations.specs.Types.{type_of}
use Rattle.vital_declaration_clauses.proofs.good_constant.is_good_constant.Goals as goal

pub returns-in-Some : goal.returns-in-Some
returns-in-Some c =
    c.is_good_value.ensures
    ∙ ap (λ t. is_good_value (lent c.args.scope) t c.in-Some.value) c.type_of.ensures
    ∙ ap (λ o. option_map_or (is_good_value (lent c.args.scope) (type_of c.get-parts.result.now.subtype)) o false) (sym c.in-Some.is)
    ∙ ap (λ p. option_map_or (is_good_value (lent c.args.scope) (type_of p.subtype)) p.value false) c.get-parts.ensures
