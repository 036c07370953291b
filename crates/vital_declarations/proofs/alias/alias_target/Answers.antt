use Rattle.std.proofs.Common.{◌∙◌, ap}
use Rattle.std.specs.Option.{option_map_or}
use Rattle.vital_names.specs.Meanings.{meaning}
use Rattle.vital_names.specs.Meanings as meanings
use Rattle.vital_names.specs.Sites as sites
use Rattle.vital_declarations.specs.Operands.{NoTarget, site_of_alias, target_by}
use Rattle.vital_declarations.proofs.alias.alias_target.Goals as goal

pub returns-in-Some : goal.returns-in-Some
returns-in-Some c =
    let a = c.args.alias.now in
    let site = site_of_alias (sites.lent c.args.site.now) a in
    c.target_by.ensures
    ∙ ap (λ ss. target_by ss (meanings.lent c.in-Some.meaning)) c.as_slice-in-Some.ensures
    ∙ ap (λ m. option_map_or (target_by a.target.suffixes) m NoTarget) (c.in-Some.ensures ∙ ap (λ n. meaning n c.args.names.now site) c.as_slice.ensures)

pub returns-in-None : goal.returns-in-None
returns-in-None c =
    let a = c.args.alias.now in
    let site = site_of_alias (sites.lent c.args.site.now) a in
    ap (λ m. option_map_or (target_by a.target.suffixes) m NoTarget) (c.in-None.ensures ∙ ap (λ n. meaning n c.args.names.now site) c.as_slice.ensures)
