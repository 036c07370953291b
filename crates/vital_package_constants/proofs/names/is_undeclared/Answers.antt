use Rattle.std.proofs.Common.{sym, ◌∙◌, ap}
use Rattle.std.specs.Prelude.{false, is_none}
use Rattle.std.specs.Option.{option_copied, option_map, option_map_or}
use Rattle.vital_names.specs.Meanings.{lent, meaning_in_value}
use Rattle.vital_package_constants.proofs.BreachLemmas.{none-seen}
use Rattle.vital_package_constants.proofs.names.is_undeclared.Goals as goal

pub returns-in-Some : goal.returns-in-Some
returns-in-Some c =
    none-seen lent c.meaning_in_value.result c.is_none.result c.is_none.ensures
    ∙ ap is_none (c.meaning_in_value.ensures ∙ ap (λ name. meaning_in_value name c.args.number c.args.library.now) c.as_slice.ensures)
    ∙ ap (λ o. option_map_or is_none (option_map (λ i. meaning_in_value i.name c.args.number c.args.library.now) o) false) (ap option_copied (sym c.in-Some.is) ∙ c.identifier_of_node.ensures)
