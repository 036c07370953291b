use Rattle.std.proofs.Common.{sym, ◌∙◌, ap}
use Rattle.std.specs.Option.{option_and_then, option_map}
use Rattle.vital_names.specs.Kinds.{function_meant}
use Rattle.vital_names.specs.Meanings.{lent, meaning_in_value}
use Rattle.vital_package_constants.proofs.names.function_at.Goals as goal

pub returns-in-Some : goal.returns-in-Some
returns-in-Some c =
    c.function.ensures
    ∙ ap (option_and_then function_meant) (ap (option_map lent) (sym c.in-Some.is) ∙ c.meaning_in_value.ensures ∙ ap (λ name. meaning_in_value name c.args.number c.args.library.now) c.as_slice.ensures)

pub returns-in-None : goal.returns-in-None
returns-in-None c =
    ap (option_and_then function_meant) (ap (option_map lent) (sym c.in-None.is) ∙ c.meaning_in_value.ensures ∙ ap (λ name. meaning_in_value name c.args.number c.args.library.now) c.as_slice.ensures)
