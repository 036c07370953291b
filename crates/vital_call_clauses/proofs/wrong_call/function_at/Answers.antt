use Rattle.std.proofs.Common.{sym, ◌∙◌, ap}
use Rattle.std.specs.Option.{option_and_then, option_map}
use Rattle.vital_names.specs.declared.predeclared.Function.{Function}
use Rattle.vital_names.specs.Kinds.{function_meant}
use Rattle.vital_names.specs.Meanings.{Meaning, meaning}
use Rattle.vital_names.specs.Meanings as meanings
use Rattle.vital_names.specs.Sites as sites
use Rattle.vital_call_clauses.proofs.Words.{no-function}
use Rattle.vital_call_clauses.proofs.wrong_call.function_at.Goals as goal

pub returns-in-Some : goal.returns-in-Some
returns-in-Some c =
    c.function.ensures
    ∙ ap (option_and_then function_meant) (ap (option_map meanings.lent) (sym c.in-Some.is) ∙ c.meaning.ensures ∙ ap (λ n. meaning n c.args.names.now (sites.lent c.args.site.now)) c.as_slice-word.ensures)

pub returns-in-None : goal.returns-in-None
returns-in-None c =
    ap (option_and_then {T = Meaning} {U = Function} function_meant) (ap (option_map meanings.lent) (sym c.in-None.is) ∙ c.meaning.ensures ∙ ap (λ n. meaning n c.args.names.now (sites.lent c.args.site.now)) c.as_slice-word.ensures)

pub returns-then-not-is_function_word : goal.returns-then-not-is_function_word
returns-then-not-is_function_word c =
    sym
    (ap (λ n. option_and_then function_meant (meaning n c.args.names.now (sites.lent c.args.site.now))) (sym c.as_slice-word.ensures)
    ∙ no-function c.as_slice-word.result.now c.args.names.now (sites.lent c.args.site.now) (sym c.is_function_word.ensures ∙ c.if-not-is_function_word.true))
