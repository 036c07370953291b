use Rattle.std.proofs.Common.{sym, ◌∙◌, ap}
use Rattle.std.specs.List.{position_from}
use Rattle.std.proofs.lemmas.Iterator.Adapters.{position_from-zero}
use Rattle.vital_library.specs.Constants.{constants_of, has_name, lent}
use Rattle.vital_library.proofs.constants.constant_numbers.Goals as goal

pub returns : goal.returns
returns c = λ name.
    c.in_ok-numbers.ensures name
    ∙ ap (λ cs. position_from (has_name name) 0 (lent cs)) c.deref.ensures.value
    ∙ ap (position_from (has_name name) 0) c.in_ok-constants.ensures
    ∙ sym (position_from-zero (has_name name) (constants_of c.args.files.now))
