use Rattle.std.proofs.Common.{◌≡◌, ◌<◌, length, Some, subst, sym, ◌∙◌, ap, arith}
use Rattle.std.specs.Option.{option_copied}
use Rattle.vital_library.specs.Numbers.{number_named}
use Rattle.vital_library.specs.Units.{entities}
use Rattle.vital_library.proofs.LibraryLemmas.{few-entities}
use Rattle.vital_library.proofs.NumberLemmas.{named-there}
use Rattle.vital_library.proofs.library.Library.entity_named.Goals as goal

pub overflow_cast-result : goal.overflow_cast-result
overflow_cast-result c =
    let files = c.self.inside.files in
    let is : Some c.in-Some.number.now ≡ number_named c.args.name.now files = sym (ap option_copied c.in-Some.is) ∙ c.get.ensures.value ∙ c.self.invariant.0.numbers_there c.args.name.now in
    omega (arith, named-there c.args.name.now files (Some c.in-Some.number.now) is, few-entities files c.self.invariant.0.sound)

pub returns-in-Some-clause-there : goal.returns-in-Some-clause-there
returns-in-Some-clause-there c =
    let files = c.self.inside.files in
    let is : Some c.in-Some.number.now ≡ number_named c.args.name.now files = sym (ap option_copied c.in-Some.is) ∙ c.get.ensures.value ∙ c.self.invariant.0.numbers_there c.args.name.now in
    subst (λ fs. c.in-Some.number.now < length (entities fs)) c.self.view_is (named-there c.args.name.now files (Some c.in-Some.number.now) is)
