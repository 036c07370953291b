use Rattle.std.proofs.Common.{◌∙◌, ap}
use Rattle.std.specs.Option.{option_and_then}
use Rattle.vital_declarations.specs.Numbers.{in_word}
use Rattle.vital_operands.specs.Named.{length_of_standing}
use Rattle.vital_operands.specs.Seen.{lent}
use Rattle.vital_operands.proofs.ShortVectors.{length-in-word}
use Rattle.vital_operands.proofs.position.Position.length_named.Goals as goal

pub returns : goal.returns
returns c =
    c.length_of_standing.ensures
    ∙ ap (λ s. option_and_then in_word (length_of_standing s)) c.standing.ensures
    ∙ length-in-word (lent c.args.self.now) c.args.identifier.now
