use Rattle.std.proofs.Common.{◌∙◌, ap}
use Rattle.std.specs.Option.{option_and_then}
use Rattle.vital_declarations.specs.Numbers.{in_word}
use Rattle.vital_operands.specs.Named.{offset_in_standing}
use Rattle.vital_operands.specs.Seen.{lent}
use Rattle.vital_operands.proofs.ShortVectors.{offset-in-word}
use Rattle.vital_operands.proofs.position.Position.offset_named.Goals as goal

pub returns : goal.returns
returns c =
    c.offset_in_standing.ensures
    ∙ ap (λ s. option_and_then in_word (offset_in_standing s c.args.index.now)) c.standing.ensures
    ∙ offset-in-word (lent c.args.self.now) c.args.identifier.now c.args.index.now
