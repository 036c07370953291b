use Rattle.std.proofs.Common.{◌+◌, reverse, ap, ◌∙◌}
use Rattle.vital_naturals.proofs.NumeralLemmas.{reverse_map}
use Rattle.vital_naturals.proofs.digits.ascii_of.Goals as goal

pub returns : goal.returns
returns c = c.reverse.ensures.items ∙ ap reverse c.in_ok-bytes.ensures ∙ reverse_map (λ d. 48 + d) c.args.digits.now
