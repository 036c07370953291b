use Rattle.std.proofs.Common.{◌++◌, [], ◌∷◌, ◌∙◌, ap, sym, arith}
use Rattle.vital_structure.specs.Contents.{lent, signal_in, signals_in}
use Rattle.vital_nodes.proofs.Lists.{filter_map-seen}
use Rattle.vital_structure.proofs.contents.signals_in.Goals as goal

pub loop-content-preserved : goal.loop-content-preserved
loop-content-preserved c =
    c.in_ok-put_signal.ensures
    ∙ ap (λ ss. ss ++ signals_in (lent c.content-item.result ∷ [])) c.loop-content.invariant
    ∙ sym (filter_map-seen lent signal_in c.args.contents.now c.loop-content.content-index c.content-item.result (omega arith) c.content-item.is)
