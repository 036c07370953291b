use Rattle.std.proofs.Common.{◌++◌, ◌∷◌, [], ap, ◌∙◌, arith}
use Rattle.vital_netlist.specs.Designs.{lent_signal}
use Rattle.vital_kernel.specs.DesignNetworks.{signal_of}
use Rattle.vital_kernel.specs.declared.network.NetSignal.{NetSignal}
use Rattle.vital_kernel.proofs.Turns.{map-turn, rest-seen}
use Rattle.vital_kernel.proofs.signals.signals_of.Goals as goal

pub loop-number-preserved : goal.loop-number-preserved
loop-number-preserved c =
    let d = c.args.design.now in
    let i = c.loop-number.number in
    let signal = c.index-all-number.result in
    map-turn (signal_of d c.args.watch) d.signals i (lent_signal signal) c.loop-number.signals.items c.push.new.self.items _
    (rest-seen lent_signal c.signals-all.result.now d.signals i signal c.signals-all.ensures (omega arith) c.index-all-number.is) c.loop-number.invariant
    (c.in_ok-push.ensures.items ∙ ap (λ (s : NetSignal). c.loop-number.signals.items ++ s ∷ []) c.in_ok-signal_of.ensures)
