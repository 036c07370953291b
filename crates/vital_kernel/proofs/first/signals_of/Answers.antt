use Rattle.std.proofs.Common.{◌<◌, ◌^◌, List, sym, subst}
use Rattle.std.specs.Prelude.{All}
use Rattle.vital_kernel.proofs.StimulusLemmas.{all_back, all_front}
use Rattle.vital_netlist.specs.declared.design_lists.DesignDriver.{DesignDriver}
use Rattle.vital_kernel.proofs.first.signals_of.Goals as goal

pub put_signals_of-requires : goal.put_signals_of-requires
put_signals_of-requires c =
    let n = c.args.network.now in
    subst (λ (ds : List DesignDriver). All (λ d. d.signal < 2 ^ 31) ds) (sym c.stimulus_drivers.ensures)
    (all_front (λ (d : DesignDriver). d.signal < 2 ^ 31) n.stimulus_drivers n.cell_drivers c.requires)

pub put_signals_of-requires-2 : goal.put_signals_of-requires-2
put_signals_of-requires-2 c =
    let n = c.args.network.now in
    subst (λ (ds : List DesignDriver). All (λ d. d.signal < 2 ^ 31) ds) (sym c.cell_drivers.ensures)
    (all_back (λ (d : DesignDriver). d.signal < 2 ^ 31) n.stimulus_drivers n.cell_drivers c.requires)
