use Rattle.std.proofs.lemmas.List.Elements.{All-from_recursion}
use Rattle.vital_netlist.specs.Cells.{cells}
use Rattle.vital_typed_cells.specs.Sound.{IsSound}
use Rattle.vital_netlist.proofs.DesignCells.{cells-sound}
use Rattle.vital_netlist.proofs.FewSignals.{few-instances, few-signals}
use Rattle.vital_netlist.proofs.SignalParts.{drivers-there, instances-sound, signals-sound}
use Rattle.vital_netlist.proofs.TopPorts.{top-ports}
use Rattle.vital_netlist.proofs.UnitFacts.{Known}
use Rattle.vital_netlist.proofs.UnitNames.{Read}
use Rattle.vital_netlist.proofs.SignalWires.{drivers-of-cells, wired, wired-once}
use Rattle.vital_netlist.proofs.laws.designs_are_sound.Goals as goal

pub returns : goal.returns
returns c files found texts are none few =
    let known : Known files found = record {
      parents = c.instances_are_good.ensures.parents files found are;
      children = c.instances_are_good.ensures.children files found are;
      units = c.instances_are_good.ensures.units files found are;
      cells = c.instances_are_good.ensures.cells files found are;
      contents = c.instances_are_good.ensures.contents files found are;
      scalar = c.ports_of_cells_are_bits.ensures;
      inside = c.associations_are_apart.ensures.inside;
    } in
    let read : Read files = record {
      texts = texts;
      as_read = c.cells_are_as_read.ensures;
      sound = c.typed_is_sound.ensures;
    } in
    let top = c.instances_are_good.ensures.top files found are in
    let ports = top-ports files found known read top in
    record {
      cells_sound = All-from_recursion IsSound (cells files found) (cells-sound files found known read);
      instances_sound = instances-sound files found known read top;
      signals_sound = signals-sound files found known read top;
      drivers_there = drivers-there files found known read top;
      wired_once = wired-once files found known read top;
      wired = wired files found known read top;
      drivers_of_cells = drivers-of-cells files found known read top;
      ports_first = ports.first;
      ports_at_top = ports.at_top;
      ports_differ = ports.differ;
      ports_levels = ports.levels;
      few_instances = few-instances files found (c.instances_are_good.ensures.few files found are);
      few_signals = few-signals files found known read top none;
      few_drivers = few;
    }
