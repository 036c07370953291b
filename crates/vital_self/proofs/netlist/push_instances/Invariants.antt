use Rattle.std.proofs.Common.{◌≡◌, ◌*◌, ◌++◌}
use Rattle.vital_self.specs.Lines.{texts_below}
use Rattle.vital_self.specs.Netlist.{instance}
use Rattle.vital_self.proofs.netlist.push_instances.Given as goal

abbrev pub invariant-loop-k : goal.invariant-loop-k
invariant-loop-k l = record {
  text : l.text.items ≡ l.initial.text.items ++ texts_below (instance l.initial.draws.seed l.cells) l.k;
  seed : l.draws.seed ≡ l.initial.draws.seed;
  made : l.draws.made ≡ 2 * l.k;
}
