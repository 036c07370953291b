use Rattle.std.proofs.Common.{◌≡◌, ◌+◌, ◌*◌, ◌++◌}
use Rattle.vital_self.specs.Lines.{texts_below}
use Rattle.vital_self.specs.Stimuli.{stimulus, stimuli_start}
use Rattle.vital_self.proofs.stimuli.stimuli.Given as goal

abbrev pub invariant-loop-k : goal.invariant-loop-k
invariant-loop-k l = record {
  text : l.text.items ≡ stimuli_start ++ texts_below (stimulus l.initial.draws.seed l.cells) l.k;
  seed : l.draws.seed ≡ l.initial.draws.seed;
  made : l.draws.made ≡ 2 * l.cells + 2 * l.k;
}
