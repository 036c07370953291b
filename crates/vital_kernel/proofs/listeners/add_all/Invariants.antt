use Rattle.std.proofs.Common.{◌≡◌, ◌++◌, take}
use Rattle.vital_kernel.proofs.listeners.add_all.Given as goal

abbrev pub invariant-loop-process : goal.invariant-loop-process
invariant-loop-process l = record {
  listed : l.triggered.listed ≡ l.initial.triggered.listed ++ take l.process-index l.processes;
  room : l.triggered.room ≡ l.initial.triggered.room;
}
