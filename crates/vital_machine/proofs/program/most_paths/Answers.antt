use Rattle.std.proofs.Common.{subst, sym, take, take_all, arith}
use Rattle.std.proofs.lemmas.List.Elements.{All-more, All-same, All-weaker}
use Rattle.vital_machine.specs.declared.program.Process.{Process}
use Rattle.vital_machine.specs.Fits.{HasRoom}
use Rattle.vital_machine.proofs.StoreLemmas.{more-room}
use Rattle.vital_machine.proofs.program.most_paths.Goals as goal

pub loop-process-preserved : goal.loop-process-preserved
loop-process-preserved c =
    let Fits : Process → Type 0 = λ p. HasRoom c.max-most.result p.steps in
    All-more Fits c.args.processes.now c.loop-process.process-index c.process-item.result (omega arith)
    (All-weaker (λ (p : Process). HasRoom c.loop-process.most p.steps) Fits (λ p has. more-room c.loop-process.most c.max-most.result (omega arith) p.steps has) (take c.loop-process.process-index c.args.processes.now) c.loop-process.invariant)
    (subst Fits c.process-item.is (more-room c.paths_of.result c.max-most.result (omega arith) c.process-item.result.steps c.paths_of.ensures))

pub returns : goal.returns
returns c =
    let Fits : Process → Type 0 = λ p. HasRoom c.loop-process.most p.steps in
    All-same Fits c.args.processes.now (take c.loop-process.process-index c.args.processes.now) (sym (take_all c.loop-process.process-index c.args.processes.now (omega arith))) c.loop-process.invariant
