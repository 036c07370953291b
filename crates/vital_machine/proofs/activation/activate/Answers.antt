use Rattle.std.proofs.Common.{get_or, length, subst, sym, ap, arith}
use Rattle.std.specs.Prelude.{All}
use Rattle.std.proofs.lemmas.List.Elements.{All-get_or}
use Rattle.vital_machine.specs.declared.program.Process.{Process}
use Rattle.vital_machine.specs.Fits.{EffectIsOfCell, FitsStore, StepsAreOfCell}
use Rattle.vital_machine.specs.Machine.{slots_of}
use Rattle.vital_machine.proofs.KindLemmas.{activation-kinds}
use Rattle.vital_machine.proofs.NumberLemmas.{activation-numbers}
use Rattle.vital_machine.proofs.StoreLemmas.{store-fits}
use Rattle.vital_machine.proofs.activation.activate.Goals as goal

pub returns-clause-store_fits : goal.returns-clause-store_fits
returns-clause-store_fits c later le =
    let store = c.args.store.now in
    let kinds = activation-kinds c.as_slice.result.now c.timing_checks_on-checks_on.result c.args.now (slots_of store c.args.process) (get_or c.processes.result.now c.args.process c.index-processes-number.result).steps in
    subst (FitsStore c.args.program.now later) (sym c.execute.ensures.slots)
    (store-fits c.args.program.now c.args.now later store c.args.process _ c.requires.store le c.execute.ensures.times kinds)

pub returns-clause-numbers : goal.returns-clause-numbers
returns-clause-numbers c drivers are =
    let bits = c.args.program.now.bits in
    let AreOfCell : Process → Type 0 = λ p. StepsAreOfCell drivers bits p.steps in
    let all : All AreOfCell c.processes.result.now = subst (All AreOfCell) (sym c.processes.ensures.processes) are in
    let steps = (get_or c.processes.result.now c.args.process c.index-processes-number.result).steps in
    subst (All (EffectIsOfCell drivers bits)) (sym c.execute.ensures.effects)
    (activation-numbers drivers bits c.as_slice.result.now c.timing_checks_on-checks_on.result c.args.now (slots_of c.args.store.now c.args.process) steps
    (All-get_or AreOfCell c.processes.result.now c.args.process c.index-processes-number.result (omega (arith, ap length c.processes.ensures.processes)) all))
