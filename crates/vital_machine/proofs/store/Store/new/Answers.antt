use Rattle.std.proofs.Common.{ℕ, map, subst, sym, ap, ◌∙◌}
use Rattle.std.specs.Prelude.{All}
use Rattle.vital_machine.specs.declared.program.Process.{Process}
use Rattle.vital_machine.specs.Fits.{AreProcesses, HasRoom}
use Rattle.vital_machine.proofs.StoreLemmas.{first-fits}
use Rattle.vital_machine.proofs.store.Store.new.Goals as goal

pub returns-clause-fits : goal.returns-clause-fits
returns-clause-fits c now =
    first-fits c.args.program.now now _
    (subst AreProcesses c.processes.ensures.processes c.processes.ensures.are)
    (subst (λ (n : ℕ). All (λ (p : Process). HasRoom n p.steps) c.args.program.now.processes) (sym c.in_ok-room_for_paths.ensures) c.most_paths.ensures)
    (c.in_ok-first_slots.ensures ∙ ap (map (λ (p : Process). p.first)) c.processes.ensures.processes)
