use Rattle.std.proofs.Common.{◌≡◌, ◌∙◌, ℕ, ◌<◌, length, sym, ap, subst, arith}
use Rattle.std.specs.Prelude.{All, slice_get}
use Rattle.vital_kernel.proofs.Activating.{activates_one, can_run_on, cell_is, drivers_fit, instance_there, ran}
use Rattle.vital_kernel.proofs.Steps.{if_some_at}
use Rattle.vital_machine.specs.Fits.{EffectIsOfCell, EndsInTime}
use Rattle.vital_kernel.specs.DesignNetworks.{driver_count}
use Rattle.vital_kernel.specs.Networks.{NetCell, NetProcess, Network, lent_cell, processes}
use Rattle.vital_typed_cells.specs.Sound.{bit_count}
use Rattle.vital_kernel.proofs.activation.run_process.Goals as goal

pub run-requires-clause-there : goal.run-requires-clause-there
run-requires-clause-there g c = subst (λ (m : Network). c.args.process < length (processes m)) (sym c.requires.can_run.network) c.requires.there

pub run-requires-clause-later : goal.run-requires-clause-later
run-requires-clause-later g c = omega (arith, c.requires.can_run.later, c.now.ensures.now)

pub run-requires-clause-now : goal.run-requires-clause-now
run-requires-clause-now g c = omega (arith, c.requires.can_run.now, c.now.ensures.now)

pub run-requires-clause-signals : goal.run-requires-clause-signals
run-requires-clause-signals g c = c.requires.can_run.signals ∙ ap (λ (m : Network). length m.signals) (sym c.requires.can_run.network)

pub instance-instance-requires : goal.instance-instance-requires
instance-instance-requires g c =
    let content = g.A.Agenda.content c.args.agenda.now in
    let n = c.args.network.now in
    let r = ran n c.args.process c.now.result content c.args.signals.now c.args.processes.now c.run.new.self c.requires.can_run c.now.ensures.now c.requires.there c.run.ensures.after in
    subst (λ (m : Network). c.args.process < length (processes m)) (sym r.network) c.requires.there

pub bounds-cells-instance : goal.bounds-cells-instance
bounds-cells-instance g c =
    let content = g.A.Agenda.content c.args.agenda.now in
    let n = c.args.network.now in
    let r = ran n c.args.process c.now.result content c.args.signals.now c.args.processes.now c.run.new.self c.requires.can_run c.now.ensures.now c.requires.there c.run.ensures.after in
    let same : r.process.instance ≡ c.instance-instance.result =
    if_some_at (λ (p : NetProcess). p.instance ≡ c.instance-instance.result) (slice_get (processes c.run.new.self.network) c.args.process) r.process c.instance-instance.ensures (ap (λ (m : Network). slice_get (processes m) c.args.process) r.network ∙ r.there) in
    instance_there n c.cells-cells.result.now c.instance-instance.result r.process c.cells-cells.ensures.cells r.cell same

pub make_effects-requires-clause-ends : goal.make_effects-requires-clause-ends
make_effects-requires-clause-ends g c = subst (λ (t : ℕ). All (EndsInTime t) c.run.new.self.effects) c.now.ensures.now c.run.ensures.ends

pub make_effects-requires-clause-numbers : goal.make_effects-requires-clause-numbers
make_effects-requires-clause-numbers g c =
    let content = g.A.Agenda.content c.args.agenda.now in
    let n = c.args.network.now in
    let r = ran n c.args.process c.now.result content c.args.signals.now c.args.processes.now c.run.new.self c.requires.can_run c.now.ensures.now c.requires.there c.run.ensures.after in
    let same : r.process.instance ≡ c.instance-instance.result =
    if_some_at (λ (p : NetProcess). p.instance ≡ c.instance-instance.result) (slice_get (processes c.run.new.self.network) c.args.process) r.process c.instance-instance.ensures (ap (λ (m : Network). slice_get (processes m) c.args.process) r.network ∙ r.there) in
    let cell : lent_cell c.index-cells-instance.result ≡ r.process.cell = cell_is n c.cells-cells.result.now c.instance-instance.result r.process c.index-cells-instance.result c.cells-cells.ensures.cells r.cell same c.index-cells-instance.is in
    let fit : All (EffectIsOfCell (driver_count r.process.cell.tree) (bit_count r.process.cell.tree)) c.run.new.self.effects =
    if_some_at (λ (p : NetProcess). All (EffectIsOfCell (driver_count p.cell.tree) (bit_count p.cell.tree)) c.run.new.self.effects) (slice_get (processes c.args.processes.now.network) c.args.process) r.process c.run.ensures.numbers r.lent in
    subst (λ (x : NetCell). All (EffectIsOfCell (driver_count x.tree) (bit_count x.tree)) c.run.new.self.effects) (sym cell) fit

pub make_effects-requires-clause-drivers : goal.make_effects-requires-clause-drivers
make_effects-requires-clause-drivers g c =
    let content = g.A.Agenda.content c.args.agenda.now in
    let n = c.args.network.now in
    let r = ran n c.args.process c.now.result content c.args.signals.now c.args.processes.now c.run.new.self c.requires.can_run c.now.ensures.now c.requires.there c.run.ensures.after in
    let same : r.process.instance ≡ c.instance-instance.result =
    if_some_at (λ (p : NetProcess). p.instance ≡ c.instance-instance.result) (slice_get (processes c.run.new.self.network) c.args.process) r.process c.instance-instance.ensures (ap (λ (m : Network). slice_get (processes m) c.args.process) r.network ∙ r.there) in
    let cell : lent_cell c.index-cells-instance.result ≡ r.process.cell = cell_is n c.cells-cells.result.now c.instance-instance.result r.process c.index-cells-instance.result c.cells-cells.ensures.cells r.cell same c.index-cells-instance.is in
    drivers_fit n (length content.drivers) r.process (lent_cell c.index-cells-instance.result) c.cells-cells.ensures.sound r.cell cell c.requires.can_run.drivers

pub make_effects-requires-clause-few : goal.make_effects-requires-clause-few
make_effects-requires-clause-few g c = omega (arith, c.requires.can_run.drivers, c.cells-cells.ensures.sound.few_drivers)

pub returns-clause-activates : goal.returns-clause-activates
returns-clause-activates g c =
    λ q there.
    let content = g.A.Agenda.content c.args.agenda.now in
    let n = c.args.network.now in
    let r = ran n c.args.process c.now.result content c.args.signals.now c.args.processes.now c.run.new.self c.requires.can_run c.now.ensures.now c.requires.there c.run.ensures.after in
    let same : r.process.instance ≡ c.instance-instance.result =
    if_some_at (λ (p : NetProcess). p.instance ≡ c.instance-instance.result) (slice_get (processes c.run.new.self.network) c.args.process) r.process c.instance-instance.ensures (ap (λ (m : Network). slice_get (processes m) c.args.process) r.network ∙ r.there) in
    let cell : lent_cell c.index-cells-instance.result ≡ r.process.cell = cell_is n c.cells-cells.result.now c.instance-instance.result r.process c.index-cells-instance.result c.cells-cells.ensures.cells r.cell same c.index-cells-instance.is in
    activates_one c.make_effects.result n c.args.process c.args.delta content (g.A.Agenda.content c.make_effects.new.agenda) c.args.signals.now c.args.processes.now c.run.new.self r (lent_cell c.index-cells-instance.result) q
    c.args.printer.now c.make_effects.new.printer cell there c.make_effects.ensures.sent c.make_effects.ensures.prints

pub returns-clause-keeps : goal.returns-clause-keeps
returns-clause-keeps g c = c.make_effects.ensures.keeps

pub returns-clause-can_run : goal.returns-clause-can_run
returns-clause-can_run g c =
    let content = g.A.Agenda.content c.args.agenda.now in
    let n = c.args.network.now in
    let r = ran n c.args.process c.now.result content c.args.signals.now c.args.processes.now c.run.new.self c.requires.can_run c.now.ensures.now c.requires.there c.run.ensures.after in
    can_run_on n c.args.process content (g.A.Agenda.content c.make_effects.new.agenda) c.args.signals.now c.args.processes.now c.run.new.self c.requires.can_run r c.make_effects.ensures.keeps
