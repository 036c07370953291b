use Rattle.std.proofs.Common.{◌≡◌, ◌∙◌, ℕ, ◌+◌, ◌≤◌, List, length, drop, sym, ap, subst, refl, arith}
use Rattle.std.specs.List.{flat_map, fold}
use Rattle.vital_agenda.specs.Agendas.{Content}
use Rattle.vital_agenda.specs.Driver.{Driver}
use Rattle.vital_kernel.specs.Activations.{message_text}
use Rattle.vital_kernel.specs.Cycles.{sent}
use Rattle.vital_kernel.proofs.ProcessCells.{all_at}
use Rattle.vital_kernel.proofs.EffectLemmas.{content_is}
use Rattle.vital_kernel.proofs.Keeping.{keeps_none, keeps_then}
use Rattle.vital_kernel.proofs.Steps.{fold_at, fold_none, text_at, text_none}
use Rattle.vital_kernel.proofs.Texts.{Left, left_all, left_less, left_none, part_failed}
use Rattle.vital_machine.specs.Fits.{EffectIsOfCell, EndsInTime}
use Rattle.vital_kernel.specs.DesignNetworks.{driver_count}
use Rattle.vital_kernel.specs.Networks.{lent_cell}
use Rattle.vital_report.specs.Reporters.{Printed}
use Rattle.vital_typed_cells.specs.Sound.{bit_count}
use Rattle.vital_kernel.proofs.effects.make_effects.Goals as goal

pub loop-number-init : goal.loop-number-init
loop-number-init g c =
    let start = g.A.Agenda.content c.args.agenda.now in
    record {
      sent = refl;
      keeps = keeps_none start;
      left = left_all c.args.printer.now (flat_map (message_text start.now c.args.delta (lent_cell c.args.cell.now)) c.args.processes.now.effects) c.requires.goes_on;
    }

pub make_effect-requires-clause-ends : goal.make_effect-requires-clause-ends
make_effect-requires-clause-ends g c =
    let start = g.A.Agenda.content c.args.agenda.now in
    subst (λ (t : ℕ). EndsInTime t c.effect.result) (sym c.loop-number.invariant.keeps.now)
    (all_at (EndsInTime start.now) c.args.processes.now.effects c.loop-number.number c.effect.result c.requires.ends c.effect.ensures)

pub make_effect-requires-clause-numbers : goal.make_effect-requires-clause-numbers
make_effect-requires-clause-numbers g c =
    let cell = lent_cell c.args.cell.now in
    all_at (EffectIsOfCell (driver_count cell.tree) (bit_count cell.tree)) c.args.processes.now.effects c.loop-number.number c.effect.result c.requires.numbers c.effect.ensures

pub make_effect-requires-clause-drivers : goal.make_effect-requires-clause-drivers
make_effect-requires-clause-drivers g c = omega (arith, c.requires.drivers, c.loop-number.invariant.keeps.as_many)

pub make_effect-requires-clause-few : goal.make_effect-requires-clause-few
make_effect-requires-clause-few g c = omega (arith, c.requires.few, c.loop-number.invariant.keeps.as_many)

pub make_effect-requires-clause-goes_on : goal.make_effect-requires-clause-goes_on
make_effect-requires-clause-goes_on g c = c.loop-number.invariant.left.printed.goes_on

pub returns-in_err-make_effect-clause-keeps : goal.returns-in_err-make_effect-clause-keeps
returns-in_err-make_effect-clause-keeps g c =
    keeps_then (g.A.Agenda.content c.args.agenda.now) (g.A.Agenda.content c.loop-number.agenda) (g.A.Agenda.content c.make_effect.new.agenda) c.loop-number.invariant.keeps c.in_err-make_effect.ensures.keeps

pub returns-in_err-make_effect-clause-prints : goal.returns-in_err-make_effect-clause-prints
returns-in_err-make_effect-clause-prints g c =
    let now = (g.A.Agenda.content c.args.agenda.now).now in
    let effects = c.args.processes.now.effects in
    let text = message_text now c.args.delta (lent_cell c.args.cell.now) in
    let i = c.loop-number.number in
    let start = c.args.printer.now in
    let left = subst (λ (all : List ℕ). Left start (flat_map text effects) all c.loop-number.printer) (text_at text effects i c.effect.result c.effect.ensures) c.loop-number.invariant.left in
    part_failed (Unit {0}) c.from_residual.result _ start (flat_map text effects) (text c.effect.result) (flat_map text (drop (i + 1) effects)) c.loop-number.printer c.make_effect.new.printer c.from_residual.ensures.1 left
    (rw c.loop-number.invariant.keeps.now at c.in_err-make_effect.ensures.prints)

pub loop-number-preserved : goal.loop-number-preserved
loop-number-preserved g c =
    let begun = g.A.Agenda.content c.args.agenda.now in
    let old = g.A.Agenda.content c.loop-number.agenda in
    let new = g.A.Agenda.content c.make_effect.new.agenda in
    let now = begun.now in
    let cell = lent_cell c.args.cell.now in
    let effects = c.args.processes.now.effects in
    let text = message_text now c.args.delta cell in
    let i = c.loop-number.number in
    let start = c.args.printer.now in
    let f = sent now cell.first_driver in
    let left = subst (λ (all : List ℕ). Left start (flat_map text effects) all c.loop-number.printer) (text_at text effects i c.effect.result c.effect.ensures) c.loop-number.invariant.left in
    let drivers : new.drivers ≡ f old.drivers c.effect.result =
    ap (λ (x : Content). x.drivers) c.in_ok-make_effect.ensures.sent ∙ ap (λ (t : ℕ). sent t cell.first_driver old.drivers c.effect.result) c.loop-number.invariant.keeps.now in
    let written : Printed (text c.effect.result) c.loop-number.printer c.make_effect.new.printer =
    subst (λ (t : ℕ). Printed (message_text t c.args.delta cell c.effect.result) c.loop-number.printer c.make_effect.new.printer) c.loop-number.invariant.keeps.now c.in_ok-make_effect.ensures.prints in
    record {
      sent =
          ap (λ (ds : List Driver). fold f ds (drop (i + 1) effects)) drivers
          ∙ sym (fold_at f old.drivers effects i c.effect.result c.effect.ensures) ∙ c.loop-number.invariant.sent;
      keeps = keeps_then begun old new c.loop-number.invariant.keeps c.in_ok-make_effect.ensures.keeps;
      left = left_less start (flat_map text effects) (text c.effect.result) (flat_map text (drop (i + 1) effects)) c.loop-number.printer c.make_effect.new.printer left written;
    }

pub returns-clause-sent : goal.returns-clause-sent
returns-clause-sent g c =
    let begun = g.A.Agenda.content c.args.agenda.now in
    let old = g.A.Agenda.content c.loop-number.agenda in
    let effects = c.args.processes.now.effects in
    let f = sent begun.now (lent_cell c.args.cell.now).first_driver in
    let past : length effects ≤ c.loop-number.number = omega (arith, c.loop-number-test.false, c.effect_count-number-end.ensures) in
    content_is old begun.now (fold f begun.drivers effects) c.loop-number.invariant.keeps.now
    (sym (fold_none f old.drivers effects c.loop-number.number past) ∙ c.loop-number.invariant.sent)

pub returns-clause-keeps : goal.returns-clause-keeps
returns-clause-keeps g c = c.loop-number.invariant.keeps

pub returns-clause-prints : goal.returns-clause-prints
returns-clause-prints g c =
    let effects = c.args.processes.now.effects in
    let text = message_text (g.A.Agenda.content c.args.agenda.now).now c.args.delta (lent_cell c.args.cell.now) in
    let start = c.args.printer.now in
    let past : length effects ≤ c.loop-number.number = omega (arith, c.loop-number-test.false, c.effect_count-number-end.ensures) in
    left_none start (flat_map text effects) c.loop-number.printer
    (subst (λ (all : List ℕ). Left start (flat_map text effects) all c.loop-number.printer) (text_none text effects c.loop-number.number past) c.loop-number.invariant.left)
