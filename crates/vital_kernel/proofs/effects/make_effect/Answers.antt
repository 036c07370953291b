use Rattle.std.proofs.Common.{◌≡◌, ◌∙◌, ℕ, List, refl, sym, ap, subst, arith}
use Rattle.std.specs.Option.{option_map}
use Rattle.vital_kernel.specs.Activations.{KeepsValues, message_text, name_of}
use Rattle.vital_kernel.proofs.EffectLemmas.{fits_assign, fits_glitch, fits_violation, sent_assign, sent_message}
use Rattle.vital_kernel.proofs.Keeping.{keeps_assigned, keeps_none}
use Rattle.vital_kernel.proofs.Texts.{part_breaks, part_stops, printed_none}
use Rattle.vital_machine.specs.declared.effect.Effect.{Effect}
use Rattle.vital_machine.specs.declared.effect.Effect.TheVariants as effect
use Rattle.vital_kernel.specs.Networks.{lent_cell}
use Rattle.vital_report.specs.Lines.{bytes_of, glitch, violation}
use Rattle.vital_report.specs.Reporters.{Printed, Stopped}
use Rattle.vital_kernel.proofs.effects.make_effect.Goals as goal

pub overflow_add-cell : goal.overflow_add-cell
overflow_add-cell g c =
    let fits = fits_assign _ _ c.args.effect c.in-Assign.driver c.in-Assign.send c.in-Assign.is c.requires.numbers in
    omega (arith, fits, c.requires.drivers, c.requires.few)

pub assign-requires-clause-there : goal.assign-requires-clause-there
assign-requires-clause-there g c =
    let fits = fits_assign _ _ c.args.effect c.in-Assign.driver c.in-Assign.send c.in-Assign.is c.requires.numbers in
    omega (arith, fits, c.requires.drivers)

pub assign-requires-clause-room : goal.assign-requires-clause-room
assign-requires-clause-room g c = rw c.in-Assign.is at c.requires.ends

pub returns-in_err-assign-in-Assign-clause-keeps : goal.returns-in_err-assign-in-Assign-clause-keeps
returns-in_err-assign-in-Assign-clause-keeps g c =
    subst (KeepsValues (g.A.Agenda.content c.args.agenda.now)) (sym c.in_err-assign-in-Assign.ensures.err) (keeps_none (g.A.Agenda.content c.args.agenda.now))

pub returns-in_err-assign-in-Assign-clause-prints : goal.returns-in_err-assign-in-Assign-clause-prints
returns-in_err-assign-in-Assign-clause-prints g c =
    let text = message_text (g.A.Agenda.content c.args.agenda.now).now c.args.delta (lent_cell c.args.cell.now) c.args.effect in
    part_breaks c.from_residual.result text c.args.printer.now c.args.printer.now c.from_residual.ensures.1 (0, printed_none c.args.printer.now c.requires.goes_on)

pub print_glitch-requires : goal.print_glitch-requires
print_glitch-requires g c = fits_glitch _ _ c.args.effect c.in-Glitch.port c.in-Glitch.is c.requires.numbers

pub returns-in_err-print_glitch-in-Glitch-clause-keeps : goal.returns-in_err-print_glitch-in-Glitch-clause-keeps
returns-in_err-print_glitch-in-Glitch-clause-keeps g c = keeps_none (g.A.Agenda.content c.args.agenda.now)

pub returns-in_err-print_glitch-in-Glitch-clause-prints : goal.returns-in_err-print_glitch-in-Glitch-clause-prints
returns-in_err-print_glitch-in-Glitch-clause-prints g c =
    let now = (g.A.Agenda.content c.args.agenda.now).now in
    let cell = lent_cell c.args.cell.now in
    let text : bytes_of (glitch c.now-now.result c.args.delta cell.path (name_of cell.tree c.in-Glitch.port)) ≡ message_text now c.args.delta cell c.args.effect =
    ap (λ (t : ℕ). bytes_of (glitch t c.args.delta cell.path (name_of cell.tree c.in-Glitch.port))) c.now-now.ensures.now ∙ ap (message_text now c.args.delta cell) (sym c.in-Glitch.is) in
    part_stops c.from_residual-in_err-print_glitch-in-Glitch.result (message_text now c.args.delta cell c.args.effect) c.args.printer.now c.print_glitch.new.printer c.from_residual-in_err-print_glitch-in-Glitch.ensures.1
    (subst (λ (x : List ℕ). Stopped x c.args.printer.now c.print_glitch.new.printer) text c.in_err-print_glitch-in-Glitch.ensures)

pub print_violation-requires-clause-test : goal.print_violation-requires-clause-test
print_violation-requires-clause-test g c = (fits_violation _ _ c.args.effect c.in-Violation.test c.in-Violation.reference c.in-Violation.violated c.in-Violation.is c.requires.numbers).0

pub print_violation-requires-clause-reference : goal.print_violation-requires-clause-reference
print_violation-requires-clause-reference g c = (fits_violation _ _ c.args.effect c.in-Violation.test c.in-Violation.reference c.in-Violation.violated c.in-Violation.is c.requires.numbers).1

pub returns-in_err-print_violation-in-Violation-clause-keeps : goal.returns-in_err-print_violation-in-Violation-clause-keeps
returns-in_err-print_violation-in-Violation-clause-keeps g c = keeps_none (g.A.Agenda.content c.args.agenda.now)

pub returns-in_err-print_violation-in-Violation-clause-prints : goal.returns-in_err-print_violation-in-Violation-clause-prints
returns-in_err-print_violation-in-Violation-clause-prints g c =
    let now = (g.A.Agenda.content c.args.agenda.now).now in
    let cell = lent_cell c.args.cell.now in
    let name = name_of cell.tree in
    let text : bytes_of (violation c.now-now.result c.args.delta cell.path (name c.in-Violation.test) (option_map name c.in-Violation.reference) c.in-Violation.violated) ≡ message_text now c.args.delta cell c.args.effect =
    ap (λ (t : ℕ). bytes_of (violation t c.args.delta cell.path (name c.in-Violation.test) (option_map name c.in-Violation.reference) c.in-Violation.violated)) c.now-now.ensures.now
    ∙ ap (message_text now c.args.delta cell) (sym c.in-Violation.is) in
    part_stops c.from_residual-in_err-print_violation-in-Violation.result (message_text now c.args.delta cell c.args.effect) c.args.printer.now c.print_violation.new.printer c.from_residual-in_err-print_violation-in-Violation.ensures.1
    (subst (λ (x : List ℕ). Stopped x c.args.printer.now c.print_violation.new.printer) text c.in_err-print_violation-in-Violation.ensures)

pub returns-in_ok-assign-in-Assign-clause-sent : goal.returns-in_ok-assign-in-Assign-clause-sent
returns-in_ok-assign-in-Assign-clause-sent g c =
    sent_assign (g.A.Agenda.content c.args.agenda.now) (g.A.Agenda.content c.assign.new.self) (lent_cell c.args.cell.now).first_driver c.args.effect c.in-Assign.driver c.in-Assign.send c.in-Assign.is c.in_ok-assign-in-Assign.ensures.ok

pub returns-in_ok-assign-in-Assign-clause-keeps : goal.returns-in_ok-assign-in-Assign-clause-keeps
returns-in_ok-assign-in-Assign-clause-keeps g c =
    let before = g.A.Agenda.content c.args.agenda.now in
    let s = c.in-Assign.send in
    subst (KeepsValues before) (sym c.in_ok-assign-in-Assign.ensures.ok) (keeps_assigned c.assignments_keep_values.ensures _ s.kind s.value s.delay before)

pub returns-in_ok-assign-in-Assign-clause-prints : goal.returns-in_ok-assign-in-Assign-clause-prints
returns-in_ok-assign-in-Assign-clause-prints g c =
    let p = c.args.printer.now in
    subst (λ (e : Effect). Printed (message_text (g.A.Agenda.content c.args.agenda.now).now c.args.delta (lent_cell c.args.cell.now) e) p p) (sym c.in-Assign.is) (printed_none p c.requires.goes_on)

pub returns-in_ok-print_glitch-in-Glitch-clause-sent : goal.returns-in_ok-print_glitch-in-Glitch-clause-sent
returns-in_ok-print_glitch-in-Glitch-clause-sent g c =
    sent_message (g.A.Agenda.content c.args.agenda.now) (lent_cell c.args.cell.now).first_driver c.args.effect (effect.Glitch c.in-Glitch.port) c.in-Glitch.is (λ ds. refl)

pub returns-in_ok-print_glitch-in-Glitch-clause-keeps : goal.returns-in_ok-print_glitch-in-Glitch-clause-keeps
returns-in_ok-print_glitch-in-Glitch-clause-keeps g c = keeps_none (g.A.Agenda.content c.args.agenda.now)

pub returns-in_ok-print_glitch-in-Glitch-clause-prints : goal.returns-in_ok-print_glitch-in-Glitch-clause-prints
returns-in_ok-print_glitch-in-Glitch-clause-prints g c =
    let now = (g.A.Agenda.content c.args.agenda.now).now in
    let cell = lent_cell c.args.cell.now in
    let text : bytes_of (glitch c.now-now.result c.args.delta cell.path (name_of cell.tree c.in-Glitch.port)) ≡ message_text now c.args.delta cell c.args.effect =
    ap (λ (t : ℕ). bytes_of (glitch t c.args.delta cell.path (name_of cell.tree c.in-Glitch.port))) c.now-now.ensures.now ∙ ap (message_text now c.args.delta cell) (sym c.in-Glitch.is) in
    subst (λ (x : List ℕ). Printed x c.args.printer.now c.print_glitch.new.printer) text c.in_ok-print_glitch-in-Glitch.ensures

pub returns-in_ok-print_violation-in-Violation-clause-sent : goal.returns-in_ok-print_violation-in-Violation-clause-sent
returns-in_ok-print_violation-in-Violation-clause-sent g c =
    sent_message (g.A.Agenda.content c.args.agenda.now) (lent_cell c.args.cell.now).first_driver c.args.effect (effect.Violation c.in-Violation.test c.in-Violation.reference c.in-Violation.violated) c.in-Violation.is (λ ds. refl)

pub returns-in_ok-print_violation-in-Violation-clause-keeps : goal.returns-in_ok-print_violation-in-Violation-clause-keeps
returns-in_ok-print_violation-in-Violation-clause-keeps g c = keeps_none (g.A.Agenda.content c.args.agenda.now)

pub returns-in_ok-print_violation-in-Violation-clause-prints : goal.returns-in_ok-print_violation-in-Violation-clause-prints
returns-in_ok-print_violation-in-Violation-clause-prints g c =
    let now = (g.A.Agenda.content c.args.agenda.now).now in
    let cell = lent_cell c.args.cell.now in
    let name = name_of cell.tree in
    let text : bytes_of (violation c.now-now.result c.args.delta cell.path (name c.in-Violation.test) (option_map name c.in-Violation.reference) c.in-Violation.violated) ≡ message_text now c.args.delta cell c.args.effect =
    ap (λ (t : ℕ). bytes_of (violation t c.args.delta cell.path (name c.in-Violation.test) (option_map name c.in-Violation.reference) c.in-Violation.violated)) c.now-now.ensures.now
    ∙ ap (message_text now c.args.delta cell) (sym c.in-Violation.is) in
    subst (λ (x : List ℕ). Printed x c.args.printer.now c.print_violation.new.printer) text c.in_ok-print_violation-in-Violation.ensures
