use Rattle.std.proofs.Common.{◌≡◌, List, ℕ, ◌+◌, Err, length, ap, map, subst, ◌∙◌, arith}
use Rattle.vital_netlist.specs.Designs.{Design, drivers_of, lent_signal}
use Rattle.vital_netlist.specs.Trees.{name_of, tree_signal, tree_signals}
use Rattle.vital_report.specs.Lines.{bytes_of, signal, text_of}
use Rattle.vital_report.specs.Reporters.{Printed, PrintsPart}
use Rattle.vital_answers.specs.Trees.{signal_line}
use Rattle.vital_answers.proofs.Parts.{Part, part_ends, part_goes_on, passes_no_memory, passes_failure}
use Rattle.vital_answers.proofs.Texts.{printed_none}
use Rattle.vital_answers.proofs.TreeLines.{as_many, count_at, no_signal, one_signal, signals_left}
use Rattle.vital_answers.proofs.tree.print_signals.Goals as goal

pub index-requires : goal.index-requires
index-requires g c =
    let d = c.args.design.now in
    omega (arith, as_many lent_signal d c.signals-all.result.now c.signals-all.ensures, ap length c.in_ok-counts.ensures, c.loop-number-test.true)

pub returns-in_err-counts : goal.returns-in_err-counts
returns-in_err-counts g c =
    let old = c.args.printer.now in
    let whole = text_of (map signal_line (tree_signals c.args.design.now)) in
    passes_no_memory c.from_residual.result whole old old c.from_residual.ensures.1 (0, printed_none old c.requires.goes_on)

pub returns-in_err-print_signal : goal.returns-in_err-print_signal
returns-in_err-print_signal g c =
    let d = c.args.design.now in
    let start = c.args.printer.now in
    let i = c.loop-number.number in
    let here = c.index-all-number.result in
    let seen = lent_signal here in
    let whole = text_of (map signal_line (tree_signals d)) in
    let piece = bytes_of (signal_line (tree_signal d (i, seen))) in
    let one = one_signal lent_signal d c.signals-all.result.now i here c.signals-all.ensures (omega (arith, c.loop-number-test.true)) c.index-all-number.is in
    let part = subst (λ (left : List ℕ). Part start whole left c.loop-number.printer) one c.loop-number.invariant.1 in
    let count : c.index.result.now ≡ drivers_of d i = count_at lent_signal d c.signals-all.result.now i c.index.result.now c.signals-all.ensures (omega (arith, c.loop-number-test.true)) (rw c.in_ok-counts.ensures at c.index.ensures) in
    let lines = λ (e : Design) (n : ℕ). PrintsPart {T = Unit {0}} (Err c.in_err-print_signal.field-0.0) (bytes_of (signal (name_of e seen) seen.is_resolved n)) c.loop-number.printer c.print_signal.new.printer in
    let written = subst (λ (n : ℕ). lines d n) count (subst (λ (e : Design). lines e c.index.result.now) c.loop-number.invariant.0 c.in_err-print_signal.ensures.prints) in
    passes_failure (Unit {0}) c.from_residual-in_err-print_signal.result _ start whole piece (signals_left d (i + 1)) c.loop-number.printer c.print_signal.new.printer c.from_residual-in_err-print_signal.ensures.1 part written

pub loop-number-preserved : goal.loop-number-preserved
loop-number-preserved g c =
    let d = c.args.design.now in
    let start = c.args.printer.now in
    let i = c.loop-number.number in
    let here = c.index-all-number.result in
    let seen = lent_signal here in
    let whole = text_of (map signal_line (tree_signals d)) in
    let piece = bytes_of (signal_line (tree_signal d (i, seen))) in
    let one = one_signal lent_signal d c.signals-all.result.now i here c.signals-all.ensures (omega (arith, c.loop-number-test.true)) c.index-all-number.is in
    let part = subst (λ (left : List ℕ). Part start whole left c.loop-number.printer) one c.loop-number.invariant.1 in
    let count : c.index.result.now ≡ drivers_of d i = count_at lent_signal d c.signals-all.result.now i c.index.result.now c.signals-all.ensures (omega (arith, c.loop-number-test.true)) (rw c.in_ok-counts.ensures at c.index.ensures) in
    let lines = λ (e : Design) (n : ℕ). Printed (bytes_of (signal (name_of e seen) seen.is_resolved n)) c.loop-number.printer c.print_signal.new.printer in
    let written = subst (λ (n : ℕ). lines d n) count (subst (λ (e : Design). lines e c.index.result.now) c.loop-number.invariant.0 c.in_ok-print_signal.ensures.prints) in
    (c.in_ok-print_signal.ensures.same ∙ c.loop-number.invariant.0, part_goes_on start whole piece (signals_left d (i + 1)) c.loop-number.printer c.print_signal.new.printer part written)

pub returns : goal.returns
returns g c =
    let d = c.args.design.now in
    let start = c.args.printer.now in
    let whole = text_of (map signal_line (tree_signals d)) in
    let none = no_signal lent_signal d c.signals-all.result.now c.loop-number.number c.signals-all.ensures (omega (arith, c.loop-number-test.false)) in
    part_ends start whole c.loop-number.printer (subst (λ (left : List ℕ). Part start whole left c.loop-number.printer) none c.loop-number.invariant.1)
