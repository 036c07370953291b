use Rattle.std.proofs.Common.{◌≡◌, ℕ, ◌+◌, ◌<◌, ◌≤◌, List, Some, length, map, drop, subst, refl, arith}
use Rattle.std.specs.List.{flat_map, zip}
use Rattle.std.specs.Prelude.{slice_get}
use Rattle.std.proofs.lemmas.Option.{slice_get_read}
use Rattle.vital_kernel.specs.Activations.{init_text}
use Rattle.vital_kernel.proofs.Steps.{text_at, text_none, zip_at, zip_none}
use Rattle.vital_kernel.proofs.Texts.{Left, left_all, left_less, left_none, left_stops, prints_failed}
use Rattle.vital_signals.specs.declared.signal.Signal.{Signal}
use Rattle.vital_kernel.proofs.printing.print_inits.Goals as goal

pub loop-number-init : goal.loop-number-init
loop-number-init g c =
    left_all c.args.printer.now (flat_map init_text (zip c.args.watched.now (map (λ (s : Signal). s.value) c.args.signals.now.signals))) c.requires.goes_on

pub print_init-requires : goal.print_init-requires
print_init-requires g c = c.loop-number.invariant.printed.goes_on

pub returns-in_err-print_init : goal.returns-in_err-print_init
returns-in_err-print_init g c =
    let watched = c.args.watched.now in
    let given = map (λ (s : Signal). s.value) c.args.signals.now.signals in
    let items = zip watched given in
    let number = c.loop-number.number in
    let p = c.index-watched-number.result in
    let v = c.value-value.result in
    let start = c.args.printer.now in
    let within : number < length watched = omega (arith, c.requires.one_each, c.loop-number-test.true, c.len-number-end.ensures) in
    let here : slice_get items number ≡ Some (p, v) = zip_at watched given number p v (slice_get_read watched (length watched) number p refl within c.index-watched-number.is) c.value-value.ensures in
    let left = subst (λ (text : List ℕ). Left start (flat_map init_text items) text c.loop-number.printer) (text_at init_text items number (p, v) here) c.loop-number.invariant in
    prints_failed _ c.from_residual.result (flat_map init_text items) start c.print_init.new.printer c.from_residual.ensures.1
    (left_stops start (flat_map init_text items) (init_text (p, v)) (flat_map init_text (drop (number + 1) items)) c.loop-number.printer c.print_init.new.printer left c.in_err-print_init.ensures)

pub loop-number-preserved : goal.loop-number-preserved
loop-number-preserved g c =
    let watched = c.args.watched.now in
    let given = map (λ (s : Signal). s.value) c.args.signals.now.signals in
    let items = zip watched given in
    let number = c.loop-number.number in
    let p = c.index-watched-number.result in
    let v = c.value-value.result in
    let start = c.args.printer.now in
    let within : number < length watched = omega (arith, c.requires.one_each, c.loop-number-test.true, c.len-number-end.ensures) in
    let here : slice_get items number ≡ Some (p, v) = zip_at watched given number p v (slice_get_read watched (length watched) number p refl within c.index-watched-number.is) c.value-value.ensures in
    let left = subst (λ (text : List ℕ). Left start (flat_map init_text items) text c.loop-number.printer) (text_at init_text items number (p, v) here) c.loop-number.invariant in
    left_less start (flat_map init_text items) (init_text (p, v)) (flat_map init_text (drop (number + 1) items)) c.loop-number.printer c.print_init.new.printer left c.in_ok-print_init.ensures

pub returns : goal.returns
returns g c =
    let watched = c.args.watched.now in
    let given = map (λ (s : Signal). s.value) c.args.signals.now.signals in
    let items = zip watched given in
    let number = c.loop-number.number in
    let start = c.args.printer.now in
    let past : length watched ≤ number = omega (arith, c.requires.one_each, c.loop-number-test.false, c.len-number-end.ensures) in
    left_none start (flat_map init_text items) c.loop-number.printer
    (subst (λ (text : List ℕ). Left start (flat_map init_text items) text c.loop-number.printer) (text_none init_text items number (zip_none watched given number past)) c.loop-number.invariant)
