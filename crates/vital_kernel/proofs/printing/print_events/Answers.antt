use Rattle.std.proofs.Common.{◌≡◌, ◌∙◌, ℕ, ◌+◌, ◌≤◌, ◌++◌, List, length, drop, get_or, ap, subst, refl, arith}
use Rattle.std.specs.List.{flat_map}
use Rattle.std.proofs.lemmas.Option.{slice_get_read}
use Rattle.vital_kernel.specs.Activations.{event_text, event_text_at}
use Rattle.vital_kernel.proofs.EventLemmas.{event_here}
use Rattle.vital_kernel.proofs.Steps.{Item, item_of, text_at, text_none}
use Rattle.vital_kernel.proofs.Texts.{Left, left_all, left_less, left_none, left_stops, prints_failed}
use Rattle.vital_kernel.proofs.printing.print_events.Goals as goal

pub loop-number-init : goal.loop-number-init
loop-number-init g c =
    left_all c.args.printer.now (flat_map (event_text_at c.args.time c.args.delta c.args.watched.now c.args.signals.now.signals) c.args.signals.now.events) c.requires.goes_on

pub value-value-requires : goal.value-value-requires
value-value-requires g c =
    let item : Item c.args.signals.now.events c.loop-number.number-index (length c.args.watched.now) (get_or c.events-events.result.now c.loop-number.number-index 0) = item_of c.events-events.result.now c.args.signals.now.events c.loop-number.number-index (length c.args.watched.now) c.events-events.ensures (omega arith) c.requires.there in
    omega (arith, item.below, c.requires.one_each)

pub bounds-watched-number : goal.bounds-watched-number
bounds-watched-number g c =
    let item : Item c.args.signals.now.events c.loop-number.number-index (length c.args.watched.now) (get_or c.events-events.result.now c.loop-number.number-index 0) = item_of c.events-events.result.now c.args.signals.now.events c.loop-number.number-index (length c.args.watched.now) c.events-events.ensures (omega arith) c.requires.there in
    omega (arith, item.below)

pub print_event-requires : goal.print_event-requires
print_event-requires g c = c.loop-number.invariant.printed.goes_on

pub returns-in_err-print_event : goal.returns-in_err-print_event
returns-in_err-print_event g c =
    let watched = c.args.watched.now in
    let signals = c.args.signals.now.signals in
    let events = c.args.signals.now.events in
    let text = event_text_at c.args.time c.args.delta watched signals in
    let i = c.loop-number.number-index in
    let k = get_or c.events-events.result.now i 0 in
    let p = c.index-watched-number.result in
    let v = c.value-value.result in
    let start = c.args.printer.now in
    let item : Item events i (length watched) k = item_of c.events-events.result.now events i (length watched) c.events-events.ensures (omega arith) c.requires.there in
    let piece : text k ≡ event_text c.args.time c.args.delta v p = event_here c.args.time c.args.delta watched signals k p v (slice_get_read watched (length watched) k p refl item.below c.index-watched-number.is) c.value-value.ensures in
    let rest = flat_map text (drop (i + 1) events) in
    let left = subst (λ (all : List ℕ). Left start (flat_map text events) all c.loop-number.printer) (text_at text events i k item.there ∙ ap (λ (one : List ℕ). one ++ rest) piece) c.loop-number.invariant in
    prints_failed _ c.from_residual.result (flat_map text events) start c.print_event.new.printer c.from_residual.ensures.1
    (left_stops start (flat_map text events) (event_text c.args.time c.args.delta v p) rest c.loop-number.printer c.print_event.new.printer left c.in_err-print_event.ensures)

pub loop-number-preserved : goal.loop-number-preserved
loop-number-preserved g c =
    let watched = c.args.watched.now in
    let signals = c.args.signals.now.signals in
    let events = c.args.signals.now.events in
    let text = event_text_at c.args.time c.args.delta watched signals in
    let i = c.loop-number.number-index in
    let k = get_or c.events-events.result.now i 0 in
    let p = c.index-watched-number.result in
    let v = c.value-value.result in
    let start = c.args.printer.now in
    let item : Item events i (length watched) k = item_of c.events-events.result.now events i (length watched) c.events-events.ensures (omega arith) c.requires.there in
    let piece : text k ≡ event_text c.args.time c.args.delta v p = event_here c.args.time c.args.delta watched signals k p v (slice_get_read watched (length watched) k p refl item.below c.index-watched-number.is) c.value-value.ensures in
    let rest = flat_map text (drop (i + 1) events) in
    let left = subst (λ (all : List ℕ). Left start (flat_map text events) all c.loop-number.printer) (text_at text events i k item.there ∙ ap (λ (one : List ℕ). one ++ rest) piece) c.loop-number.invariant in
    left_less start (flat_map text events) (event_text c.args.time c.args.delta v p) rest c.loop-number.printer c.print_event.new.printer left c.in_ok-print_event.ensures

pub returns : goal.returns
returns g c =
    let events = c.args.signals.now.events in
    let text = event_text_at c.args.time c.args.delta c.args.watched.now c.args.signals.now.signals in
    let start = c.args.printer.now in
    let past : length events ≤ c.loop-number.number-index = omega (arith, ap length c.events-events.ensures, c.loop-number-test.false) in
    left_none start (flat_map text events) c.loop-number.printer
    (subst (λ (all : List ℕ). Left start (flat_map text events) all c.loop-number.printer) (text_none text events c.loop-number.number-index past) c.loop-number.invariant)
