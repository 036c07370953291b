use Rattle.std.proofs.Common.{◌≡◌, ℕ, ◌≤◌, ◌<◌, ◌++◌, Global, List, [], Vec, length, map, take, get_or, sym, ap, subst, ◌∙◌, arith}
use Rattle.std.specs.List.{flat_map, sum_by}
use Rattle.std.proofs.lemmas.List.{get_or_default, length-map}
use Rattle.vital_kernel.proofs.ListenerLemmas.{get-seen}
use Rattle.vital_kernel.proofs.TriggeredLemmas.{rising-below, room-for}
use Rattle.vital_kernel.proofs.listeners.gather.Goals as goal
use Rattle.vital_signals.specs.Lists.{AreRising, NumberList}
use Rattle.vital_nodes.proofs.Lists.{flat_map-one}

pub bounds-lists-event : goal.bounds-lists-event
bounds-lists-event c = rising-below 0 (length c.args.lists.now) c.args.events.now c.loop-event.event-index c.requires.rising (omega arith)

pub add_all-requires : goal.add_all-requires
add_all-requires c =
    let lists : List (List ℕ) = map (λ (list : Vec ℕ Global). list.items) c.args.lists.now in
    let events = c.args.events.now in
    let i = c.loop-event.event-index in
    let event = get_or events i 0 in
    let within : event < length c.args.lists.now = rising-below 0 (length c.args.lists.now) events i c.requires.rising (omega arith) in
    let here : get_or lists event [] ≡ c.deref.result.now =
    get-seen (λ (list : Vec ℕ Global). list.items) c.args.lists.now event c.index-lists-event.result [] within
    ∙ ap (λ (list : Vec ℕ Global). list.items) (sym c.index-lists-event.is) ∙ sym c.deref.ensures.value in
    let rising : AreRising 0 (length lists) events =
    subst (λ (n : ℕ). AreRising 0 n events) (sym (length-map c.args.lists.now (λ (list : Vec ℕ Global). list.items))) c.requires.rising in
    let most : sum_by (λ (list : List ℕ). length list) lists ≤ c.loop-event.triggered.room =
    omega (arith, c.requires.room, c.loop-event.invariant.room, ap (λ (n : NumberList). n.room) c.clear.ensures) in
    room-for lists events i c.loop-event.triggered.room c.loop-event.triggered.listed c.deref.result.now (omega arith) rising c.loop-event.invariant.listed here most

pub loop-event-preserved : goal.loop-event-preserved
loop-event-preserved c =
    let lists : List (List ℕ) = map (λ (list : Vec ℕ Global). list.items) c.args.lists.now in
    let f = λ (e : ℕ). get_or lists e [] in
    let events = c.args.events.now in
    let i = c.loop-event.event-index in
    let event = get_or events i 0 in
    let within : event < length c.args.lists.now = rising-below 0 (length c.args.lists.now) events i c.requires.rising (omega arith) in
    let here : f event ≡ c.deref.result.now =
    get-seen (λ (list : Vec ℕ Global). list.items) c.args.lists.now event c.index-lists-event.result [] within
    ∙ ap (λ (list : Vec ℕ Global). list.items) (sym c.index-lists-event.is) ∙ sym c.deref.ensures.value in
    record {
      listed =
          ap (λ (n : NumberList). n.listed) c.add_all.ensures
          ∙ ap (λ (ns : List ℕ). ns ++ c.deref.result.now) c.loop-event.invariant.listed
          ∙ ap (λ (ns : List ℕ). flat_map f (take i events) ++ ns) (sym here)
          ∙ sym (flat_map-one f events i event (omega arith) (get_or_default events i 0 event (omega arith)));
      room = ap (λ (n : NumberList). n.room) c.add_all.ensures ∙ c.loop-event.invariant.room;
    }
