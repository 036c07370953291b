use Rattle.std.proofs.Common.{◌+◌, ◌≤◌, ℕ, List, Option, Some, filter, refl, ap, subst, sym, ◌∙◌, arith}
use Rattle.std.specs.Option.{option_and}
use Rattle.vital_agenda.specs.declared.entry.Entry.{Entry}
use Rattle.vital_agenda.specs.declared.stay.Stay.TheVariants.{From}
use Rattle.vital_agenda.specs.declared.transaction.Transaction.{Transaction}
use Rattle.vital_agenda.specs.Driver.{AllRise, Driver, RisesFrom, with_new}
use Rattle.vital_agenda.specs.Agendas.{Content, assigned}
use Rattle.vital_agenda.specs.OneQueue.{drivers_from}
use Rattle.vital_agenda.specs.Queues.{Keyed, Falls, IsChainAfter, KeepsOthers, chain_of, is_up_to, pending_of}
use Rattle.vital_agenda.proofs.Chains.{chain_falls}
use Rattle.vital_agenda.proofs.Contents.{all_rise, drivers_changed, has_last, last_is, sent_is, stays_one_queue}
use Rattle.vital_agenda.proofs.Parts.{last_is_time, rest_is_time}
use Rattle.vital_agenda.proofs.Rising.{left_by, left_by_rises, with_new_rises}
use Rattle.vital_agenda.proofs.Sends.{Put, Sent, prior, put_falls, put_is_linked, put_parts, reached, sent}
use Rattle.vital_agenda.proofs.Unlinks.{ended_at}
use Rattle.vital_agenda.proofs.queue_agenda.QueueAgendaAgenda.assign.Goals as goal

pub index-last-requires : goal.index-last-requires
index-last-requires c =
    omega (arith, has_last c.args.driver c.args.self.now c.self.inside.now c.self.inside.current.items c.self.inside.queue.entries c.self.inside.last.items c.self.view_is c.self.invariant.one_each c.requires.there)

pub walk-reached-requires-clause-there : goal.walk-reached-requires-clause-there
walk-reached-requires-clause-there c =
    let there = has_last c.args.driver c.args.self.now c.self.inside.now c.self.inside.current.items c.self.inside.queue.entries c.self.inside.last.items c.self.view_is c.self.invariant.one_each c.requires.there in
    let last = last_is c.self.inside.now c.args.driver c.self.inside.queue.entries c.self.inside.current.items c.self.inside.last.items c.index-last.result.now c.self.invariant there c.index-last.ensures in
    let chain = chain_of c.args.driver c.self.inside.queue.entries in
    let chained = c.self.invariant.chained c.args.driver in
    last_is_time c.index-last.result.now chain chained last

pub walk_before-halt-requires-clause-there : goal.walk_before-halt-requires-clause-there
walk_before-halt-requires-clause-there c =
    let there = has_last c.args.driver c.args.self.now c.self.inside.now c.self.inside.current.items c.self.inside.queue.entries c.self.inside.last.items c.self.view_is c.self.invariant.one_each c.requires.there in
    let last = last_is c.self.inside.now c.args.driver c.self.inside.queue.entries c.self.inside.current.items c.self.inside.last.items c.index-last.result.now c.self.invariant there c.index-last.ensures in
    let chain = chain_of c.args.driver c.self.inside.queue.entries in
    let chained = c.self.invariant.chained c.args.driver in
    let time = c.self.inside.now + c.args.delay in
    rest_is_time (From time) chain c.walk-reached.result.rest chained (reached time c.index-last.result.now c.walk-reached.result.rest chain chained last c.walk-reached.ensures.rest)

pub returns-in_err-put-clause-valid : goal.returns-in_err-put-clause-valid
returns-in_err-put-clause-valid c =
    let rise = all_rise c.self.inside.now 0 c.self.inside.current.items c.self.inside.queue.entries c.self.invariant.not_past in
    subst (λ (es : List Keyed). AllRise c.self.inside.now (drivers_from 0 c.self.inside.current.items es)) (sym c.in_err-put.ensures.err) rise

pub unlink_after-requires-clause-falls : goal.unlink_after-requires-clause-falls
unlink_after-requires-clause-falls c =
    let chain = chain_of c.args.driver c.self.inside.queue.entries in
    let time = c.self.inside.now + c.args.delay in
    let entry : Entry = record { value = c.args.value; before = c.and-before.result } in
    subst Falls (sym c.in_ok-put.ensures.ok) (put_falls time ((time, c.args.driver), entry) chain refl (chain_falls chain (c.self.invariant.chained c.args.driver)))

pub unlink_after-requires-clause-chain : goal.unlink_after-requires-clause-chain
unlink_after-requires-clause-chain c =
    let there = has_last c.args.driver c.args.self.now c.self.inside.now c.self.inside.current.items c.self.inside.queue.entries c.self.inside.last.items c.self.view_is c.self.invariant.one_each c.requires.there in
    let last = last_is c.self.inside.now c.args.driver c.self.inside.queue.entries c.self.inside.current.items c.self.inside.last.items c.index-last.result.now c.self.invariant there c.index-last.ensures in
    let chain = chain_of c.args.driver c.self.inside.queue.entries in
    let chained = c.self.invariant.chained c.args.driver in
    let time = c.self.inside.now + c.args.delay in
    let entry : Entry = record { value = c.args.value; before = c.and-before.result } in
    subst (IsChainAfter time c.index-last.result.now) (sym c.in_ok-put.ensures.ok)
    (put_is_linked time ((time, c.args.driver), entry) c.index-last.result.now chain refl chained (chain_falls chain chained) last)

put_here : (c : goal.After-unlink_back-arg-1) → (keeps : List Keyed)
    × Put ((c.self.inside.now + c.args.delay, c.args.driver), record { value = c.args.value; before = c.and-before.result }) c.walk_before-halt.result.rest keeps (chain_of c.args.driver c.unlink_after.new.queue.entries)
put_here c =
    let there = has_last c.args.driver c.args.self.now c.self.inside.now c.self.inside.current.items c.self.inside.queue.entries c.self.inside.last.items c.self.view_is c.self.invariant.one_each c.requires.there in
    let last = last_is c.self.inside.now c.args.driver c.self.inside.queue.entries c.self.inside.current.items c.self.inside.last.items c.index-last.result.now c.self.invariant there c.index-last.ensures in
    let chain = chain_of c.args.driver c.self.inside.queue.entries in
    let chained = c.self.invariant.chained c.args.driver in
    let halt = c.walk_before-halt.ensures in
    let p = prior c.args.kind (c.self.inside.now + c.args.delay) c.args.value c.index-last.result.now c.walk-reached.result.rest c.walk_before-halt.result chain chained last c.walk-reached.ensures.rest
    halt.transport halt.kept halt.rest in (
      p.keeps,
      put_parts c.args.kind (c.self.inside.now + c.args.delay) c.args.value c.walk-reached.result.rest c.walk_before-halt.result.kept c.walk_before-halt.result.rest
          ((c.self.inside.now + c.args.delay, c.args.driver), record { value = c.args.value; before = c.and-before.result }) chain (chain_of c.args.driver c.unlink_after.new.queue.entries) refl chained p
          (c.unlink_after.ensures.chain ∙ ap (filter (is_up_to (c.self.inside.now + c.args.delay))) c.in_ok-put.ensures.ok),
    )

pub unlink_back-requires-clause-falls : goal.unlink_back-requires-clause-falls
unlink_back-requires-clause-falls c = (put_here c).1.falls

pub unlink_back-requires-clause-chain : goal.unlink_back-requires-clause-chain
unlink_back-requires-clause-chain c = (put_here c).1.back

pub unlink_back-requires-clause-there : goal.unlink_back-requires-clause-there
unlink_back-requires-clause-there c = (put_here c).1.there

pub make_first-requires : goal.make_first-requires
make_first-requires c =
    let there = has_last c.args.driver c.args.self.now c.self.inside.now c.self.inside.current.items c.self.inside.queue.entries c.self.inside.last.items c.self.view_is c.self.invariant.one_each c.requires.there in
    let last = last_is c.self.inside.now c.args.driver c.self.inside.queue.entries c.self.inside.current.items c.self.inside.last.items c.index-last.result.now c.self.invariant there c.index-last.ensures in
    let chain = chain_of c.args.driver c.self.inside.queue.entries in
    let chained = c.self.invariant.chained c.args.driver in
    let halt = c.walk_before-halt.ensures in
    let p = prior c.args.kind (c.self.inside.now + c.args.delay) c.args.value c.index-last.result.now c.walk-reached.result.rest c.walk_before-halt.result chain chained last c.walk-reached.ensures.rest
    halt.transport halt.kept halt.rest in
    let put = put_parts c.args.kind (c.self.inside.now + c.args.delay) c.args.value c.walk-reached.result.rest c.walk_before-halt.result.kept c.walk_before-halt.result.rest
    ((c.self.inside.now + c.args.delay, c.args.driver), record { value = c.args.value; before = c.and-before.result }) chain (chain_of c.args.driver c.unlink_after.new.queue.entries) refl chained p
    (c.unlink_after.ensures.chain ∙ ap (filter (is_up_to (c.self.inside.now + c.args.delay))) c.in_ok-put.ensures.ok) in
    subst Falls (sym c.unlink_back.ensures.chain) put.later_falls

pub index_mut-requires : goal.index_mut-requires
index_mut-requires c =
    omega (arith, has_last c.args.driver c.args.self.now c.self.inside.now c.self.inside.current.items c.self.inside.queue.entries c.self.inside.last.items c.self.view_is c.self.invariant.one_each c.requires.there)

sent_here : (c : goal.After-self-1)
    → Sent c.args.kind (c.self.inside.now + c.args.delay) c.args.value (chain_of c.args.driver c.self.inside.queue.entries) (chain_of c.args.driver c.make_first.new.queue.entries)
sent_here c =
    let there = has_last c.args.driver c.args.self.now c.self.inside.now c.self.inside.current.items c.self.inside.queue.entries c.self.inside.last.items c.self.view_is c.self.invariant.one_each c.requires.there in
    let last = last_is c.self.inside.now c.args.driver c.self.inside.queue.entries c.self.inside.current.items c.self.inside.last.items c.index-last.result.now c.self.invariant there c.index-last.ensures in
    let chain = chain_of c.args.driver c.self.inside.queue.entries in
    let chained = c.self.invariant.chained c.args.driver in
    let halt = c.walk_before-halt.ensures in
    let p = prior c.args.kind (c.self.inside.now + c.args.delay) c.args.value c.index-last.result.now c.walk-reached.result.rest c.walk_before-halt.result chain chained last c.walk-reached.ensures.rest
    halt.transport halt.kept halt.rest in
    let put = put_parts c.args.kind (c.self.inside.now + c.args.delay) c.args.value c.walk-reached.result.rest c.walk_before-halt.result.kept c.walk_before-halt.result.rest
    ((c.self.inside.now + c.args.delay, c.args.driver), record { value = c.args.value; before = c.and-before.result }) chain (chain_of c.args.driver c.unlink_after.new.queue.entries) refl chained p
    (c.unlink_after.ensures.chain ∙ ap (filter (is_up_to (c.self.inside.now + c.args.delay))) c.in_ok-put.ensures.ok) in
    sent c.args.kind (c.self.inside.now + c.args.delay) c.args.driver c.args.value c.walk-reached.result.rest c.walk_before-halt.result.kept c.walk_before-halt.result.rest c.and-before.result
    chain (chain_of c.args.driver c.make_first.new.queue.entries) chained p c.and-before.ensures
    (c.make_first.ensures.chain ∙ ap (λ (t : Option ℕ). ended_at t (chain_of c.args.driver c.unlink_back.new.queue.entries)) c.and.ensures
    ∙ ap (ended_at (option_and c.walk_before-halt.result.rest c.walk_before-halt.result.kept)) (c.unlink_back.ensures.chain ∙ put.later))

others_here : (c : goal.After-self-1) → KeepsOthers c.args.driver c.self.inside.queue.entries c.make_first.new.queue.entries
others_here c =
    λ other apart. c.make_first.ensures.others other apart ∙ c.unlink_back.ensures.others other apart ∙ c.unlink_after.ensures.others other apart ∙ c.put.ensures.others other apart

pub invariant_of-self-2 : goal.invariant_of-self-2
invariant_of-self-2 c =
    let now = c.self.inside.now in
    let time = now + c.args.delay in
    let there = has_last c.args.driver c.args.self.now c.self.inside.now c.self.inside.current.items c.self.inside.queue.entries c.self.inside.last.items c.self.view_is c.self.invariant.one_each c.requires.there in
    let reached : now ≤ time = omega arith in
    let rises = left_by_rises c.args.kind c.args.value now (with_new (pending_of c.args.driver c.self.inside.queue.entries) time c.args.value)
    (with_new_rises now time c.args.value (pending_of c.args.driver c.self.inside.queue.entries) (c.self.invariant.not_past c.args.driver) reached) in
    let here = sent_here c in
    stays_one_queue now c.args.driver c.self.inside.queue.entries c.make_first.new.queue.entries c.self.inside.current.items c.self.inside.last.items (Some time)
    c.self.invariant there (others_here c) here.chain here.starts (subst (RisesFrom now) (sym here.pending) rises)

pub returns-clause-ok : goal.returns-clause-ok
returns-clause-ok c =
    let now = c.self.inside.now in
    let time = now + c.args.delay in
    ap (λ (ds : List Driver). let s : Content = record { now = now; drivers = ds } in s)
    (drivers_changed c.args.driver (λ (pending : List Transaction). left_by c.args.kind c.args.value (with_new pending time c.args.value)) c.self.inside.current.items
    c.self.inside.queue.entries c.make_first.new.queue.entries (others_here c) (sent_here c).pending
    ∙ sent_is c.args.driver now c.args.kind c.args.value c.args.delay (drivers_from 0 c.self.inside.current.items c.self.inside.queue.entries)
    (all_rise now 0 c.self.inside.current.items c.self.inside.queue.entries c.self.invariant.not_past))
    ∙ ap (assigned c.args.driver c.args.kind c.args.value c.args.delay) c.self.view_is

pub returns-clause-valid : goal.returns-clause-valid
returns-clause-valid c = all_rise c.self.inside.now 0 c.self.inside.current.items c.make_first.new.queue.entries (invariant_of-self-2 c).not_past
