use Rattle.std.proofs.Common.{◌≡◌, ◌<◌, ℕ, List, [], ◌∷◌, Option, None, length, map, set, ap, subst, sym, ◌∙◌, arith}
use Rattle.vital_agenda.specs.declared.stay.Stay.TheVariants.{After}
use Rattle.vital_agenda.specs.Driver.{Driver, RisesFrom, advance}
use Rattle.vital_agenda.specs.Agendas.{Content, IsAgenda, IsFirstDue, changed, due_at}
use Rattle.vital_agenda.specs.Queues.{IsFirst, Keyed, last_staying, pending_of, with_pending}
use Rattle.vital_agenda.specs.OneQueue.{drivers_from}
use Rattle.vital_agenda.proofs.Contents.{all_rise, drivers_changed, last_is, stays_one_queue}
use Rattle.vital_agenda.proofs.FirstDue.{current_set, first_due_is, first_is_taken, first_is_there, first_key, none_due_empty, none_due_later, same_queue_with, taken, taken_advance}
use Rattle.vital_agenda.proofs.Rising.{last_staying_rises}
use Rattle.vital_agenda.proofs.queue_agenda.QueueAgenda.take_due.Goals as goal

pub index_mut-requires : goal.index_mut-requires
index_mut-requires c =
    omega (arith, first_is_there c.self.inside.now ((c.in-Some.time, c.in-Some.driver), c.in-Some.entry) c.self.inside.queue.entries c.self.inside.current.items c.self.inside.last.items c.self.invariant c.in-Some.ensures.0)

pub index-last-requires : goal.index-last-requires
index-last-requires c =
    omega (arith, first_is_there c.self.inside.now ((c.in-Some.time, c.in-Some.driver), c.in-Some.entry) c.self.inside.queue.entries c.self.inside.current.items c.self.inside.last.items c.self.invariant c.in-Some.ensures.0, c.self.invariant.one_each)

pub unlink_first-requires-clause-first : goal.unlink_first-requires-clause-first
unlink_first-requires-clause-first c = first_key ((c.in-Some.time, c.in-Some.driver), c.in-Some.entry) c.self.inside.queue.entries c.in-Some.ensures.0

pub unlink_first-requires-clause-last : goal.unlink_first-requires-clause-last
unlink_first-requires-clause-last c =
    let there : c.in-Some.driver < length c.self.inside.last.items = omega (arith, first_is_there c.self.inside.now ((c.in-Some.time, c.in-Some.driver), c.in-Some.entry) c.self.inside.queue.entries c.self.inside.current.items c.self.inside.last.items c.self.invariant c.in-Some.ensures.0, c.self.invariant.one_each) in
    last_is c.self.inside.now c.in-Some.driver c.self.inside.queue.entries c.self.inside.current.items c.self.inside.last.items c.index-last.result.now c.self.invariant there c.index-last.ensures

pub index_mut-requires-in-Some : goal.index_mut-requires-in-Some
index_mut-requires-in-Some c =
    omega (arith, first_is_there c.self.inside.now ((c.in-Some.time, c.in-Some.driver), c.in-Some.entry) c.self.inside.queue.entries c.self.inside.current.items c.self.inside.last.items c.self.invariant c.in-Some.ensures.0, c.self.invariant.one_each)

pub invariant_of-self : goal.invariant_of-self
invariant_of-self c =
    let there : c.in-Some.driver < length c.self.inside.last.items = omega (arith, first_is_there c.self.inside.now ((c.in-Some.time, c.in-Some.driver), c.in-Some.entry) c.self.inside.queue.entries c.self.inside.current.items c.self.inside.last.items c.self.invariant c.in-Some.ensures.0, c.self.invariant.one_each) in
    let driver = c.in-Some.driver in
    let with_value = same_queue_with c.self.inside.now driver c.in-Some.entry.value c.self.inside.queue.entries c.self.inside.current.items c.self.inside.last.items c.self.invariant in
    let rises = last_staying_rises (After c.in-Some.time) c.self.inside.now (pending_of driver c.self.inside.queue.entries) (c.self.invariant.not_past driver) in
    stays_one_queue c.self.inside.now driver c.self.inside.queue.entries c.unlink_first.new.queue.entries (set c.self.inside.current.items driver c.in-Some.entry.value) c.self.inside.last.items
    c.unlink_first.result with_value there c.unlink_first.ensures.others c.unlink_first.ensures.chain c.unlink_first.ensures.last
    (subst (RisesFrom c.self.inside.now) (sym c.unlink_first.ensures.stays) rises)

valid_here : (c : goal.After-self-in-Some-1) → IsAgenda c.args.self.now
valid_here c = subst IsAgenda c.self.view_is (all_rise c.self.inside.now 0 c.self.inside.current.items c.self.inside.queue.entries c.self.invariant.not_past)

first_here : (c : goal.After-self-in-Some-1) → IsFirstDue c.args.self.now.now c.in-Some.driver c.in-Some.entry.value c.args.self.now.drivers
first_here c =
    subst (λ (s : Content). IsFirstDue s.now c.in-Some.driver c.in-Some.entry.value s.drivers) c.self.view_is
    (first_due_is c.self.inside.now c.self.inside.now ((c.in-Some.time, c.in-Some.driver), c.in-Some.entry) c.self.inside.queue.entries c.self.inside.current.items c.self.inside.last.items c.self.invariant c.in-Some.ensures c.if-time-self.true)

taken_is : (c : goal.After-self-in-Some-1)
    → drivers_from 0 (set c.self.inside.current.items c.in-Some.driver c.in-Some.entry.value) c.unlink_first.new.queue.entries ≡ taken c.args.self.now.now c.in-Some.driver c.in-Some.entry.value c.args.self.now.drivers
taken_is c =
    let driver = c.in-Some.driver in
    let value = c.in-Some.entry.value in
    let change : List Driver → List Driver = λ ds. changed driver (with_pending (last_staying (After c.in-Some.time))) ds in
    drivers_changed driver (last_staying (After c.in-Some.time)) (set c.self.inside.current.items driver value) c.self.inside.queue.entries c.unlink_first.new.queue.entries
    c.unlink_first.ensures.others c.unlink_first.ensures.stays
    ∙ ap change (current_set driver value c.self.inside.current.items c.self.inside.queue.entries)
    ∙ ap (λ (t : ℕ). taken t driver value (drivers_from 0 c.self.inside.current.items c.self.inside.queue.entries)) c.if-time-self.true
    ∙ ap (λ (s : Content). taken s.now driver value s.drivers) c.self.view_is

pub returns-in-Some-clause-first : goal.returns-in-Some-clause-first
returns-in-Some-clause-first c =
    first_is_taken c.args.self.now.now c.in-Some.driver c.in-Some.entry.value c.args.self.now.drivers (valid_here c) (first_here c)
    ∙ ap (λ (ds : List Driver). c.in-Some.driver ∷ due_at c.args.self.now.now ds) (sym (taken_is c))

pub returns-in-Some-clause-rest : goal.returns-in-Some-clause-rest
returns-in-Some-clause-rest c =
    ap (map (advance c.args.self.now.now)) (taken_is c)
    ∙ taken_advance c.args.self.now.now c.in-Some.driver c.in-Some.entry.value c.args.self.now.drivers (valid_here c) (first_here c)

pub returns-in-Some-clause-was_valid : goal.returns-in-Some-clause-was_valid
returns-in-Some-clause-was_valid c = valid_here c

pub returns-in_default-clause-none : goal.returns-in_default-clause-none
returns-in_default-clause-none c =
    subst (λ (s : Content). due_at s.now s.drivers ≡ []) c.self.view_is
    (none_due_later c.self.inside.now ((c.in-Some.time, c.in-Some.driver), c.in-Some.entry) c.self.inside.queue.entries c.self.inside.current.items c.self.inside.last.items
    c.self.invariant c.in-Some.ensures c.if-time-self.false)

pub returns-in_default-clause-was_valid : goal.returns-in_default-clause-was_valid
returns-in_default-clause-was_valid c =
    subst IsAgenda c.self.view_is (all_rise c.self.inside.now 0 c.self.inside.current.items c.self.inside.queue.entries c.self.invariant.not_past)

pub returns-in_default-2-clause-none : goal.returns-in_default-2-clause-none
returns-in_default-2-clause-none c =
    let empty : IsFirst None c.self.inside.queue.entries = subst (λ (o : Option Keyed). IsFirst o c.self.inside.queue.entries) c.in_default.is c.first.ensures in
    subst (λ (s : Content). due_at s.now s.drivers ≡ []) c.self.view_is (none_due_empty c.self.inside.now c.self.inside.current.items c.self.inside.queue.entries empty)

pub returns-in_default-2-clause-was_valid : goal.returns-in_default-2-clause-was_valid
returns-in_default-2-clause-was_valid c =
    subst IsAgenda c.self.view_is (all_rise c.self.inside.now 0 c.self.inside.current.items c.self.inside.queue.entries c.self.invariant.not_past)
