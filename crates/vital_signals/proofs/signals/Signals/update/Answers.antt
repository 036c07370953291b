use Rattle.std.proofs.Common.{◌≡◌, length, subst, ap, sym, ◌∙◌, arith}
use Rattle.std.proofs.lemmas.List.{with_items_is}
use Rattle.std.specs.Vec.{with_items}
use Rattle.vital_signals.specs.SignalStates.{AreCurrent, SignalState}
use Rattle.vital_signals.proofs.DueLemmas.{due_are_there, fewer_are_due}
use Rattle.vital_signals.proofs.StateLemmas.{current_after, updated_from}
use Rattle.vital_signals.proofs.signals.Signals.update.Goals as goal

pub touch-requires-clause-room : goal.touch-requires-clause-room
touch-requires-clause-room g c =
    let state = ap (λ (s : SignalState). length s.signals_of) c.self.view_is in
    omega (arith, state, fewer_are_due c.args.self.now c.args.due.now.listed (g.A.Agenda.content c.args.agenda.now) c.requires, c.self.invariant.2)

pub touch-requires-clause-there : goal.touch-requires-clause-there
touch-requires-clause-there g c =
    λ k lt.
    let state = ap (λ (s : SignalState). length s.signals_of) c.self.view_is in
    omega (arith, state, due_are_there c.args.self.now c.args.due.now.listed (g.A.Agenda.content c.args.agenda.now) c.requires k lt)

pub renew-requires-clause-room : goal.renew-requires-clause-room
renew-requires-clause-room g c = omega (arith, c.touch.ensures.fits, c.touch.ensures.keeps_room, c.self.invariant.2, c.self.invariant.3)

pub returns-clause-after : goal.returns-clause-after
returns-clause-after g c =
    updated_from c.self.inside.sources.defaults c.self.inside.sources.signals_of c.self.inside.signals.items c.deref_mut.result.now c.renew.new.signals
    (with_items c.self.inside.signals c.renew.new.signals).items c.self.inside.events.listed c.renew.new.events.listed c.touch.new.touched.listed c.args.due.now.listed
    c.args.self.now (g.A.Agenda.content c.args.agenda.now) c.self.view_is c.requires c.self.invariant.0 c.touch.ensures.rising c.touch.ensures.same c.deref_mut.ensures.value
    (with_items_is c.self.inside.signals c.renew.new.signals (c.renew.auto.signals ∙ c.deref_mut.ensures.len)) c.renew.ensures.after

pub returns-clause-current : goal.returns-clause-current
returns-clause-current g c =
    let content = g.A.Agenda.content c.args.agenda.now in
    let all : length c.args.self.now.signals ≡ length c.args.self.now.defaults =
    sym (ap (λ (s : SignalState). length s.signals) c.self.view_is) ∙ c.self.invariant.0 ∙ ap (λ (s : SignalState). length s.defaults) c.self.view_is in
    subst (λ (x : SignalState). AreCurrent x content.drivers) (sym (returns-clause-after g c)) (current_after c.args.self.now c.args.due.now.listed content c.requires all)
