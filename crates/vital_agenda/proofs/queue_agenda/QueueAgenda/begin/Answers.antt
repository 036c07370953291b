use Rattle.std.proofs.Common.{◌≡◌, ℕ, Option, Some, None, ap, subst, sym, ◌∙◌}
use Rattle.std.specs.Prelude.{IsSome}
use Rattle.vital_agenda.specs.Driver.{next_time}
use Rattle.vital_agenda.specs.Agendas.{Content, IsAgenda}
use Rattle.vital_agenda.proofs.Contents.{all_rise}
use Rattle.vital_agenda.proofs.FirstDue.{begins_one_queue, next_is_first, next_is_none}
use Rattle.vital_agenda.proofs.queue_agenda.QueueAgenda.begin.Goals as goal

pub returns-in-Some-clause-time : goal.returns-in-Some-clause-time
returns-in-Some-clause-time c =
    ap (λ (s : Content). next_time s.drivers) (sym c.self.view_is)
    ∙ next_is_first c.self.inside.now ((c.in-Some.time, c.in-Some.field-0-0-1), c.in-Some.field-0-1) c.self.inside.queue.entries c.self.inside.current.items c.self.inside.last.items
    c.self.invariant c.in-Some.ensures

pub invariant_of-self : goal.invariant_of-self
invariant_of-self c =
    begins_one_queue c.self.inside.now ((c.in-Some.time, c.in-Some.field-0-0-1), c.in-Some.field-0-1) c.self.inside.queue.entries c.self.inside.current.items c.self.inside.last.items
    c.self.invariant c.in-Some.ensures

pub returns-in-Some-clause-valid : goal.returns-in-Some-clause-valid
returns-in-Some-clause-valid c =
    let queue = begins_one_queue c.self.inside.now ((c.in-Some.time, c.in-Some.field-0-0-1), c.in-Some.field-0-1) c.self.inside.queue.entries c.self.inside.current.items c.self.inside.last.items
    c.self.invariant c.in-Some.ensures in
    all_rise c.in-Some.time 0 c.self.inside.current.items c.self.inside.queue.entries queue.not_past

not_some : (o : Option ℕ) → o ≡ None → IsSome o → ⊥
not_some None h k = cc
not_some (Some x) h k = cc

pub returns-in_default-clause-time : goal.returns-in_default-clause-time
returns-in_default-clause-time c =
    let none : next_time c.args.self.now.drivers ≡ None =
    ap (λ (s : Content). next_time s.drivers) (sym c.self.view_is) ∙ next_is_none c.self.inside.current.items c.self.inside.queue.entries c.in_default.ensures in
    absurd (not_some (next_time c.args.self.now.drivers) none c.requires)

pub returns-in_default-clause-valid : goal.returns-in_default-clause-valid
returns-in_default-clause-valid c =
    subst IsAgenda c.self.view_is (all_rise c.self.inside.now 0 c.self.inside.current.items c.self.inside.queue.entries c.self.invariant.not_past)
