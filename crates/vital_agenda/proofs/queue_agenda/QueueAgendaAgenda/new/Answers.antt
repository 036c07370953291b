use Rattle.std.proofs.Common.{◌≡◌, List, None, Some, length, map, replicate, ap, refl, sym, ◌∙◌}
use Rattle.vital_logic.specs.declared.level.Level.{Level}
use Rattle.vital_agenda.specs.Driver.{Driver}
use Rattle.vital_agenda.specs.Agendas.{Content, idle_driver}
use Rattle.vital_agenda.proofs.FirstDue.{idle_is, idle_queue}
use Rattle.vital_agenda.proofs.queue_agenda.QueueAgendaAgenda.new.Goals as goal

pub invariant_of-result : goal.invariant_of-result
invariant_of-result c =
    let values : c.in_ok-to_vec.field-0.items ≡ c.args.initial.now = c.in_ok-to_vec.ensures.items_if_clones_equal (λ x y same. same) in
    let none : c.in_ok-vec.field-0.items ≡ replicate (length c.args.initial.now) None = c.in_ok-vec.ensures.items_if_clones_equal (elim [ None ↦ λ h. refl | Some x ↦ λ h. absurd h ]) in
    idle_queue c.in_ok-to_vec.field-0.items c.new.result.entries c.in_ok-vec.field-0.items c.new.ensures.empty (none ∙ ap (λ (xs : List Level). replicate (length xs) None) (sym values))

pub returns : goal.returns
returns c =
    let values : c.in_ok-to_vec.field-0.items ≡ c.args.initial.now = c.in_ok-to_vec.ensures.items_if_clones_equal (λ x y same. same) in
    ap (λ (ds : List Driver). let s : Content = record { now = 0; drivers = ds } in s)
    (idle_is c.in_ok-to_vec.field-0.items c.new.result.entries c.new.ensures.empty ∙ ap (map idle_driver) values)
