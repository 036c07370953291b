use Rattle.std.proofs.Common.{◌≡◌, ℕ, List, ◌∷◌, ◌++◌, ap, length, map, sym, ◌∙◌, arith}
use Rattle.std.proofs.lemmas.List.{length-append}
use Rattle.vital_agenda.specs.Driver.{Driver, advance}
use Rattle.vital_agenda.specs.Agendas.{Content, due_at}
use Rattle.vital_agenda.specs.DueLists.{DueList}
use Rattle.vital_agenda.proofs.FirstDue.{due-le, idle_advance}
use Rattle.vital_agenda.proofs.queue_agenda.QueueAgendaAgenda.advance.Goals as goal

pub add-requires : goal.add-requires
add-requires c =
    let listed = c.loop-driver.invariant.listed ∙ ap (λ (xs : List ℕ). c.loop-driver.due.listed ++ xs) c.in-Some.ensures.first in
    let long = ap length listed ∙ length-append c.loop-driver.due.listed (c.in-Some.driver ∷ due_at c.loop-driver.self.now c.take_due.new.self.drivers) in
    let most = due-le 0 c.begin.new.self.now c.begin.new.self.drivers in
    let all = ap (λ (ds : List Driver). length ds) c.begin.ensures.drivers in
    let room = ap (λ (d : DueList). d.room) c.clear.ensures in
    omega (arith, long, most, all, room, c.requires.room, c.loop-driver.invariant.room)

pub returns-clause-after : goal.returns-clause-after
returns-clause-after c =
    let same = c.in_default.ensures.end in
    let now = c.loop-driver.invariant.now in
    let idle = idle_advance 0 c.loop-driver.self.now c.loop-driver.self.drivers c.in_default.ensures.none in
    let all : c.loop-driver.self.drivers ≡ map (advance c.loop-driver.self.now) c.args.self.now.drivers =
    sym idle ∙ ap (λ (t : ℕ). map (advance t) c.loop-driver.self.drivers) now ∙ c.loop-driver.invariant.drivers
    ∙ ap (map (advance c.begin.new.self.now)) c.begin.ensures.drivers ∙ ap (λ (t : ℕ). map (advance t) c.args.self.now.drivers) (sym now) in
    let here : c.loop-driver.self ≡ record { now = c.loop-driver.self.now; drivers = map (advance c.loop-driver.self.now) c.args.self.now.drivers } =
    ap (λ (ds : List Driver). let s : Content = record { now = c.loop-driver.self.now; drivers = ds } in s) all in
    same ∙ here ∙ ap (λ (t : ℕ). let s : Content = record { now = t; drivers = map (advance t) c.args.self.now.drivers } in s) (sym c.in_default.ensures.now)
