use Rattle.std.proofs.Common.{◌≡◌, ◌<◌, length, map, sym, ◌∙◌, ap, subst}
use Rattle.std.specs.Prelude.{All, IfSome, slice_get}
use Rattle.vital_machine.specs.Fits.{EffectIsOfCell}
use Rattle.vital_kernel.specs.DesignNetworks.{driver_count}
use Rattle.vital_kernel.specs.Networks.{NetProcess, lent_cell, processes}
use Rattle.vital_kernel.proofs.KeptLemmas.{each-process, is-place, next-state, places-long}
use Rattle.vital_kernel.specs.Instances.{effects_in, states_in}
use Rattle.vital_kernel.specs.Places.{IsPlace, IsThere}
use Rattle.vital_kernel.specs.Processes.{ProcessStates, after}
use Rattle.vital_typed_cells.specs.Sound.{bit_count}
use Rattle.vital_kernel.proofs.processes.Processes.run.Goals as goal

pub run-requires-clause-place : goal.run-requires-clause-place
run-requires-clause-place c =
    let n = c.self.inside.network.now in
    let places = c.self.inside.places.items in
    let placed = c.self.invariant.placed in
    let within = subst (λ k. c.args.process < k) (sym (places-long n places placed ∙ ap (λ v. length (processes v.network)) c.self.view_is)) c.requires.there in
    subst (λ cells. IsPlace cells c.index-place.result.now) (sym c.cells.ensures.cells) (is-place n places c.args.process c.index-place.result.now placed within c.index-place.ensures)

pub returns-clause-after : goal.returns-clause-after
returns-clause-after c =
    let n = c.self.inside.network.now in
    let s = c.self.inside.instances in
    let new = c.run.new.self in
    let now = c.args.now in
    let signals = c.args.signals.now.signals in
    let places = c.self.inside.places.items in
    let placed = c.self.invariant.placed in
    let cells = map lent_cell c.cells.result.now in
    let within = subst (λ k. c.args.process < k) (sym (places-long n places placed ∙ ap (λ v. length (processes v.network)) c.self.view_is)) c.requires.there in
    subst (λ (v : ProcessStates). IfSome (slice_get (processes v.network) c.args.process) (λ p. states_in n new ≡ after now signals p v)) c.self.view_is
    (each-process n places c.args.process c.index-place.result.now (λ p. states_in n new ≡ after now signals p (states_in n s)) placed within c.index-place.ensures
    (λ p there at. next-state n cells now signals p s new c.cells.ensures.cells (c.run.ensures.ran p (subst (λ cs. IsThere cs p) (sym c.cells.ensures.cells) there) at) c.run.ensures.latest))

pub returns-clause-ends : goal.returns-clause-ends
returns-clause-ends c =
    let n = c.self.inside.network.now in
    let places = c.self.inside.places.items in
    let placed = c.self.invariant.placed in
    let within = subst (λ k. c.args.process < k) (sym (places-long n places placed ∙ ap (λ v. length (processes v.network)) c.self.view_is)) c.requires.there in
    let here = is-place n places c.args.process c.index-place.result.now placed within c.index-place.ensures in
    (c.run.ensures.ran here.0 (subst (λ cs. IsThere cs here.0) (sym c.cells.ensures.cells) here.1) here.2).ends

pub returns-clause-numbers : goal.returns-clause-numbers
returns-clause-numbers c =
    let n = c.self.inside.network.now in
    let new = c.run.new.self in
    let places = c.self.inside.places.items in
    let placed = c.self.invariant.placed in
    let within = subst (λ k. c.args.process < k) (sym (places-long n places placed ∙ ap (λ v. length (processes v.network)) c.self.view_is)) c.requires.there in
    let AreOf : NetProcess → Type 0 = λ p. All (EffectIsOfCell (driver_count p.cell.tree) (bit_count p.cell.tree)) (effects_in new.programs.items new.last) in
    subst (λ (v : ProcessStates). IfSome (slice_get (processes v.network) c.args.process) AreOf) c.self.view_is
    (each-process n places c.args.process c.index-place.result.now AreOf placed within c.index-place.ensures
    (λ p there at. (c.run.ensures.ran p (subst (λ cs. IsThere cs p) (sym c.cells.ensures.cells) there) at).numbers))
