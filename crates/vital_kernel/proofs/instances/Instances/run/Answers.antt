use Rattle.std.proofs.Common.{◌≡◌, ◌<◌, [], length, map, refl, sym, ◌∙◌, ap, subst, arith}
use Rattle.std.specs.Prelude.{All, slice_get}
use Rattle.std.specs.Option.{option_map_or}
use Rattle.std.specs.Vec.{with_item}
use Rattle.std.proofs.lemmas.Option.{same_Some}
use Rattle.vital_kernel.specs.Networks.{NetCell, NetProcess, lent_cell}
use Rattle.vital_kernel.proofs.FoundLemmas.{found, instance-within, program-within, stood}
use Rattle.vital_kernel.proofs.ListLemmas.{all-at, set-same}
use Rattle.vital_kernel.proofs.ProcessRunLemmas.{has-run, runs-after}
use Rattle.vital_kernel.specs.declared.instances.Instances.{Instances}
use Rattle.vital_kernel.specs.Instances.{HasRun}
use Rattle.vital_kernel.specs.Places.{IsThere}
use Rattle.vital_kernel.proofs.instances.Instances.run.Goals as goal
use Rattle.vital_typed_cells.specs.Sound.{bit_count}

pub index_mut-instance-requires : goal.index_mut-instance-requires
index_mut-instance-requires c =
    let s = c.args.self.now in
    omega (arith, s.instances.ok.0, instance-within c.args.cells.now c.args.place s c.requires.are c.requires.place)

pub index_mut-program-requires : goal.index_mut-program-requires
index_mut-program-requires c =
    let s = c.args.self.now in
    let cells = map lent_cell c.args.cells.now in
    let cell = lent_cell c.index-cells-place.result in
    let instance = c.index_mut-instance.result.now in
    let f = found s c.args.cells.now c.args.place c.index-cells-place.result instance c.requires.are c.requires.place c.index-cells-place.is c.index_mut-instance.ensures.value in
    omega (arith, s.programs.ok.0, program-within s cells c.args.place cell instance f)

pub run-requires-clause-process : goal.run-requires-clause-process
run-requires-clause-process c =
    let s = c.args.self.now in
    let cells = map lent_cell c.args.cells.now in
    let cell = lent_cell c.index-cells-place.result in
    let instance = c.index_mut-instance.result.now in
    let f = found s c.args.cells.now c.args.place c.index-cells-place.result instance c.requires.are c.requires.place c.index-cells-place.is c.index_mut-instance.ensures.value in
    (stood s cells c.args.place cell instance c.index_mut-program.result.now f c.index_mut-program.ensures.value).numbered

pub run-requires-clause-store : goal.run-requires-clause-store
run-requires-clause-store c =
    let s = c.args.self.now in
    let cells = map lent_cell c.args.cells.now in
    let cell = lent_cell c.index-cells-place.result in
    let instance = c.index_mut-instance.result.now in
    let f = found s c.args.cells.now c.args.place c.index-cells-place.result instance c.requires.are c.requires.place c.index-cells-place.is c.index_mut-instance.ensures.value in
    (stood s cells c.args.place cell instance c.index_mut-program.result.now f c.index_mut-program.ensures.value).fits c.args.now c.requires.later

pub run-requires-clause-one_each : goal.run-requires-clause-one_each
run-requires-clause-one_each c =
    let s = c.args.self.now in
    let cells = map lent_cell c.args.cells.now in
    let cell = lent_cell c.index-cells-place.result in
    let instance = c.index_mut-instance.result.now in
    let f = found s c.args.cells.now c.args.place c.index-cells-place.result instance c.requires.are c.requires.place c.index-cells-place.is c.index_mut-instance.ensures.value in
    let t = stood s cells c.args.place cell instance c.index_mut-program.result.now f c.index_mut-program.ensures.value in
    all-at (λ (k : NetCell). length k.wires ≡ bit_count k.tree) cells c.args.place.instance cell c.requires.wired.one_each f.cell_there ∙ sym t.stands.bits

pub run-requires-clause-there : goal.run-requires-clause-there
run-requires-clause-there c =
    let s = c.args.self.now in
    let cells = map lent_cell c.args.cells.now in
    let cell = lent_cell c.index-cells-place.result in
    let instance = c.index_mut-instance.result.now in
    let f = found s c.args.cells.now c.args.place c.index-cells-place.result instance c.requires.are c.requires.place c.index-cells-place.is c.index_mut-instance.ensures.value in
    all-at (λ (k : NetCell). All (λ signal. signal < length c.args.signals.now.signals) k.wires) cells c.args.place.instance cell c.requires.wired.there f.cell_there

pub returns-clause-are : goal.returns-clause-are
returns-clause-are c =
    let s = c.args.self.now in
    let cells = map lent_cell c.args.cells.now in
    let cell = lent_cell c.index-cells-place.result in
    let instance = c.index_mut-instance.result.now in
    let program = c.index_mut-program.result.now in
    let f = found s c.args.cells.now c.args.place c.index-cells-place.result instance c.requires.are c.requires.place c.index-cells-place.is c.index_mut-instance.ensures.value in
    let t = stood s cells c.args.place cell instance program f c.index_mut-program.ensures.value in
    runs-after s.latest c.args.now s.programs.items cells s.instances.items c.args.place.instance cell instance program c.run.new.self c.run.new.store c.requires.are c.requires.later f.cell_there f.there t.there (ap (λ p. p.program) c.run.ensures.effects) c.run.ensures.store_fits

pub returns-clause-ran : goal.returns-clause-ran
returns-clause-ran c = λ p there is.
    let s = c.args.self.now in
    let place = c.args.place in
    let cells = map lent_cell c.args.cells.now in
    let cell = lent_cell c.index-cells-place.result in
    let instance = c.index_mut-instance.result.now in
    let program = c.index_mut-program.result.now in
    let f = found s c.args.cells.now place c.index-cells-place.result instance c.requires.are c.requires.place c.index-cells-place.is c.index_mut-instance.ensures.value in
    let t = stood s cells place cell instance program f c.index_mut-program.ensures.value in
    let here : NetProcess = record { instance = place.instance; cell = cell; number = place.number; executed = p.executed } in
    let same-cell : cell ≡ p.cell = same_Some cell p.cell (sym f.cell_there ∙ ap (λ q. slice_get cells q.instance) is ∙ there.cell) in
    let same : here ≡ p =
    ap (λ q. let x : NetProcess = record { instance = q.instance; cell = cell; number = q.number; executed = p.executed } in x) is
    ∙ ap (λ k. let x : NetProcess = record { instance = p.instance; cell = k; number = p.number; executed = p.executed } in x) same-cell in
    let after : Instances = record {
      programs = with_item s.programs instance.program c.run.new.self;
      instances = with_item s.instances place.instance (record { program = instance.program; store = c.run.new.store });
      last = instance.program;
      latest = c.args.now;
    } in
    subst (λ q. HasRun c.args.now c.args.signals.now.signals q cells s after) same
    (has-run c.args.now c.args.signals.now.signals cells s after here instance program c.run.new.self c.run.new.store
    (subst (λ q. IsThere cells q) (sym same) there) (all-at (λ (k : NetCell). length k.wires ≡ bit_count k.tree) cells place.instance cell c.requires.wired.one_each f.cell_there) f.there t.there t.stands (t.fits c.args.now c.requires.later)
    c.run.ensures.slots c.run.ensures.effects c.run.ensures.ends c.run.ensures.numbers
    refl
    (ap (λ o. option_map_or (λ x. x.effects) o []) (set-same s.programs.items instance.program program c.run.new.self t.there)))
