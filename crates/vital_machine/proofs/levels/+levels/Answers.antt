use Rattle.std.proofs.Common.{◌≡◌, [], ◌∷◌, get_or, length, length-take, map, ◌∙◌, ap, arith}
use Rattle.std.proofs.lemmas.List.{length-map}
use Rattle.std.specs.Prelude.{Some, None}
use Rattle.std.specs.Option.{option_map_or}
use Rattle.vital_machine.specs.Seen.{lent}
use Rattle.vital_machine.specs.Slots.{levels_at, levels_in}
use Rattle.vital_machine.specs.Trees.{level}
use Rattle.vital_machine.specs.TruthTables.{fitted}
use Rattle.vital_machine.proofs.FitLemmas.{fitted-few, fitted-filled, filled-more}
use Rattle.vital_machine.proofs.ReadLemmas.{mapped-at, mapped-past, read}
use Rattle.vital_machine.proofs.WorthLemmas.{first-worth, results-worth, variable-worth}
use Rattle.vital_logic.specs.declared.level.Level.TheVariants.{U}
use Rattle.vital_primitives.specs.Primitives.{primitive}
use Rattle.vital_machine.proofs.levels.+levels.Goals as goal
use Rattle.vital_machine.proofs.levels.+levels.Goals.{put_levels-in-Some, put_levels-in-None}

pub level-returns-in-FirstResult : goal.level-returns-in-FirstResult
level-returns-in-FirstResult t c =
    first-worth (lent c.args.seen.now) c.args.tree.now c.in-FirstResult.call c.get-call.result.now c.row.result c.result.result c.in-FirstResult.is c.get-call.ensures c.row.ensures.first c.result.ensures

pub primitive_of-returns : goal.primitive_of-returns
primitive_of-returns t c =
    let s = lent c.args.seen.now in
    c.primitive.ensures
    ∙ ap (primitive c.args.which) (c.put_levels.ensures ∙ fitted-few _ 4 (map (level s) c.args.inputs.now) (omega (arith, length-map c.args.inputs.now (level s), length-take c.min-count.result (U ∷ U ∷ U ∷ U ∷ []), c.min-count.ensures)))

pub put_levels-returns : goal.put_levels-returns
put_levels-returns t c =
    let s = lent c.args.seen.now in
    fitted-filled (length c.args.places.now) (map (level s) c.args.trees.now) c.loop-number.places (omega arith)
    (λ i below. c.loop-number.invariant i (omega arith))

pub put_vector-returns-in-Some : goal.put_vector-returns-in-Some
put_vector-returns-in-Some t c =
    let s = lent c.args.seen.now in
    let held : levels_in c.in-Some.slot.now ≡ levels_at s.slots c.in-Variable.number =
    ap (λ o. option_map_or levels_in o []) (read s.slots c.in-Variable.number (Some c.in-Some.slot) c.in-Some.ensures.lookup) in
    c.put.ensures ∙ ap (fitted (length c.args.places.now)) (variable-worth s c.args.tree.now c.in-Variable.number _ c.in-Variable.is held)

pub put_vector-returns-in-None : goal.put_vector-returns-in-None
put_vector-returns-in-None t c =
    let s = lent c.args.seen.now in
    let held : [] ≡ levels_at s.slots c.in-Variable.number =
    ap (λ o. option_map_or levels_in o []) (read s.slots c.in-Variable.number None c.in-None.ensures.lookup) in
    c.put-in-None.ensures ∙ ap (fitted (length c.args.places.now)) (variable-worth s c.args.tree.now c.in-Variable.number _ c.in-Variable.is held)

pub put_vector-returns-in-Results : goal.put_vector-returns-in-Results
put_vector-returns-in-Results t c =
    let s = lent c.args.seen.now in
    c.put-in-Results.ensures
    ∙ ap (fitted (length c.args.places.now)) (results-worth s c.args.tree.now c.in-Results.call c.get-call.result.now c.row.result c.in-Results.is c.get-call.ensures c.row.ensures.first)

pub put_levels-loop-number-preserved : goal.put_levels-loop-number-preserved
put_levels-loop-number-preserved t c =
    let s = lent c.args.seen.now in
    let trees = c.args.trees.now in
    let n = c.loop-number.number in
    let is : c.match-get.place ≡ get_or (map (level s) trees) n U =
    elim c.match-get.branch [
      | put_levels-in-Some w ↦
          w.place-is ∙ w.level.ensures ∙ mapped-at (level s) trees n w.in-Some.tree.now U (read trees n (Some w.in-Some.tree) w.in-Some.ensures.lookup)
      | put_levels-in-None w ↦ w.place-is ∙ mapped-past (level s) trees n U (read trees n None w.in-None.ensures.lookup)
    ] in
    filled-more (map (level s) trees) c.loop-number.places n c.match-get.place (omega arith) is c.loop-number.invariant
