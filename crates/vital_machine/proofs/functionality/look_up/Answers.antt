use Rattle.std.proofs.Common.{◌≡◌, ℕ, take, ◌∙◌, ap, arith}
use Rattle.std.proofs.lemmas.Grind.{common_steps}
use Rattle.vital_machine.specs.Machine.{held_by}
use Rattle.vital_machine.specs.Seen.{Seen}
use Rattle.vital_machine.specs.Slots.{levels_at}
use Rattle.vital_machine.specs.Trees.{vector}
use Rattle.vital_machine.specs.TruthTables.{fitted}
use Rattle.vital_machine.proofs.StepLemmas.{state_table-done}
use Rattle.vital_table.specs.Matches.{first_row}
use Rattle.vital_machine.proofs.functionality.look_up.Goals as goal

pub returns : goal.returns
returns c =
    let s : Seen = record { inputs = c.args.inputs.now; slots = c.args.slots.now } in
    let call = c.args.call.now in
    let t = call.table in
    let new : c.put_vector.new.places ≡ fitted t.inputs (vector s call.data_in) = grind (arith, common_steps) in
    let old : c.put_held.new.levels ≡ fitted t.inputs (levels_at s.slots call.previous_data_in) = grind (arith, common_steps) in
    let before : c.put_held-2.new.levels ≡ fitted t.results (held_by call.result s.slots) = grind (arith, common_steps) in
    let row : c.row-row.result ≡ first_row t c.put_held.new.levels c.put_vector.new.places (take t.states c.put_held-2.new.levels) =
    c.row-row.ensures.first
    ∙ ap (λ (n : ℕ). first_row t c.put_held.new.levels c.put_vector.new.places (take n c.put_held-2.new.levels)) c.states.ensures.count in
    state_table-done s call c.put_vector.new.places c.put_held.new.levels c.put_held-2.new.levels c.put_results.new.results c.row-row.result c.put.new.slots c.put_levels.new.slots new old before row c.put_results.ensures c.put.ensures c.put_levels.ensures
