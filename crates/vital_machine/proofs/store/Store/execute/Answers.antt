use Rattle.std.proofs.Common.{◌≡◌, ℕ, List, length, ap, ap₂, ◌∙◌, arith}
use Rattle.std.specs.Prelude.{slice_set}
use Rattle.std.specs.Vec.{with_items}
use Rattle.std.proofs.lemmas.Grind.{common_steps}
use Rattle.std.proofs.lemmas.List.{map-set, with_items_is}
use Rattle.vital_machine.specs.declared.slot.Slot.{Slot}
use Rattle.vital_machine.specs.Machine.{State, activation, slots_of}
use Rattle.vital_machine.specs.Programs.{SlotLists}
use Rattle.vital_machine.proofs.store.Store.execute.Goals as goal

pub returns-clause-slots : goal.returns-clause-slots
returns-clause-slots c =
    let inside = c.self.inside in
    let store = c.args.self.now in
    let n = c.args.number in
    let new = c.execute_steps.new.slots in
    let places = c.execute_steps.new.places in
    let count : length new ≡ c.index_mut.result.now.len = omega arith in
    let room : length places ≡ inside.paths.len = omega arith in
    let passed : c.as_mut_slice-slots.result.now ≡ slots_of store n = grind (arith, common_steps) in
    let done : new ≡ (activation c.args.inputs.now c.args.checks_on c.args.now (slots_of store n) c.args.steps.now).slots =
    ap (λ (st : State). st.slots) c.execute_steps.ensures.done
    ∙ ap (λ (slots : List Slot). (activation c.args.inputs.now c.args.checks_on c.args.now slots c.args.steps.now).slots) passed in
    let listed : List (List Slot) → ℕ → SlotLists = λ ls m. record { listed = ls; room = m } in
    ap₂ listed
    (map-set _ inside.processes.items n (with_items c.index_mut.result.now new)
    ∙ ap (slice_set _ n) (with_items_is c.index_mut.result.now new count ∙ done)
    ∙ ap (λ (s : SlotLists). slice_set s.listed n (activation c.args.inputs.now c.args.checks_on c.args.now (slots_of store n) c.args.steps.now).slots) c.self.view_is)
    (omega (arith, ap length (with_items_is inside.paths places room), ap (λ (s : SlotLists). s.room) c.self.view_is))
