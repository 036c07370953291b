use Rattle.std.proofs.Common.{[], sym, ◌∙◌, ap}
use Rattle.vital_cell.specs.Execution.{held_first}
use Rattle.vital_objects.specs.declared.variable.Variable.{Variable}
use Rattle.vital_typed_cells.specs.SoundDeclarations.{is_sound_kind}
use Rattle.vital_cell.specs.Scopes.{lent, names_at}
use Rattle.vital_cell.specs.Sound.{tests}
use Rattle.vital_cell.specs.Values.{IsBegun, begins_as}
use Rattle.vital_cell.proofs.ListLemmas.{all-item, zip-turn}
use Rattle.vital_cell.proofs.slots.begun_slots.Goals as goal

pub first_slot-requires-clause-sound : goal.first_slot-requires-clause-sound
first_slot-requires-clause-sound c =
    let k = lent c.args.scope.now in
    ap (is_sound_kind (tests k)) c.get.ensures
    ∙ all-item (λ (v : Variable). is_sound_kind (tests k) v.kind) c.args.variables.now c.loop-variable.variable-index c.variable-item.result c.loop-variable-test.true c.variable-item.is c.requires.sound

pub loop-variable-preserved : goal.loop-variable-preserved
loop-variable-preserved c =
    let k = lent c.args.scope.now in
    let s = c.in_ok-first_slot.field-0 in
    zip-turn (IsBegun k) c.args.variables.now c.loop-variable.variable-index c.variable-item.result s c.loop-variable.slots.items c.push.new.self.items c.loop-variable-test.true c.variable-item.is
    (record {
      held = c.in_ok-first_slot.ensures.held ∙ ap (held_first (names_at k [] [])) c.get.ensures;
      kind = ap (λ q. begins_as q s) (sym c.get.ensures) ∙ c.in_ok-first_slot.ensures.kind;
    })
    c.loop-variable.invariant c.in_ok-push.ensures.items
