use Rattle.std.proofs.Common.{List, fold, zip, ap, sym, subst, ◌∙◌}
use Rattle.vital_table.specs.declared.masks.ChangeMasks.{ChangeMasks}
use Rattle.vital_table.specs.declared.masks.LevelMasks.{LevelMasks}
use Rattle.vital_table.specs.Masks.{AreMasks}
use Rattle.vital_table.specs.Matches.{row_matches}
use Rattle.vital_table.specs.Tables.{Table}
use Rattle.vital_table.proofs.Matching.{first_is, with_input, with_state}
use Rattle.vital_table.proofs.RowMasks.{is_there}
use Rattle.vital_table.proofs.mask_table.MaskTable.first_row.Goals as goal

pub returns-clause-first : goal.returns-clause-first
returns-clause-first c =
    let fields = c.self.inside in
    first_is c.args.self.now fields.inputs.items fields.states.items fields.all c.args.old.now c.args.new.now c.args.state.now c.matching_inputs-rows.result c.matching_states.result c.first_of.result
    (subst (λ (t : Table). AreMasks t.rows fields.inputs.items fields.states.items fields.all) c.self.view_is c.self.invariant.0)
    (ap (λ (t : Table). t.inputs) (sym c.self.view_is))
    (ap (λ (t : Table). t.states) (sym c.self.view_is))
    c.requires.old c.requires.new c.requires.state
    (c.matching_inputs-rows.ensures ∙ ap (λ (columns : List ChangeMasks). fold with_input fields.all (zip columns (zip c.args.old.now c.args.new.now))) c.deref.ensures.value)
    (c.matching_states.ensures ∙ ap (λ (columns : List LevelMasks). fold with_state c.matching_inputs-rows.result (zip columns c.args.state.now)) c.deref-2.ensures.value)
    c.first_of.ensures

pub returns-clause-there : goal.returns-clause-there
returns-clause-there c =
    is_there (row_matches c.args.self.now.inputs c.args.old.now c.args.new.now c.args.state.now) c.args.self.now.rows c.first_of.result (returns-clause-first c)
