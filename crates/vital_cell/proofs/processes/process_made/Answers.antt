use Rattle.std.proofs.Common.{◌≡◌, List, true, map, sym, ◌∙◌, subst}
use Rattle.vital_cell.specs.Compiled.{with_variables}
use Rattle.vital_objects.specs.declared.variable.Variable.{Variable}
use Rattle.vital_sections.specs.declared.timing_check.TimingCheck.{TimingCheck}
use Rattle.vital_typed_cells.specs.SoundSections.{are_sound_sections}
use Rattle.vital_cell.specs.Scopes.{lent}
use Rattle.vital_cell.specs.Sound.{has_state_table, statement_tests}
use Rattle.vital_cell.specs.Steps.{AreSteps}
use Rattle.vital_cell.specs.Values.{AreFirst}
use Rattle.vital_cell.proofs.processes.process_made.Goals as goal

pub process_steps-requires-clause-sound : goal.process_steps-requires-clause-sound
process_steps-requires-clause-sound c =
    let v = lent c.args.values.now in
    let P : List Variable → Type 0 = λ vs. are_sound_sections (has_state_table (with_variables v vs)) (statement_tests (with_variables v vs)) c.args.process.now.sections ≡ true in
    subst P (sym (c.in_ok-numbers.ensures ∙ c.as_slice-variables.ensures)) c.requires.sound.statements

pub returns : goal.returns
returns c =
    let v = lent c.args.values.now in
    let p = c.args.process.now in
    let first = c.in_ok-first.first in
    let numbers = c.in_ok-numbers.ensures ∙ c.as_slice-variables.ensures in
    let P : List Variable → Type 0 = λ vs. AreSteps (with_variables v vs) c.args.driver p.sections c.in_ok-steps.steps in
    let N : List Variable → Type 0 = λ vs. AreFirst v (map (λ q. q.name) vs) c.as_slice-variables.result.now c.as_slice.result.now first in
    let V : List Variable → Type 0 = λ vs. AreFirst v (map (λ q. q.name) p.variables) vs c.as_slice.result.now first in
    let C : List TimingCheck → Type 0 = λ cs. AreFirst v (map (λ q. q.name) p.variables) p.variables cs first in
    record {
      steps = subst P numbers c.in_ok-steps.ensures;
      first = subst C c.as_slice.ensures (subst V c.as_slice-variables.ensures (subst N numbers c.in_ok-first.ensures));
    }
