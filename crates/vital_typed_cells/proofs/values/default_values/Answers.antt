use Rattle.std.proofs.Common.{◌≡◌, ◌≤◌, List, length, map, subst, sym, ap, ◌∙◌}
use Rattle.std.proofs.lemmas.List.{take_all}
use Rattle.vital_typed_cells.proofs.FitLemmas.{defaults-fit}
use Rattle.vital_typed_cells.specs.Answers.{default_values}
use Rattle.vital_typed_cells.specs.Fits.{FitsCell}
use Rattle.vital_objects.specs.declared.generic.TimingGeneric.{TimingGeneric}
use Rattle.vital_timing.specs.declared.delay.Delay.{Delay}
use Rattle.vital_typed_cells.proofs.values.default_values.Goals as goal

pub returns-clause-fit : goal.returns-clause-fit
returns-clause-fit c =
    let cell = c.args.checked.now in
    let n = c.loop-generic.generic-index in
    let those : c.as_slice-generic-items.result.now ≡ cell.generics = c.as_slice-generic-items.ensures ∙ ap (λ t. t.generics) c.cell.ensures.value in
    let all : length cell.generics ≤ n = subst (λ (gs : List TimingGeneric). length gs ≤ n) those c.loop-generic-test.false in
    let is : c.new.result ≡ default_values cell = c.new.ensures ∙ c.loop-generic.invariant ∙ ap (λ (gs : List TimingGeneric). map (λ g. g.default) gs) (take_all n cell.generics all) in
    subst (λ (values : List Delay). FitsCell cell values) (sym is) (defaults-fit cell c.cell.ensures.sound)
