use Rattle.std.proofs.Common.{map, subst, ◌∙◌}
use Rattle.std.specs.List.{AllZip}
use Rattle.vital_typed_cells.specs.Fits.{FitsCell}
use Rattle.vital_annotate.proofs.FitLemmas.{defaults-fit}
use Rattle.vital_annotate.proofs.InstanceLemmas.{defaults-of}
use Rattle.vital_annotate.proofs.instances.CellInstances.defaults.Goals as goal

pub returns-clause-values : goal.returns-clause-values
returns-clause-values c = c.in_ok-values.ensures.values ∙ defaults-of c.self.inside.design.now c.self.inside.targets.now c.args.self.now c.self.view_is

pub returns-clause-fit : goal.returns-clause-fit
returns-clause-fit c =
    subst (λ is. AllZip (λ i delays. FitsCell i.cell delays) is (map (λ delays. delays.items) c.in_ok-values.values.items)) c.self.view_is
    (defaults-fit c.self.inside.design.now c.self.inside.targets.now c.in_ok-values.values.items c.in_ok-values.ensures.fit)
