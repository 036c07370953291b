use Rattle.std.proofs.Common.{ap, map, subst, sym, ◌∙◌}
use Rattle.std.specs.List.{AllZip}
use Rattle.vital_annotate.specs.Annotations.{each, file_entered}
use Rattle.vital_annotate.proofs.FitLemmas.{annotated-fits}
use Rattle.vital_typed_cells.specs.Fits.{FitsCell}
use Rattle.vital_annotate.proofs.annotating.annotate_instances.Goals as goal

pub returns-clause-fit : goal.returns-clause-fit
returns-clause-fit c =
    subst (AllZip (λ i delays. FitsCell i.cell delays) c.args.instances.now) (sym c.in_ok-annotated.ensures.values)
    (annotated-fits c.args.instances.now c.args.corner c.args.files.now (map (λ delays. delays.items) c.in_ok-defaults.field-0.items) c.enter_files.new.annotations c.in_ok-defaults.ensures.fit
    (ap (each (file_entered c.args.instances.now c.args.corner) c.args.files.now) (sym c.new-annotations.ensures) ∙ c.in_ok-enter_files.ensures.done))
