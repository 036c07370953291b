use Rattle.std.proofs.Common.{◌≡◌, map, take, sym, ◌∙◌, ap, arith}
use Rattle.std.specs.Prelude.{filter}
use Rattle.std.specs.Str.{bytes_eq}
use Rattle.std.proofs.lemmas.List.{take_all}
use Rattle.vital_annotate.specs.Indexes.{found}
use Rattle.vital_annotate.specs.Instances.{CellInstance}
use Rattle.vital_annotate.specs.Keyed.{fits_at}
use Rattle.vital_annotate.specs.Numbers.{numbers_where}
use Rattle.vital_annotate.specs.PathKeys.{labels_key, path_key}
use Rattle.vital_annotate.proofs.InstanceLemmas.{at-key, first-one}
use Rattle.vital_annotate.proofs.instances.CellInstances.at_path.Goals as goal

pub returns-then-branch : goal.returns-then-branch
returns-then-branch c =
    let path = map (λ part. part.now) c.args.parts.now in
    let fits = fits_at c.args.self.now path in
    let group : c.numbers_under-numbers.result.now ≡ numbers_where (λ (i : CellInstance). bytes_eq (labels_key i.labels) (path_key path)) c.args.self.now =
    c.numbers_under-numbers.ensures
    ∙ c.self.invariant.0 c.deref.result.now
    ∙ ap (λ k. numbers_where (λ (i : CellInstance). bytes_eq (labels_key i.labels) k) (map (found c.self.inside.design.now) c.self.inside.targets.now)) (c.deref.ensures.value ∙ c.in_ok-put_path_key.ensures)
    ∙ ap (numbers_where (λ (i : CellInstance). bytes_eq (labels_key i.labels) (path_key path))) c.self.view_is in
    first-one fits c.numbers_under-numbers.result.now c.loop-number.number-index (omega arith) c.loop-number.invariant (sym c.in_ok-fits.ensures ∙ c.if-branch.true)
    ∙ ap (λ ns. take 1 (filter fits ns)) group
    ∙ sym (at-key c.args.self.now path)

pub returns : goal.returns
returns c =
    let path = map (λ part. part.now) c.args.parts.now in
    let fits = fits_at c.args.self.now path in
    let group : c.numbers_under-numbers.result.now ≡ numbers_where (λ (i : CellInstance). bytes_eq (labels_key i.labels) (path_key path)) c.args.self.now =
    c.numbers_under-numbers.ensures
    ∙ c.self.invariant.0 c.deref.result.now
    ∙ ap (λ k. numbers_where (λ (i : CellInstance). bytes_eq (labels_key i.labels) k) (map (found c.self.inside.design.now) c.self.inside.targets.now)) (c.deref.ensures.value ∙ c.in_ok-put_path_key.ensures)
    ∙ ap (numbers_where (λ (i : CellInstance). bytes_eq (labels_key i.labels) (path_key path))) c.self.view_is in
    sym
    (at-key c.args.self.now path
    ∙ ap (λ ns. take 1 (filter fits ns)) (sym group)
    ∙ ap (λ ns. take 1 (filter fits ns)) (sym (take_all c.loop-number.number-index c.numbers_under-numbers.result.now (omega arith)))
    ∙ ap (take 1) c.loop-number.invariant)
