use Rattle.std.proofs.Common.{◌≡◌, map, sym, ◌∙◌, ap, arith}
use Rattle.std.specs.Prelude.{filter}
use Rattle.std.specs.Str.{bytes_eq}
use Rattle.std.proofs.lemmas.List.{take_all}
use Rattle.vital_annotate.specs.Indexes.{found}
use Rattle.vital_annotate.specs.Instances.{CellInstance}
use Rattle.vital_annotate.specs.Keyed.{is_of}
use Rattle.vital_annotate.specs.Names.{folded}
use Rattle.vital_annotate.specs.Numbers.{numbers_where}
use Rattle.vital_annotate.specs.PathKeys.{label_key}
use Rattle.vital_annotate.proofs.InstanceLemmas.{at-entity, some-more}
use Rattle.vital_annotate.proofs.instances.CellInstances.of_entity.Goals as goal

pub loop-number-preserved : goal.loop-number-preserved
loop-number-preserved c =
    some-more (is_of c.args.self.now c.args.entity.now) c.numbers_under-group.result.now c.loop-number.number-index _ _ c.is_of-is_meant.result (omega arith)
    c.is_of-is_meant.ensures c.loop-number.invariant c.in_ok-put_if.ensures

pub returns : goal.returns
returns c =
    let entity = c.args.entity.now in
    let group : c.numbers_under-group.result.now ≡ numbers_where (λ (i : CellInstance). bytes_eq (label_key i.entity) (folded entity)) c.args.self.now =
    c.numbers_under-group.ensures
    ∙ c.self.invariant.1 c.deref.result.now
    ∙ ap (λ k. numbers_where (λ (i : CellInstance). bytes_eq (label_key i.entity) k) (map (found c.self.inside.design.now) c.self.inside.targets.now)) (c.deref.ensures.value ∙ c.in_ok-put_entity_key.ensures)
    ∙ ap (numbers_where (λ (i : CellInstance). bytes_eq (label_key i.entity) (folded entity))) c.self.view_is in
    c.loop-number.invariant
    ∙ ap (filter (is_of c.args.self.now entity)) (take_all c.loop-number.number-index c.numbers_under-group.result.now (omega arith))
    ∙ ap (filter (is_of c.args.self.now entity)) group
    ∙ sym (at-entity c.args.self.now entity)
