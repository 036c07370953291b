use Rattle.std.proofs.Common.{ap, map, sym, ◌∙◌}
use Rattle.std.specs.Str.{bytes_eq}
use Rattle.vital_annotate.proofs.InstanceLemmas.{has-entity-keys, has-keys}
use Rattle.vital_annotate.proofs.OutcomeLemmas.{whole_answer}
use Rattle.vital_annotate.specs.Indexes.{found}
use Rattle.vital_annotate.specs.Numbers.{numbers_where}
use Rattle.vital_annotate.specs.PathKeys.{label_key, labels_key}
use Rattle.vital_netlist.specs.Designs.{labels}
use Rattle.vital_annotate.proofs.annotating.annotate.Goals as goal

pub new-instances-requires-clause-paths : goal.new-instances-requires-clause-paths
new-instances-requires-clause-paths c =
    has-keys c.args.design.now c.deref-6.result.now c.in_ok-path_keys.path_keys.items c.in_ok-paths.paths
    (λ key. c.in_ok-paths.ensures key ∙ ap (λ ks. numbers_where (λ k. bytes_eq k key) (map (λ k. k.items) ks)) c.deref-3.ensures.value)
    (c.in_ok-path_keys.ensures ∙ ap (map (λ t. labels_key (labels c.args.design.now t.instance))) (c.deref-2.ensures.value ∙ sym c.deref-6.ensures.value))

pub new-instances-requires-clause-entities : goal.new-instances-requires-clause-entities
new-instances-requires-clause-entities c =
    has-entity-keys c.args.design.now c.deref-6.result.now c.in_ok-entity_keys.entity_keys.items c.in_ok-entities.entities
    (λ key. c.in_ok-entities.ensures key ∙ ap (λ ks. numbers_where (λ k. bytes_eq k key) (map (λ k. k.items) ks)) c.deref-5.ensures.value)
    (c.in_ok-entity_keys.ensures ∙ ap (map (λ t. label_key t.entity.now)) (c.deref-4.ensures.value ∙ sym c.deref-6.ensures.value))

pub returns-clause-annotated : goal.returns-clause-annotated
returns-clause-annotated c =
    (whole_answer c.args.design.now c.args.corner c.args.files.now _ _ _ (c.new-instances.ensures ∙ ap (map (found c.args.design.now)) c.deref-6.ensures.value ∙ c.in_ok-found.ensures)
    c.as_slice.ensures c.annotate_instances.ensures.answer).made

pub returns-clause-limit : goal.returns-clause-limit
returns-clause-limit c =
    (whole_answer c.args.design.now c.args.corner c.args.files.now _ _ _ (c.new-instances.ensures ∙ ap (map (found c.args.design.now)) c.deref-6.ensures.value ∙ c.in_ok-found.ensures)
    c.as_slice.ensures c.annotate_instances.ensures.answer).limit
