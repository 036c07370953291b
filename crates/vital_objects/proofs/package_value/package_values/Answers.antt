use Rattle.std.proofs.Common.{[], ◌∷◌, ◌++◌, take, sym, ◌∙◌, ap, arith}
use Rattle.std.specs.Prelude.{None, unwrap_or}
use Rattle.std.specs.List.{fold}
use Rattle.std.proofs.lemmas.List.Sums.{fold-append}
use Rattle.vital_library.specs.Constants as constants
use Rattle.vital_objects.specs.PackageValues.{next_value, with_next, with_value}
use Rattle.vital_nodes.proofs.Lists.{map-take}
use Rattle.vital_objects.proofs.package_value.package_values.Goals as goal

pub loop-object-preserved : goal.loop-object-preserved
loop-object-preserved c =
    let files = c.args.library.now in
    let known = c.loop-object.known.items in
    let begun = c.loop-object.begun in
    let o = c.object-item.result.now in
    ap (λ ks. (ks, c.in_ok-begun.begun)) c.in_ok-push.ensures.items
    ∙ ap (λ b. (known ++ c.in_ok-value.value ∷ [], b)) c.in_ok-begun.ensures
    ∙ ap (with_value o known) (c.in_ok-value.ensures ∙ ap (λ ks. unwrap_or begun (next_value files ks o)) c.deref.ensures.value)
    ∙ ap (λ s. with_next files s o) c.loop-object.invariant
    ∙ sym (fold-append (with_next files) ([], None) (constants.lent (take c.loop-object.object-index c.constants-object-items.result.now)) (o ∷ []))
    ∙ ap (fold (with_next files) ([], None)) (sym (map-take (λ x. x.now) c.constants-object-items.result.now c.loop-object.object-index c.object-item.result (omega arith) c.object-item.is))
