use Rattle.std.proofs.Common.{[], ◌∷◌, ◌++◌, take, sym, ◌∙◌, ap, arith}
use Rattle.std.specs.Prelude.{None, unwrap_or}
use Rattle.std.specs.List.{fold}
use Rattle.std.proofs.lemmas.List.Sums.{fold-append}
use Rattle.vital_library.specs.Constants as constants
use Rattle.vital_limits.specs.ConstantLimits.{next_limits, with_limits, with_next}
use Rattle.vital_nodes.proofs.Lists.{map-take}
use Rattle.vital_limits.proofs.packages.constant_limits.Goals as goal

pub loop-object-preserved : goal.loop-object-preserved
loop-object-preserved c =
    let files = c.args.library.now in
    let known = c.loop-object.known.items in
    let begun = c.loop-object.begun in
    let o = c.object-item.result.now in
    ap (λ ks. (ks, c.still_begun-begun.result)) c.in_ok-push.ensures.items
    ∙ ap (λ b. (known ++ c.in_ok-limits.limits ∷ [], b)) c.still_begun-begun.ensures
    ∙ ap (with_limits o known) (c.in_ok-limits.ensures ∙ ap (λ ks. unwrap_or begun (next_limits files ks o)) c.deref.ensures.value)
    ∙ ap (λ s. with_next files s o) c.loop-object.invariant
    ∙ sym (fold-append (with_next files) ([], None) (constants.lent (take c.loop-object.object-index c.constants-object-items.result.now)) (o ∷ []))
    ∙ ap (fold (with_next files) ([], None)) (sym (map-take (λ x. x.now) c.constants-object-items.result.now c.loop-object.object-index c.object-item.result (omega arith) c.object-item.is))
