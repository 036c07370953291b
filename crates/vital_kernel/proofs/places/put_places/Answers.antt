use Rattle.std.proofs.Common.{◌++◌, ◌∷◌, [], map, sym, ap, ◌∙◌, append_assoc, arith}
use Rattle.std.specs.List.{range_with_len}
use Rattle.std.proofs.lemmas.List.FromFn.{map-range_with_len_more}
use Rattle.vital_kernel.specs.Places.{place_in}
use Rattle.vital_kernel.proofs.places.put_places.Goals as goal

pub loop-number-preserved : goal.loop-number-preserved
loop-number-preserved c =
    let f = place_in c.args.instance in
    let first = c.args.places.now.items in
    let put = map f (range_with_len 0 c.loop-number.number) in
    c.in_ok-push.ensures.items
    ∙ ap (λ ps. ps ++ f c.loop-number.number ∷ []) c.loop-number.invariant
    ∙ append_assoc first put (f c.loop-number.number ∷ [])
    ∙ ap (λ ps. first ++ ps) (sym (map-range_with_len_more f 0 c.loop-number.number c.loop-number.number (omega arith)))
