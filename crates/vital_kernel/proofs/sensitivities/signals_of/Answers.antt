use Rattle.std.proofs.Common.{ℕ, List, ◌++◌, ◌∷◌, [], get_or, sym, ap, ◌∙◌, arith}
use Rattle.std.specs.Prelude.{slice_get}
use Rattle.std.specs.List.{filter_map}
use Rattle.std.proofs.lemmas.List.{get_or_default}
use Rattle.vital_kernel.proofs.sensitivities.signals_of.Goals as goal
use Rattle.vital_nodes.proofs.Lists.{filter_map-one}

pub loop-bit-preserved : goal.loop-bit-preserved
loop-bit-preserved c =
    let g = slice_get c.args.wires.now in
    let i = c.loop-bit.bit-index in
    let bits = c.args.bits.now in
    let bit = get_or bits i 0 in
    c.in_ok-put_signal.ensures
    ∙ ap (λ (ns : List ℕ). ns ++ filter_map g (bit ∷ [])) c.loop-bit.invariant
    ∙ sym (filter_map-one g bits i bit (omega arith) (get_or_default bits i 0 bit (omega arith)))
