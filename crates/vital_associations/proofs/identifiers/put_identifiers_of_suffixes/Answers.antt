use Rattle.std.proofs.Common.{map, take, ◌++◌, [], ◌∷◌, sym, ◌∙◌, ap, append_assoc, arith}
use Rattle.std.specs.List.{filter_map}
use Rattle.vital_associations.specs.Identifiers.{identifier_of_suffix}
use Rattle.vital_nodes.proofs.Lists.{filter_map-one}
use Rattle.vital_associations.proofs.identifiers.put_identifiers_of_suffixes.Goals as goal

pub loop-suffix-preserved : goal.loop-suffix-preserved
loop-suffix-preserved c =
    let xs = c.args.suffixes.now in
    let i = c.loop-suffix.suffix-index in
    let x = c.suffix-item.result in
    let first = map (λ j. j.now) c.args.found.now.items in
    let last = filter_map identifier_of_suffix (x ∷ []) in
    c.in_ok-put_identifier_of_suffix.ensures
    ∙ ap (λ is. is ++ last) c.loop-suffix.invariant
    ∙ append_assoc first (filter_map identifier_of_suffix (take i xs)) last
    ∙ ap (λ is. first ++ is) (sym (filter_map-one identifier_of_suffix xs i x (omega arith) c.suffix-item.is))
