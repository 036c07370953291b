use Rattle.std.proofs.Common.{◌++◌, [], ◌∷◌, ◌∙◌, ap, sym, arith}
use Rattle.vital_names.specs.Declarations.{declared_by, declared_in}
use Rattle.vital_nodes.proofs.Lists.{filter_map-one}
use Rattle.vital_names.proofs.declared_lists.declared_in.Goals as goal

pub loop-declaration-preserved : goal.loop-declaration-preserved
loop-declaration-preserved c =
    c.in_ok-put_declared.ensures
    ∙ ap (λ ds. ds ++ declared_in (c.declaration-item.result ∷ [])) c.loop-declaration.invariant
    ∙ sym (filter_map-one declared_by c.args.declarations.now c.loop-declaration.declaration-index c.declaration-item.result (omega arith) c.declaration-item.is)
