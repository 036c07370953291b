use Rattle.std.proofs.lemmas.Result.{on_ok_weaker}
use Rattle.vital_limits.proofs.WithinLemmas.{put-decl}
use Rattle.vital_limits.proofs.within_declarations.put_within_decl.Goals as goal

pub returns : goal.returns
returns c =
    on_ok_weaker c.put_in_decl.result
    (put-decl c.walked_in_preorder.ensures c.args.decl.now _ _ _ c.in_ok-put_of_declaration.ensures)
    c.put_in_decl.ensures
