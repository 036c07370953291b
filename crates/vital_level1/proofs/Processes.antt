-- What is put for each process of a cell, each beside that cell.
use Rattle.std.proofs.Common.{◌≡◌, List, ◌++◌, map, ap, ◌∙◌}
use Rattle.std.specs.List.{flat_map}
use Rattle.std.specs.Prelude.{Result, OnOk}
use Rattle.std.proofs.lemmas.Result.{on_ok_weaker}
use Rattle.vital_nodes.specs.declared.stmt.Process.{Process}
use Rattle.vital_names.specs.Sites.{Cell}
use Rattle.vital_uses.proofs.PutLemmas.{of-processes}

pub put-processes : {B T E : Type 0} (give : Cell → Process → List B) (cell : Cell) (us : List (Cell × Process)) (ps : List Process) (r : Result T E) (old new : List B) → us ≡ map (λ p. (cell, p)) ps → OnOk r (new ≡ old ++ flat_map (λ u. give u.0 u.1) us) → OnOk r (new ≡ old ++ flat_map (give cell) ps)
put-processes give cell us ps r old new are put =
    on_ok_weaker r (λ e. e ∙ ap (λ xs. old ++ xs) (of-processes give cell us ps are)) put
