-- A path of its three parts: its tree is made of their trees alone, and what is broken in it is what is broken in them.
use Rattle.std.proofs.Common.{◌≡◌, ℕ, List, [], ◌++◌, Option, Some, None, refl, ap, ◌∙◌}
use Rattle.std.proofs.lemmas.List.{append-nil}
use Rattle.vital_base.specs.declared.place.Place.{Place}
use Rattle.vital_expr.proofs.Both.{tree_apart}
use Rattle.vital_expr.specs.Outcomes.{Outcome, both, both_by}
use Rattle.vital_operands.specs.declared.tree.BooleanExpr.{BooleanExpr}
use Rattle.vital_operands.specs.declared.tree.DelayExpr.{DelayExpr}
use Rattle.vital_actuals.specs.Paths.{pair_typed, path_typed}

path-breaks-nothing : (a : Option (List ℕ)) (b : Option (DelayExpr × BooleanExpr)) (ps : List Place) → (both_by path_typed a b ps).places ≡ ps
path-breaks-nothing None b ps = refl
path-breaks-nothing (Some s) None ps = refl
path-breaks-nothing (Some s) (Some q) ps = append-nil ps

pair-breaks-nothing : (a : Option DelayExpr) (b : Option BooleanExpr) (ps : List Place) → (both_by pair_typed a b ps).places ≡ ps
pair-breaks-nothing None b ps = refl
pair-breaks-nothing (Some d) None ps = refl
pair-breaks-nothing (Some d) (Some b) ps = append-nil ps

pub path_places : (s : Outcome (List ℕ)) (d : Outcome DelayExpr) (b : Outcome BooleanExpr) → (both path_typed s (both pair_typed d b)).places ≡ s.places ++ (d.places ++ b.places)
path_places s d b =
    path-breaks-nothing s.tree (both pair_typed d b).tree (s.places ++ (both pair_typed d b).places)
    ∙ ap (λ ps. s.places ++ ps) (pair-breaks-nothing d.tree b.tree (d.places ++ b.places))

pub path_tree : (s : Outcome (List ℕ)) (d : Outcome DelayExpr) (b : Outcome BooleanExpr) → (both path_typed s (both pair_typed d b)).tree ≡ (both_by path_typed s.tree (both_by pair_typed d.tree b.tree []).tree []).tree
path_tree s d b =
    tree_apart path_typed s.tree (both pair_typed d b).tree (s.places ++ (both pair_typed d b).places)
    ∙ ap (λ o. (both_by path_typed s.tree o []).tree) (tree_apart pair_typed d.tree b.tree (d.places ++ b.places))
