use Rattle.std.proofs.Common.{◌≡◌, ◌++◌, drop}
use Rattle.vital_names.specs.Viewpoints.{first_places_from, viewpoints}
use Rattle.vital_names.proofs.viewpoint.viewpoints.Given as goal

abbrev pub invariant-loop-declaration : goal.invariant-loop-declaration
invariant-loop-declaration g l = l.places.items ++ first_places_from g.T.HasPlace.place_is g.T.DeclaredTogether.last_is l.begun (drop l.declaration-index l.declarations) ≡ viewpoints g.T.HasPlace.place_is g.T.DeclaredTogether.last_is l.declarations
