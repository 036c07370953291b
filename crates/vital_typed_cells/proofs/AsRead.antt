-- What reading gives of a cell, in the forms in which it is used.
use Rattle.std.proofs.Common.{Bool, List, [], ◌∷◌, Option, All, AllPairs}
use Rattle.std.proofs.lemmas.List.Elements.{recursion_from_All}
use Rattle.std.specs.List.{AllByRecursion}
use Rattle.vital_as_read.specs.AsRead.{AreAlike, AreTogether, IsAsRead, IsLike, IsNamed, IsProcessAsRead, StandsBefore, common_of}
use Rattle.vital_names.specs.Declarations.{body_of, declared_in}
use Rattle.vital_names.specs.Sites.{Cell}
use Rattle.vital_nodes.specs.declared.decl.Decl.{Decl}
use Rattle.vital_nodes.specs.declared.decl.Iface.{Iface}
use Rattle.vital_nodes.specs.declared.decl.Object.{Object}
use Rattle.vital_objects.specs.Together.{beside_lasts}
use Rattle.vital_uses.specs.Statements.{processes}
use Rattle.vital_typed_cells.proofs.Found.{weaker}

-- ---- what is declared together

abbrev pub IsTogether : Decl → Option Decl → Type 0
IsTogether d last = IsLike common_of d last

abbrev pub IsInterfaceTogether : Iface → Option Iface → Type 0
IsInterfaceTogether i last = IsLike (λ j. j.parts) i last

abbrev pub IsConstantTogether : Object → Option Object → Type 0
IsConstantTogether o last = IsLike (λ c. c.parts) o last

-- each beside the last of those that are declared together with it
pub alike-beside : {A C : Type 0} (last : A → Bool) (common : A → C) (xs : List A) → AreAlike last common xs → AllByRecursion (λ x. IsLike common x.0 x.1) (beside_lasts last xs)
alike-beside last common [] alike = tt
alike-beside last common (x ∷ xs) alike = (alike.0, alike-beside last common xs alike.1)

-- ---- processes

pub each-process : (cell : Cell) → IsAsRead cell → AllByRecursion (IsProcessAsRead (body_of cell.arch)) (processes cell.arch)
each-process cell read = recursion_from_All (IsProcessAsRead (body_of cell.arch)) (processes cell.arch) read.arch.processes

pub processes-named : (cell : Cell) → IsAsRead cell → AllByRecursion (λ p. All IsNamed (declared_in p.declarations)) (processes cell.arch)
processes-named cell read = weaker (IsProcessAsRead (body_of cell.arch)) (λ p. All IsNamed (declared_in p.declarations)) (λ p has. has.named) (processes cell.arch) (each-process cell read)

pub processes-in-order : (cell : Cell) → IsAsRead cell → AllByRecursion (λ p. AllPairs StandsBefore (declared_in p.declarations)) (processes cell.arch)
processes-in-order cell read =
    weaker (IsProcessAsRead (body_of cell.arch)) (λ p. AllPairs StandsBefore (declared_in p.declarations)) (λ p has. has.in_order) (processes cell.arch) (each-process cell read)

pub processes-behind : (cell : Cell) → IsAsRead cell → AllByRecursion (λ p. All (λ d. All (StandsBefore d) (declared_in p.declarations)) (body_of cell.arch)) (processes cell.arch)
processes-behind cell read =
    weaker (IsProcessAsRead (body_of cell.arch)) (λ p. All (λ d. All (StandsBefore d) (declared_in p.declarations)) (body_of cell.arch)) (λ p has. has.behind) (processes cell.arch)
    (each-process cell read)

pub processes-together : (cell : Cell) → IsAsRead cell → AllByRecursion (λ p. AreTogether p.declarations) (processes cell.arch)
processes-together cell read =
    weaker (IsProcessAsRead (body_of cell.arch)) (λ p. AreTogether p.declarations) (λ p has. has.together) (processes cell.arch) (each-process cell read)
