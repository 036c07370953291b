-- What ports are, where it was found once for all of them.
use Rattle.std.proofs.Common.{◌≡◌, ℕ, ◌<◌, ◌≤◌, Option, Some, None, List, length, map, refl, sym, ap, ◌∙◌}
use Rattle.std.specs.List.{slice_get}
use Rattle.std.specs.Option.{option_map, option_map_or}
use Rattle.std.proofs.Math.ListN.{get_or}
use Rattle.std.proofs.lemmas.Option.{slice_get-get_or, slice_get-map, slice_get_past}
use Rattle.vital_associations.specs.Formals.{shape_at}
use Rattle.vital_nodes.specs.declared.decl.Iface.{Iface}
use Rattle.vital_structure.specs.Shapes.{Scalar, Shape, lent, shape_of_port}
use Rattle.vital_structure.specs.declared.shape.Shape.{Shape as Shape'}

-- The one at a number, where it is given what is kept there.
at-number : (o : Option Shape') (p : Option Iface) → option_map lent o ≡ option_map shape_of_port p → option_map_or lent o Scalar ≡ option_map_or shape_of_port p Scalar
at-number None None same = refl
at-number None (Some port) same = absurd (cc)
at-number (Some s) None same = absurd (cc)
at-number (Some s) (Some port) same = cc

kept-at : (shapes : List Shape') (ports : List Iface) (n : ℕ) → map lent shapes ≡ map shape_of_port ports → option_map_or lent (slice_get shapes n) Scalar ≡ shape_at ports n
kept-at shapes ports n same =
    at-number (slice_get shapes n) (slice_get ports n)
    (sym (slice_get-map lent shapes n) ∙ ap (λ (xs : List Shape). slice_get xs n) same ∙ slice_get-map shape_of_port ports n)

pub shape-there : (shapes : List Shape') (ports : List Iface) (n : ℕ) (s d : Shape') → map lent shapes ≡ map shape_of_port ports → n < length shapes → s ≡ get_or shapes n d → lent s ≡ shape_at ports n
shape-there shapes ports n s d same there is =
    ap (λ (x : Shape'). lent x) is ∙ ap (λ (o : Option Shape'). option_map_or lent o Scalar) (sym (slice_get-get_or shapes n d there)) ∙ kept-at shapes ports n same

pub shape-past : (shapes : List Shape') (ports : List Iface) (n : ℕ) → map lent shapes ≡ map shape_of_port ports → length shapes ≤ n → Scalar ≡ shape_at ports n
shape-past shapes ports n same past =
    ap (λ (o : Option Shape'). option_map_or lent o Scalar) (sym (slice_get_past shapes n past)) ∙ kept-at shapes ports n same
