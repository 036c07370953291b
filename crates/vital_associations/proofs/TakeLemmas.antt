-- One part of a port more.
use Rattle.std.proofs.Common.{◌≡◌, ℕ, true, false, List, sym, ◌∙◌, ap}
use Rattle.std.specs.Prelude.{Bool, not, ◌||◌, Option, Some, None}
use Rattle.std.specs.List.{list_any}
use Rattle.std.specs.Option.{option_map_or}
use Rattle.std.proofs.Math.Bool.{or_comm}
use Rattle.vital_structure.specs.Shapes.{Part, Shape}
use Rattle.vital_associations.specs.Associations.{Association, PortMap, is_taken}
use Rattle.vital_associations.specs.Formals.{shape_at}
use Rattle.vital_associations.specs.Spans.{HasSpans, Kept, Span, is_met, meets, span_of, takes, takes_of}
use Rattle.vital_associations.proofs.TakenLemmas.{taken-span}

module _ (m : PortMap) (n : ℕ) (p : Part) (s : Shape) (same : s ≡ shape_at m.formals n) where
  taken-by : (o : Option Span) (earlier : List Association) → o ≡ span_of s n p → is_taken (shape_at m.formals n) n p earlier ≡ option_map_or (λ x. list_any (takes_of m x) earlier) o false
  taken-by o earlier is =
      taken-span m n p earlier
      ∙ ap (λ t. option_map_or (λ x. list_any (takes_of m x) earlier) (span_of t n p) false) (sym same)
      ∙ ap (λ o. option_map_or (λ x. list_any (takes_of m x) earlier) o false) (sym is)

  takes-by : (z : Span) (o : Option Span) → o ≡ span_of s n p → takes z (shape_at m.formals n) n p ≡ option_map_or (λ t. meets t z) o false
  takes-by z o is =
      ap (λ t. option_map_or (λ y. meets y z) (span_of t n p) false) (sym same)
      ∙ ap (λ o. option_map_or (λ y. meets y z) o false) (sym is)

  -- a part without bits is not taken, and takes none
  pub none-free : (earlier : List Association) → None ≡ span_of s n p → true ≡ not (is_taken (shape_at m.formals n) n p earlier)
  none-free earlier is = ap not (sym (taken-by None earlier is))

  pub none-more : (z : Span) (old : Bool) → None ≡ span_of s n p → old ≡ (old || takes z (shape_at m.formals n) n p)
  none-more z old is = sym (ap (λ b. old || b) (takes-by z None is) ∙ or_comm old false)

  -- a part is taken where its span is met, and takes that
  pub some-taken : (x : Span) (kept : List Kept) (b : Bool) → Some x ≡ span_of s n p → b ≡ is_met kept x → (earlier : List Association) → HasSpans m earlier kept → not b ≡ not (is_taken (shape_at m.formals n) n p earlier)
  some-taken x kept b is met earlier has = ap not (met ∙ has x ∙ sym (taken-by (Some x) earlier is))

  pub some-more : (x z : Span) (old new : Bool) → Some x ≡ span_of s n p → new ≡ (meets x z || old) → new ≡ (old || takes z (shape_at m.formals n) n p)
  some-more x z old new is put = put ∙ or_comm (meets x z) old ∙ ap (λ b. old || b) (sym (takes-by z (Some x) is))
