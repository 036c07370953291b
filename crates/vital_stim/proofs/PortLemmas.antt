-- A port with an index, and one without.
use Rattle.std.proofs.Common.{◌≡◌, ℕ, ◌+◌, true, false, List, take, drop, refl, ◌∙◌, ap, arith}
use Rattle.std.specs.Prelude.{Bool, ◌&&◌, Some, None, position}
use Rattle.std.specs.List.{position_or_len}
use Rattle.std.proofs.lemmas.Grind.{common_steps}
use Rattle.vital_identifiers.specs.Identifiers.{is_basic_identifier}
use Rattle.vital_stim.specs.PortForm.{is_opening, is_index, is_port}
use Rattle.vital_stim.proofs.Positions.{found, missing}

and-true : (b : Bool) → (b && true) ≡ b
and-true true = refl
and-true false = refl

pub is_port-opens : (bs : List ℕ) (i : ℕ) → position is_opening bs ≡ Some i → is_port bs ≡ (is_basic_identifier (take i bs) && is_index (drop (i + 1) bs))
is_port-opens bs i h =
    let at = found is_opening bs i h in
    rw (at.1, at.0) refl

pub is_port-closed : (bs : List ℕ) → position is_opening bs ≡ None → is_port bs ≡ is_basic_identifier bs
is_port-closed bs h =
    let at = missing is_opening bs h in
    let whole : take (position_or_len is_opening bs) bs ≡ bs = rw at.0 (grind (arith, common_steps)) in
    rw at.1 (and-true (is_basic_identifier (take (position_or_len is_opening bs) bs)) ∙ ap is_basic_identifier whole)
