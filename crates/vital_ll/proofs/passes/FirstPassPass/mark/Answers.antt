use Rattle.std.proofs.Common.{◌≡◌, ◌+◌, false, get_or, subst, ap, ◌∙◌}
use Rattle.std.proofs.lemmas.Option.{slice_get-get_or}
use Rattle.vital_ll.specs.Listing.{step}
use Rattle.vital_ll.specs.Marks.{has, marked, begins, IsAdded}
use Rattle.vital_ll.specs.Masks.{token_at}
use Rattle.vital_ll.specs.Passes.{EachBit}
use Rattle.vital_ll.proofs.Bits.{has_none}
use Rattle.vital_ll.proofs.Passing.{first_turn}
use Rattle.vital_ll.proofs.passes.FirstPassPass.mark.Goals as goal

pub returns : goal.returns
returns c =
    let s = c.args.self.now in
    let bits_are : EachBit (λ i. has c.can_begin-bits.result i ≡ begins (marked s.nullable.now i) (marked c.args.masks.now i) (token_at (s.base + i)) false c.symbols-symbols.result.now) =
    λ i low. c.can_begin-bits.ensures i low ∙ ap (λ b. begins (marked s.nullable.now i) (marked c.args.masks.now i) (token_at (s.base + i)) b c.symbols-symbols.result.now) (has_none i) in
    first_turn s.rules.now s.steps.now c.args.item (get_or s.steps.now c.args.item (step 0 0)) c.symbols-symbols.result.now
    (slice_get-get_or s.steps.now c.args.item (step 0 0) c.requires.item) c.symbols-symbols.ensures c.args.masks.now c.add.new.masks c.can_begin-bits.result c.add.result c.requires.rules
    (subst (λ r. IsAdded c.args.masks.now c.add.new.masks r c.can_begin-bits.result c.add.result) c.from.ensures c.add.ensures) s.nullable.now s.base c.requires.valid.0 c.requires.valid.3 bits_are
