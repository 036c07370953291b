use Rattle.std.proofs.Common.{get_or, subst}
use Rattle.std.proofs.lemmas.Option.{slice_get-get_or}
use Rattle.vital_ll.specs.Listing.{step}
use Rattle.vital_ll.specs.Marks.{IsAdded}
use Rattle.vital_ll.proofs.Passing.{empty_turn}
use Rattle.vital_ll.proofs.passes.EmptyPassPass.mark.Goals as goal

pub returns : goal.returns
returns c =
    let s = c.args.self.now in
    empty_turn s.rules.now s.steps.now c.args.item (get_or s.steps.now c.args.item (step 0 0)) c.symbols-symbols.result.now
    (slice_get-get_or s.steps.now c.args.item (step 0 0) c.requires.item) c.symbols-symbols.ensures c.args.masks.now c.add.new.masks c.can_be_empty-bits.result c.add.result c.requires.rules
    (subst (λ r. IsAdded c.args.masks.now c.add.new.masks r c.can_be_empty-bits.result c.add.result) c.from.ensures c.add.ensures) c.can_be_empty-bits.ensures
