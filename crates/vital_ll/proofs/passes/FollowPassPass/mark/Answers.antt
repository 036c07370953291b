use Rattle.std.proofs.Common.{◌≡◌, ◌+◌, get_or, ap, ◌∙◌, subst, sym, arith, All}
use Rattle.std.specs.Int.Bits.{bit_and}
use Rattle.std.proofs.lemmas.Option.{slice_get-get_or}
use Rattle.vital_ll.specs.Choice.{IsNamed}
use Rattle.vital_ll.specs.Marks.{has, marked, begins, IsAdded}
use Rattle.vital_ll.specs.Masks.{token_at}
use Rattle.vital_ll.specs.Passes.{EachBit}
use Rattle.vital_ll.specs.Listing.{step, place}
use Rattle.vital_ll.proofs.Passing.{place_there, place_rule, named_rule, named_after, follow_token, follow_turn}
use Rattle.vital_ll.proofs.passes.FollowPassPass.mark.Goals as goal

pub can_begin-bits-requires-clause-named : goal.can_begin-bits-requires-clause-named
can_begin-bits-requires-clause-named c =
    let s = c.args.self.now in
    let p = get_or s.places.now c.args.item (place (step 0 0) 0) in
    subst (λ n. All (IsNamed n) c.in-Some.after.now) (sym c.requires.valid.nullable_len)
    (named_after s.rules.now p c.in-Some.named c.in-Some.after.now c.requires.valid.well_formed c.in-Some.ensures.rule)

pub offset_bounds-self-rule : goal.offset_bounds-self-rule
offset_bounds-self-rule c =
    let s = c.args.self.now in
    let p = get_or s.places.now c.args.item (place (step 0 0) 0) in
    let at = slice_get-get_or s.places.now c.args.item (place (step 0 0) 0) c.requires.item in
    let low = place_rule s.rules.now p (place_there s.rules.now s.steps.now s.places.now c.args.item p c.requires.valid.lists at) in
    let few = c.requires.valid.well_formed.few_rules in
    omega (arith, low, few, c.from-rule.ensures)

pub bounds-self-rule : goal.bounds-self-rule
bounds-self-rule c =
    let s = c.args.self.now in
    let p = get_or s.places.now c.args.item (place (step 0 0) 0) in
    let at = slice_get-get_or s.places.now c.args.item (place (step 0 0) 0) c.requires.item in
    let low = place_rule s.rules.now p (place_there s.rules.now s.steps.now s.places.now c.args.item p c.requires.valid.lists at) in
    omega (arith, low, c.requires.valid.reached_len, c.from-rule.ensures)

pub add-requires : goal.add-requires
add-requires c =
    let s = c.args.self.now in
    let p = get_or s.places.now c.args.item (place (step 0 0) 0) in
    let low = named_rule s.rules.now p c.in-Some.named c.in-Some.after.now c.requires.valid.well_formed c.in-Some.ensures.rule in
    omega (arith, low, c.requires.rules, c.from.ensures)

pub returns-in-None : goal.returns-in-None
returns-in-None c =
    let s = c.args.self.now in
    let p = get_or s.places.now c.args.item (place (step 0 0) 0) in
    follow_token s.rules.now s.places.now s.base s.nullable.now s.first.now s.reached.now c.args.item p (slice_get-get_or s.places.now c.args.item (place (step 0 0) 0) c.requires.item) c.args.masks.now c.in-None.ensures.token

pub returns-in-Some : goal.returns-in-Some
returns-in-Some c =
    let s = c.args.self.now in
    let p = get_or s.places.now c.args.item (place (step 0 0) 0) in
    let begin_is : EachBit (λ i. has c.can_begin-bits.result i ≡ begins (marked s.nullable.now i) (marked s.first.now i) (token_at (s.base + i)) (marked c.args.masks.now i p.step.rule) c.in-Some.after.now) =
    λ i low. c.can_begin-bits.ensures i low ∙ ap (λ r. begins (marked s.nullable.now i) (marked s.first.now i) (token_at (s.base + i)) (marked c.args.masks.now i r) c.in-Some.after.now) c.from-rule.ensures in
    follow_turn s.rules.now s.places.now s.base s.nullable.now s.first.now s.reached.now c.args.item p (slice_get-get_or s.places.now c.args.item (place (step 0 0) 0) c.requires.item)
    s.steps.now c.in-Some.named c.in-Some.after.now c.args.masks.now c.add.new.masks c.can_begin-bits.result (bit_and (get_or s.reached.now c.from-rule.result 0) c.can_begin-bits.result) c.add.result c.requires.valid c.requires.rules c.in-Some.ensures.rule
    (ap (λ r. bit_and (get_or s.reached.now r 0) c.can_begin-bits.result) c.from-rule.ensures) begin_is
    (subst (λ r. IsAdded c.args.masks.now c.add.new.masks r (bit_and (get_or s.reached.now c.from-rule.result 0) c.can_begin-bits.result) c.add.result) c.from.ensures c.add.ensures)
