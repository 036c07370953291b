use Rattle.std.proofs.Common.{get_or, ap, subst, arith}
use Rattle.std.proofs.lemmas.Option.{slice_get-get_or}
use Rattle.vital_ll.specs.Listing.{step, place}
use Rattle.vital_ll.specs.Marks.{IsAdded}
use Rattle.vital_ll.proofs.Passing.{place_there, place_rule, named_rule, reach_token, reach_turn}
use Rattle.vital_ll.proofs.passes.ReachPassPass.mark.Goals as goal

pub offset_bounds-masks-from : goal.offset_bounds-masks-from
offset_bounds-masks-from c =
    let s = c.args.self.now in
    let p = get_or s.places.now c.args.item (place (step 0 0) 0) in
    let at = slice_get-get_or s.places.now c.args.item (place (step 0 0) 0) c.requires.item in
    let low = place_rule s.rules.now p (place_there s.rules.now s.steps.now s.places.now c.args.item p c.requires.valid.1 at) in
    let few = c.requires.valid.0.few_rules in
    omega (arith, low, few, c.from.ensures)

pub bounds-masks-from : goal.bounds-masks-from
bounds-masks-from c =
    let s = c.args.self.now in
    let p = get_or s.places.now c.args.item (place (step 0 0) 0) in
    let at = slice_get-get_or s.places.now c.args.item (place (step 0 0) 0) c.requires.item in
    let low = place_rule s.rules.now p (place_there s.rules.now s.steps.now s.places.now c.args.item p c.requires.valid.1 at) in
    omega (arith, low, c.requires.rules, c.from.ensures)

pub add-requires : goal.add-requires
add-requires c =
    let s = c.args.self.now in
    let p = get_or s.places.now c.args.item (place (step 0 0) 0) in
    let low = named_rule s.rules.now p c.in-Some.named c.in-Some.field-0-1.now c.requires.valid.0 c.in-Some.ensures.rule in
    omega (arith, low, c.requires.rules, c.from-in-Some.ensures)

pub returns-in-None : goal.returns-in-None
returns-in-None c =
    let s = c.args.self.now in
    let p = get_or s.places.now c.args.item (place (step 0 0) 0) in
    reach_token s.rules.now s.places.now c.args.item p c.args.masks.now (slice_get-get_or s.places.now c.args.item (place (step 0 0) 0) c.requires.item) c.in-None.ensures.token

pub returns-in-Some : goal.returns-in-Some
returns-in-Some c =
    let s = c.args.self.now in
    let p = get_or s.places.now c.args.item (place (step 0 0) 0) in
    reach_turn s.rules.now s.places.now c.args.item p c.in-Some.named c.in-Some.field-0-1.now c.args.masks.now c.add.new.masks (get_or c.args.masks.now c.from.result 0) c.add.result c.requires.valid.0 c.requires.rules
    (slice_get-get_or s.places.now c.args.item (place (step 0 0) 0) c.requires.item) c.in-Some.ensures.rule
    (ap (λ r. get_or c.args.masks.now r 0) c.from.ensures)
    (subst (λ r. IsAdded c.args.masks.now c.add.new.masks r (get_or c.args.masks.now c.from.result 0) c.add.result) c.from-in-Some.ensures c.add.ensures)
