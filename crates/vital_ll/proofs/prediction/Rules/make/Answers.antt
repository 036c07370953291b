use Rattle.std.proofs.Common.{◌*◌, ◌<◌, length, ◌∙◌, sym, subst, ap}
use Rattle.vital_ll.specs.Masks.{bit_of}
use Rattle.vital_ll.specs.Table.{AreBelow}
use Rattle.vital_ll.specs.Listing.{ListsPlaces}
use Rattle.vital_ll.specs.Passes.{IsAnalysis}
use Rattle.vital_ll.proofs.Known.{choice_within}
use Rattle.vital_ll.proofs.Listings.{places_in_any_order}
use Rattle.vital_ll.proofs.prediction.Rules.make.Goals as goal

pub all_rows-requires-clause-within : goal.all_rows-requires-clause-within
all_rows-requires-clause-within c =
    let below = subst (λ l. AreBelow c.args.grammar l c.width_of.result) c.deref-9.ensures.value c.width_of.ensures.below in
    λ r a t chosen.
    subst (λ n. bit_of t < 128 * n) (sym (ap length c.deref-10.ensures.value ∙ c.in_ok-blocks.ensures.count))
    (choice_within c.args.grammar c.width_of.result c.in_ok-steps.steps.items c.in_ok-steps.ensures below r a t chosen)

pub blocks-requires-clause-analysis : goal.blocks-requires-clause-analysis
blocks-requires-clause-analysis c =
    let g = c.args.grammar in
    let steps = c.in_ok-backward.backward.items in
    let places = c.in_ok-places.places.items in
    let nullable = c.in_ok-nullable.nullable.items in
    let listed = subst (λ l. ListsPlaces g l places) c.deref.ensures.value c.in_ok-places.ensures in
    let analysis : IsAnalysis g steps places nullable c.in_ok-reached.reached.items = record {
      well_formed = c.requires;
      lists_steps = c.in_ok-backward.ensures;
      lists_places = places_in_any_order g c.in_ok-steps.steps.items steps places c.in_ok-steps.ensures c.in_ok-backward.ensures listed;
      nullable_is = c.in_ok-nullable.ensures;
      reached_is = c.in_ok-reached.ensures;
    } in
    subst (λ l. IsAnalysis g l c.deref-6.result.now c.deref-7.result.now c.deref-8.result.now) (sym c.deref-5.ensures.value)
    (subst (λ l. IsAnalysis g steps l c.deref-7.result.now c.deref-8.result.now) (sym c.deref-6.ensures.value)
    (subst (λ l. IsAnalysis g steps places l c.deref-8.result.now) (sym c.deref-7.ensures.value)
    (subst (IsAnalysis g steps places nullable) (sym c.deref-8.ensures.value) analysis)))
