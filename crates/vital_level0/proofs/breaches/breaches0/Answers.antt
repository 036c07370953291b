use Rattle.std.proofs.Common.{◌∙◌, sym}
use Rattle.std.specs.List.{Contains}
use Rattle.std.proofs.lemmas.List.Filters.{dedup_is}
use Rattle.std.proofs.lemmas.List.Kept.{Contains-dedup, Contains-from_dedup, IsStrictlySortedBy-dedup}
use Rattle.std.proofs.lemmas.List.Sorted.{Contains-permutation, IsPermutation-sym}
use Rattle.vital_base.specs.contracts.breach.BreachEq.TheImpl.Laws.{laws-law}
use Rattle.vital_base.specs.contracts.breach.BreachOrd.TheImpl.Laws.{matches_eq-law, total-law}
use Rattle.vital_level0.proofs.BreachLemmas.{breach-is-found, found-is-breach}
use Rattle.vital_level0.proofs.FirstBreaches.{first-of-breaches}
use Rattle.vital_level0.proofs.OrderLemmas.{same-breach}
use Rattle.vital_level0.proofs.breaches.breaches0.Goals as goal

pub returns-clause-all : goal.returns-clause-all
returns-clause-all c =
    λ b breach.
    let found : Contains c.in_ok-found.found.items b = rw c.in_ok-found.ensures (breach-is-found c.args.entity.now b breach) in
    let sorted = Contains-permutation _ _ b c.sort_unstable.ensures.permutation found in
    rw (c.new.ensures, dedup_is _ _ _ c.dedup.ensures.filtered) (Contains-dedup laws-law (λ x y same. same-breach x y (sym (matches_eq-law x y) ∙ same)) _ b sorted)

pub returns-clause-only : goal.returns-clause-only
returns-clause-only c =
    λ b listed.
    let kept = rw (c.new.ensures, dedup_is _ _ _ c.dedup.ensures.filtered) at listed in
    let sorted = Contains-from_dedup _ _ b kept in
    let found = Contains-permutation _ _ b (IsPermutation-sym _ _ c.sort_unstable.ensures.permutation) sorted in
    found-is-breach c.args.entity.now b (rw c.in_ok-found.ensures at found)

pub returns-clause-order : goal.returns-clause-order
returns-clause-order c =
    rw (c.new.ensures, dedup_is _ _ _ c.dedup.ensures.filtered) (IsStrictlySortedBy-dedup total-law matches_eq-law _ c.sort_unstable.ensures.sorted)

pub returns-clause-first : goal.returns-clause-first
returns-clause-first c = first-of-breaches c.args.entity.now _ (returns-clause-all c) (returns-clause-only c) (returns-clause-order c)
