-- The first breach of an entity.
use Rattle.std.proofs.Common.{◌≡◌, List, [], ◌∷◌, ap}
use Rattle.std.specs.Prelude.{Option, Some, None}
use Rattle.std.specs.List.{Contains, slice_get}
use Rattle.std.specs.Ordering.{is_eq}
use Rattle.std.specs.declared.cmp.Ordering.TheVariants.{Equal}
use Rattle.vital_base.specs.contracts.breach.BreachOrd.TheImpl.Laws.{total-law}
use Rattle.vital_base.specs.Breaches.{Rises, compare}
use Rattle.vital_base.specs.declared.breach.Breach.{Breach}
use Rattle.vital_nodes.specs.declared.unit.Entity.{Entity}
use Rattle.vital_level0.specs.Breaches.{HasOneFirst, IsBreach, IsFirst}
use Rattle.vital_level0.specs.Found.{of_entity}
use Rattle.vital_level0.proofs.BreachLemmas.{breach-is-found, found-is-breach, none-in-nil}
use Rattle.vital_level0.proofs.FirstLemmas.{Leads, first-leads, head-leads, one-leads}
use Rattle.vital_level0.proofs.OrderLemmas.{same-breach}

to-first : (e : Entity) (first : Option Breach) → Leads compare total-law (of_entity e) first → IsFirst e first
to-first e None none = λ b breach. none b (breach-is-found e b breach)
to-first e (Some first) leads = (found-is-breach e first leads.0, λ b breach. leads.1 b (breach-is-found e b breach))

from-first : (e : Entity) (first : Option Breach) → IsFirst e first → Leads compare total-law (of_entity e) first
from-first e None none = λ b found. none b (found-is-breach e b found)
from-first e (Some first) is = (breach-is-found e first is.0, λ b found. is.1 b (found-is-breach e b found))

same : (a b : Breach) → compare a b ≡ Equal → a ≡ b
same a b tied = same-breach a b (ap is_eq tied)

pub one-first : HasOneFirst
one-first e =
    let found = first-leads compare total-law (of_entity e) in
    (found.0, to-first e found.0 found.1, λ other is. one-leads compare total-law same (of_entity e) found.0 other found.1 (from-first e other is))

-- the head of a list of all breaches that rises
pub first-of-breaches : (e : Entity) (breaches : List Breach) → ((b : Breach) → IsBreach e b → Contains breaches b) →
    ((b : Breach) → Contains breaches b → IsBreach e b) → Rises breaches → IsFirst e (slice_get breaches 0)
first-of-breaches e [] all only rises = λ b breach. none-in-nil b (all b breach)
first-of-breaches e (first ∷ later) all only rises =
    let leads = head-leads compare total-law first later rises in
    (only first leads.0, λ b breach. leads.1 b (all b breach))
