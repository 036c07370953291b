-- Breaches of Level 0.
use Rattle.std.specs.Prelude.{◌≡◌, ◌≢◌, ℕ, true, Option, Some, None}
use Rattle.std.specs.declared.cmp.Ordering.TheVariants.{Less}
use Rattle.vital_base.specs.Breaches.{compare}
use Rattle.vital_base.specs.declared.breach.Breach.{Breach}
use Rattle.vital_base.specs.declared.breach.Clause.{Clause}
use Rattle.vital_nodes.specs.declared.unit.Entity.{Entity}
use Rattle.vital_level0.specs.Clauses.{Breaks1, Breaks2, Breaks3, BreaksAtPort, BreaksAtGeneric, BreaksL7, BreaksL10, BreaksSplit, breaks_4, breaks_5, breaks_6, breaks_8, breaks_9}

-- The clause L0.n.
abbrev pub level_0 : ℕ → Clause
level_0 number = record { level = 0; number = number }

-- A clause of Level 0 that an entity breaks at a place.
pub data IsBreach (e : Entity) (b : Breach) : Type 0 where
  clause_1 : b.clause ≡ level_0 1 → Breaks1 e b.place → IsBreach e b
  clause_2 : b.clause ≡ level_0 2 → Breaks2 e b.place → IsBreach e b
  clause_3 : b.clause ≡ level_0 3 → Breaks3 e b.place → IsBreach e b
  clause_4 : b.clause ≡ level_0 4 → BreaksAtPort breaks_4 e b.place → IsBreach e b
  clause_5 : b.clause ≡ level_0 5 → BreaksAtPort breaks_5 e b.place → IsBreach e b
  clause_6 : b.clause ≡ level_0 6 → BreaksAtPort breaks_6 e b.place → IsBreach e b
  clause_7 : b.clause ≡ level_0 7 → BreaksAtGeneric BreaksL7 e b.place → IsBreach e b
  clause_8 : b.clause ≡ level_0 8 → BreaksAtGeneric (BreaksSplit breaks_8) e b.place → IsBreach e b
  clause_9 : b.clause ≡ level_0 9 → BreaksAtGeneric (λ _ g. breaks_9 g ≡ true) e b.place → IsBreach e b
  clause_10 : b.clause ≡ level_0 10 → BreaksAtGeneric BreaksL10 e b.place → IsBreach e b

-- The first breach of an entity, which no other comes before; there is none where no clause is broken.
abbrev pub IsFirst : Entity → Option Breach → Type 0
IsFirst e None = (b : Breach) → ¬ IsBreach e b
IsFirst e (Some first) = IsBreach e first × ((b : Breach) → IsBreach e b → compare b first ≢ Less)

-- Each entity has one first breach, or none.
abbrev pub HasOneFirst : Type 0
HasOneFirst = (e : Entity) → (first : Option Breach) × IsFirst e first × ((other : Option Breach) → IsFirst e other → other ≡ first)
