-- Levels that are fitted to a length.
use Rattle.std.proofs.Common.{◌≡◌, ◌≢◌, ℕ, ◌+◌, ◌<◌, List, length, length-take, set, take, get_or, get_or-set_other, get_or-set_same, get_or-take, below_more, refl, sym, ◌∙◌, arith}
use Rattle.std.specs.Prelude.{min}
use Rattle.std.proofs.lemmas.List.FromFn.{fill_by_all}
use Rattle.std.specs.List.{slice_index_or}
use Rattle.vital_machine.specs.TruthTables.{fitted}
use Rattle.vital_logic.specs.declared.level.Level.{Level}
use Rattle.vital_logic.specs.declared.level.Level.TheVariants.{U}

-- Places that have all levels of a list, and U behind them.
pub fitted-filled : (n : ℕ) (ls new : List Level) → length new ≡ n → ((i : ℕ) → i < n → get_or new i U ≡ get_or ls i U) → new ≡ fitted n ls
fitted-filled n ls new long fills = fill_by_all (λ i. slice_index_or ls i U) new n U long fills

-- One place more has its level.
pub filled-more : (ls places : List Level) (n : ℕ) (l : Level) → n < length places → l ≡ get_or ls n U → ((i : ℕ) → i < n → get_or places i U ≡ get_or ls i U) → (i : ℕ) → i < n + 1 → get_or (set places n l) i U ≡ get_or ls i U
filled-more ls places n l there is before =
    below_more (λ i. get_or (set places n l) i U ≡ get_or ls i U) n
    (λ i below. let other : i ≢ n = omega arith in get_or-set_other places n i l U other ∙ before i below)
    (get_or-set_same places n l U there ∙ is)

-- A list that is so long stays as it is.
pub fitted-whole : (n : ℕ) (ls : List Level) → length ls ≡ n → fitted n ls ≡ ls
fitted-whole n ls long = sym (fitted-filled n ls ls long (λ i below. refl))

-- As many levels as there are, and no more than some.
pub fitted-few : (n k : ℕ) (ls : List Level) → n ≡ min (length ls) k → fitted n ls ≡ take k ls
fitted-few n k ls is =
    let long : length (take k ls) ≡ n = omega (arith, length-take k ls, is) in
    sym (fitted-filled n ls (take k ls) long (λ i below. get_or-take k ls i U (omega arith)))
