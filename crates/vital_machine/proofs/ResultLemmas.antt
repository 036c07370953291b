-- Results that a row of a table puts in place of those before.
use Rattle.std.proofs.Common.{◌≡◌, ◌≢◌, ℕ, ◌+◌, ◌<◌, ◌≤◌, List, length, get_or, get_or-set_other, get_or-set_same, map, set, zero-add, below_more, ext_get_or, sym, ◌∙◌, ap, arith}
use Rattle.std.specs.Prelude.{Bool, true, nat_lt, Option, if◌then◌else◌}
use Rattle.std.specs.List.{enumerate_from}
use Rattle.std.proofs.lemmas.Bool.{lt-ltb}
use Rattle.std.proofs.lemmas.List.{get_or-map, get_or_default, length-map}
use Rattle.std.proofs.lemmas.List.FromFn.{get_or-enumerate_from, length-enumerate_from}
use Rattle.vital_logic.specs.declared.level.Level.{Level}
use Rattle.vital_logic.specs.declared.level.Level.TheVariants.{U}
use Rattle.vital_table.specs.Results.{result_at}
use Rattle.vital_table.specs.Tables.{Table}

-- Each place has what the row gives for what it was.
pub results-filled : (t : Table) (row : Option ℕ) (old new : List Level) → length new ≡ length old → ((i : ℕ) → i < length old → get_or new i U ≡ result_at t row i (get_or old i U)) → new ≡ map (λ r. result_at t row r.0 r.1) (enumerate_from 0 old)
results-filled t row old new long fills =
    let give : (ℕ × Level) → Level = λ r. result_at t row r.0 r.1 in
    let listed = enumerate_from 0 old in
    let count : length listed ≡ length old = length-enumerate_from 0 old in
    let all : length (map give listed) ≡ length listed = length-map listed give in
    ext_get_or U new (map give listed) (long ∙ sym count ∙ sym all)
    (λ i below.
    let there : i < length old = omega arith in
    let listed-there : i < length listed = omega arith in
    fills i there
    ∙ sym (get_or-map give listed i (0, U) U listed-there
    ∙ ap give (get_or-enumerate_from 0 old i (0, U) there)
    ∙ ap (λ n. result_at t row n (get_or old i U)) (zero-add i)))

chosen : {A : Type 0} (b : Bool) (x y : A) → b ≡ true → (if b then x else y) ≡ x
chosen b x y is = ap (λ v. if v then x else y) is

-- One place more has it.
pub results-more : (t : Table) (row : Option ℕ) (old new : List Level) (n : ℕ) (l d : Level) → n < length new → n < t.results → l ≡ (if nat_lt n t.results then result_at t row n (get_or new n d) else get_or new n d) → get_or new n U ≡ get_or old n U → ((i : ℕ) → i < n → get_or new i U ≡ result_at t row i (get_or old i U)) → (i : ℕ) → i < n + 1 → get_or (set new n l) i U ≡ result_at t row i (get_or old i U)
results-more t row old new n l d there within is same done =
    below_more (λ i. get_or (set new n l) i U ≡ result_at t row i (get_or old i U)) n
    (λ i below. let other : i ≢ n = omega arith in get_or-set_other new n i l U other ∙ done i below)
    (get_or-set_same new n l U there
    ∙ is
    ∙ chosen (nat_lt n t.results) (result_at t row n (get_or new n d)) (get_or new n d) (lt-ltb n t.results within)
    ∙ ap (result_at t row n) (get_or_default new n d U there ∙ same))

pub results-rest : (old new : List Level) (n : ℕ) (l : Level) → ((i : ℕ) → n ≤ i → get_or new i U ≡ get_or old i U) → (i : ℕ) → n + 1 ≤ i → get_or (set new n l) i U ≡ get_or old i U
results-rest old new n l rest i past =
    let other : i ≢ n = omega arith in
    get_or-set_other new n i l U other ∙ rest i (omega arith)
