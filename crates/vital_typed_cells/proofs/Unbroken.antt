-- What a constant of a package does not break: itself, and through the constants that it names.
use Rattle.std.proofs.Common.{◌≡◌, Bool, true, false, List, [], ◌∷◌, refl, ap, ◌∙◌}
use Rattle.std.specs.Prelude.{◌||◌}
use Rattle.std.specs.List.{AllByRecursion, fold, list_any}
use Rattle.vital_limits.specs.ConstantLimits as limits
use Rattle.vital_limits.specs.declared.packages.ConstantLimits.{ConstantLimits}
use Rattle.vital_package_constants.specs.Breaches.{breaks_any, joined}
use Rattle.vital_package_constants.specs.declared.breaches.ConstantBreaches.{ConstantBreaches}
use Rattle.vital_typed_cells.specs.Packages.{passes_any}

-- ---- clauses that are not broken

-- No clause is broken.
abbrev pub IsFree : ConstantBreaches → Type 0
IsFree b = breaks_any b ≡ false

pub first-false : (a b : Bool) → (a || b) ≡ false → a ≡ false
first-false true b is = cc
first-false false b is = refl

pub second-false : (a b : Bool) → (a || b) ≡ false → b ≡ false
second-false true b is = cc
second-false false b is = is

pub any-false : {A : Type 0} (test : A → Bool) (xs : List A) → list_any test xs ≡ false → AllByRecursion (λ x. test x ≡ false) xs
any-false test [] is = tt
any-false test (x ∷ xs) is = (first-false (test x) (list_any test xs) is, any-false test xs (second-false (test x) (list_any test xs) is))

-- The four clauses.
pub record EachFree (b : ConstantBreaches) : Type 0 where
  pub constants : b.clause_3 ≡ false
  pub calls : b.clause_14 ≡ false
  pub forms : b.clause_15 ≡ false
  pub names : b.clause_16 ≡ false

pub each-free : (b : ConstantBreaches) → IsFree b → EachFree b
each-free b free =
    let behind : (b.clause_14 || (b.clause_15 || b.clause_16)) ≡ false = second-false b.clause_3 (b.clause_14 || (b.clause_15 || b.clause_16)) free in
    let last : (b.clause_15 || b.clause_16) ≡ false = second-false b.clause_14 (b.clause_15 || b.clause_16) behind in
    record {
      constants = first-false b.clause_3 (b.clause_14 || (b.clause_15 || b.clause_16)) free;
      calls = first-false b.clause_14 (b.clause_15 || b.clause_16) behind;
      forms = first-false b.clause_15 b.clause_16 last;
      names = second-false b.clause_15 b.clause_16 last;
    }

free-by : (b : ConstantBreaches) → EachFree b → IsFree b
free-by b free =
    ap (λ x. x || (b.clause_14 || (b.clause_15 || b.clause_16))) free.constants
    ∙ ap (λ x. x || (b.clause_15 || b.clause_16)) free.calls
    ∙ ap (λ x. x || b.clause_16) free.forms
    ∙ free.names

joined-first : (a b : ConstantBreaches) → IsFree (joined a b) → IsFree a
joined-first a b free =
    let all = each-free (joined a b) free in
    free-by a (record {
      constants = first-false a.clause_3 b.clause_3 all.constants;
      calls = first-false a.clause_14 b.clause_14 all.calls;
      forms = first-false a.clause_15 b.clause_15 all.forms;
      names = first-false a.clause_16 b.clause_16 all.names;
    })

joined-second : (a b : ConstantBreaches) → IsFree (joined a b) → IsFree b
joined-second a b free =
    let all = each-free (joined a b) free in
    free-by b (record {
      constants = second-false a.clause_3 b.clause_3 all.constants;
      calls = second-false a.clause_14 b.clause_14 all.calls;
      forms = second-false a.clause_15 b.clause_15 all.forms;
      names = second-false a.clause_16 b.clause_16 all.names;
    })

-- What is joined of several breaks nothing only where each does not.
pub folded-free : {N : Type 0} (at : N → ConstantBreaches) (b : ConstantBreaches) (ns : List N) → IsFree (fold (λ c n. joined c (at n)) b ns) → IsFree b × AllByRecursion (λ n. IsFree (at n)) ns
folded-free at b [] free = (free, tt)
folded-free at b (n ∷ ns) free =
    let others = folded-free at (joined b (at n)) ns free in
    (joined-first b (at n) others.0, (joined-second b (at n) others.0, others.1))

-- ---- limits that are not passed

abbrev pub IsWithin : ConstantLimits → Type 0
IsWithin l = passes_any l ≡ false

-- The three limits.
pub record EachWithin (l : ConstantLimits) : Type 0 where
  pub rows : l.rows ≡ false
  pub columns : l.columns ≡ false
  pub delay : l.delay ≡ false

pub each-within : (l : ConstantLimits) → IsWithin l → EachWithin l
each-within l within =
    let behind : (l.columns || l.delay) ≡ false = second-false l.rows (l.columns || l.delay) within in
    record { rows = first-false l.rows (l.columns || l.delay) within; columns = first-false l.columns l.delay behind; delay = second-false l.columns l.delay behind }

pub within-by : (l : ConstantLimits) → EachWithin l → IsWithin l
within-by l within = ap (λ x. x || (l.columns || l.delay)) within.rows ∙ ap (λ x. x || l.delay) within.columns ∙ within.delay

limits-first : (a b : ConstantLimits) → IsWithin (limits.joined a b) → IsWithin a
limits-first a b within =
    let all = each-within (limits.joined a b) within in
    within-by a (record { rows = first-false a.rows b.rows all.rows; columns = first-false a.columns b.columns all.columns; delay = first-false a.delay b.delay all.delay })

limits-second : (a b : ConstantLimits) → IsWithin (limits.joined a b) → IsWithin b
limits-second a b within =
    let all = each-within (limits.joined a b) within in
    within-by b (record { rows = second-false a.rows b.rows all.rows; columns = second-false a.columns b.columns all.columns; delay = second-false a.delay b.delay all.delay })

-- What is joined of several passes no limit only where each passes none.
pub folded-within : {N : Type 0} (at : N → ConstantLimits) (l : ConstantLimits) (ns : List N) → IsWithin (fold (λ k n. limits.joined k (at n)) l ns) → IsWithin l × AllByRecursion (λ n. IsWithin (at n)) ns
folded-within at l [] within = (within, tt)
folded-within at l (n ∷ ns) within =
    let others = folded-within at (limits.joined l (at n)) ns within in
    (limits-first l (at n) others.0, (limits-second l (at n) others.0, others.1))
