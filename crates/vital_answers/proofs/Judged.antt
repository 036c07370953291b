-- What is found in cells, one after the other; there is exactly one such finding.
use Rattle.std.proofs.Common.{◌≡◌, ◌≤◌, List, [], ◌∷◌, ◌++◌, length, Some, None, Ok, Err, refl, sym, ap, ◌∙◌, arith}
use Rattle.std.specs.Prelude.{Option}
use Rattle.vital_base.specs.declared.breach.Breach.{Breach}
use Rattle.vital_level0.specs.Breaches.{HasOneFirst}
use Rattle.vital_level1.specs.Breaches.{first_breach}
use Rattle.vital_level1.specs.Verdicts.{IsLevel, IsVerdict, level_by}
use Rattle.vital_level1.specs.declared.level.CellError.TheVariants as cell_error
use Rattle.vital_level1.specs.declared.level.CellLevel.{CellLevel}
use Rattle.vital_limits.specs.CellLimits.{cell_limit}
use Rattle.vital_limits.specs.declared.passed.PassedLimit.{PassedLimit}
use Rattle.vital_names.specs.Sites.{Cell}
use Rattle.vital_answers.specs.Cells.{AreJudged}

-- one cell more
pub more : (cs : List Cell) (ls : List CellLevel) (c : Cell) (l : CellLevel) → AreJudged cs ls None → IsVerdict c (Ok l) → AreJudged (cs ++ c ∷ []) (ls ++ l ∷ []) None
more [] [] c l are is = (is, tt)
more [] (m ∷ ms) c l are is = absurd are
more (x ∷ xs) [] c l are is = absurd are
more (x ∷ xs) (m ∷ ms) c l are is = (are.0, more xs ms c l are.1 is)

-- the first cell that passes a limit is the last that is judged
pub ended : (cs others : List Cell) (ls : List CellLevel) (c : Cell) (p : PassedLimit) → AreJudged cs ls None → IsVerdict c (Err (cell_error.Limit p)) → AreJudged (cs ++ c ∷ others) ls (Some p)
ended [] others [] c p are is = is
ended [] others (m ∷ ms) c p are is = absurd are
ended (x ∷ xs) others [] c p are is = absurd are
ended (x ∷ xs) others (m ∷ ms) c p are is = (are.0, ended xs others ms c p are.1 is)

pub at_most : (cs : List Cell) (ls : List CellLevel) (limit : Option PassedLimit) → AreJudged cs ls limit → length ls ≤ length cs
at_most [] [] limit are = omega arith
at_most [] (l ∷ ls) limit are = absurd are
at_most (c ∷ cs) [] limit are = omega arith
at_most (c ∷ cs) (l ∷ ls) limit are = let others = at_most cs ls limit are.1 in omega (arith, others)

-- ---- one finding

one_level : HasOneFirst → (c : Cell) (a b : CellLevel) → IsLevel c a → IsLevel c b → b ≡ a
one_level one c a b is also =
    let first = one c.entity in
    let same : also.0 ≡ is.0 = first.2 also.0 also.1 ∙ sym (first.2 is.0 is.1) in
    also.2 ∙ ap (λ (f : Option Breach). level_by f (first_breach c)) same ∙ sym is.2

not_both : (c : Cell) (p : PassedLimit) → cell_limit c ≡ None → cell_limit c ≡ Some p → ⊥
not_both c p none some = let e : None ≡ Some p = sym none ∙ some in cc

pub one_finding : HasOneFirst → (cs : List Cell) (ls ms : List CellLevel) (a b : Option PassedLimit) → AreJudged cs ls a → AreJudged cs ms b → (ms ≡ ls) × (b ≡ a)
one_finding one [] [] [] None None are also = (refl, refl)
one_finding one [] [] [] None (Some q) are also = absurd also
one_finding one [] [] [] (Some p) b are also = absurd are
one_finding one [] [] (m ∷ ms) a b are also = absurd also
one_finding one [] (l ∷ ls) ms a b are also = absurd are
one_finding one (c ∷ cs) [] ms None b are also = absurd are
one_finding one (c ∷ cs) [] [] (Some p) None are also = absurd also
one_finding one (c ∷ cs) [] [] (Some p) (Some q) are also = (refl, sym also ∙ are)
one_finding one (c ∷ cs) [] (m ∷ ms) (Some p) b are also = absurd (not_both c p also.0.0 are)
one_finding one (c ∷ cs) (l ∷ ls) [] a None are also = absurd also
one_finding one (c ∷ cs) (l ∷ ls) [] a (Some q) are also = absurd (not_both c q are.0.0 also)
one_finding one (c ∷ cs) (l ∷ ls) (m ∷ ms) a b are also =
    let others = one_finding one cs ls ms a b are.1 also.1 in
    let first = one_level one c l m are.0.1 also.0.1 in
    (ap (λ (x : CellLevel). x ∷ ms) first ∙ ap (λ (xs : List CellLevel). l ∷ xs) others.0, others.1)

-- ---- there is one

abbrev Finding : List Cell → Type 0
Finding cs = (ls : List CellLevel) × (limit : Option PassedLimit) × AreJudged cs ls limit

some_first : HasOneFirst → (c : Cell) (cs : List Cell) → Finding cs → (o : Option PassedLimit) → cell_limit c ≡ o → Finding (c ∷ cs)
some_first one c cs others (Some p) is = ([], Some p, is)
some_first one c cs others None is =
    let first = one c.entity in
    let level = level_by first.0 (first_breach c) in
    (level ∷ others.0, others.1, ((is, (first.0, first.1, refl)), others.2))

pub some_finding : HasOneFirst → (cs : List Cell) → (ls : List CellLevel) × (limit : Option PassedLimit) × AreJudged cs ls limit
some_finding one [] = ([], None, tt)
some_finding one (c ∷ cs) = some_first one c cs (some_finding one cs) (cell_limit c) refl
