-- There is one judge of cells.
use Rattle.std.proofs.Common.{◌≡◌, Some, None, refl, sym, ap, ◌∙◌, inl, inr}
use Rattle.std.specs.Prelude.{Option}
use Rattle.std.proofs.Math.Path.{fun_ext}
use Rattle.vital_base.specs.declared.breach.Breach.{Breach}
use Rattle.vital_level0.specs.Breaches.{HasOneFirst}
use Rattle.vital_level1.specs.Breaches.{first_breach}
use Rattle.vital_level1.specs.Verdicts.{IsLevel, level_by}
use Rattle.vital_level1.specs.declared.level.CellLevel.{CellLevel}
use Rattle.vital_level1.specs.declared.level.CellLevel.TheVariants.{Level1, Level0, Neither}
use Rattle.vital_limits.specs.CellLimits.{cell_limit}
use Rattle.vital_limits.specs.declared.passed.PassedLimit.{PassedLimit}
use Rattle.vital_names.specs.Sites.{Cell}
use Rattle.vital_instances.specs.declared.cell_fault.CellFault.{CellFault}
use Rattle.vital_instances.specs.declared.cell_fault.CellFault.TheVariants.{Limit, Broken}
use Rattle.vital_instances.specs.Judges.{IsFaultOf, IsJudge, IsSaidOf, Judge}

one_level : HasOneFirst → (c : Cell) (a b : CellLevel) → IsLevel c a → IsLevel c b → a ≡ b
one_level one c a b is also =
    let first = one c.entity in
    let same : is.0 ≡ also.0 = first.2 is.0 is.1 ∙ sym (first.2 also.0 also.1) in
    is.2 ∙ ap (λ (f : Option Breach). level_by f (first_breach c)) same ∙ sym also.2

-- ---- the fault of a limit and a level

by_level : CellLevel → Option CellFault
by_level Level1 = None
by_level (Level0 b) = Some (Broken b)
by_level (Neither b) = Some (Broken b)

by_limit : Option PassedLimit → CellLevel → Option CellFault
by_limit None of_cell = by_level of_cell
by_limit (Some l) of_cell = Some (Limit l)

-- the fault of a cell of this level
fault_is : HasOneFirst → (c : Cell) (level : CellLevel) → IsLevel c level → (f : Option CellFault) → IsFaultOf c f → f ≡ by_limit (cell_limit c) level
unfolding by_level by_limit
fault_is one c level is None said =
    sym (ap (λ l. by_limit l level) said.0 ∙ ap by_level (one_level one c level Level1 is said.1))
fault_is one c level is (Some (Limit l)) said = sym (ap (λ m. by_limit m level) said)
fault_is one c level is (Some (Broken b)) (inl said) =
    sym (ap (λ l. by_limit l level) said.0 ∙ ap by_level (one_level one c level (Level0 b) is said.1))
fault_is one c level is (Some (Broken b)) (inr said) =
    sym (ap (λ l. by_limit l level) said.0 ∙ ap by_level (one_level one c level (Neither b) is said.1))

-- ---- a level of each cell

level_found : HasOneFirst → Cell → CellLevel
level_found one c = level_by (one c.entity).0 (first_breach c)

is_level : (one : HasOneFirst) (c : Cell) → IsLevel c (level_found one c)
unfolding level_found
is_level one c = ((one c.entity).0, (one c.entity).1, refl)

-- whoever judges by the clauses says of a cell what is found
pub said-of : HasOneFirst → (c : Cell) (f : Option CellFault) → IsFaultOf c f → IsSaidOf c f
said-of one c f is judge judges =
    let level = level_found one c in
    let at = is_level one c in
    fault_is one c level at (judge c) (judges c) ∙ sym (fault_is one c level at f is)

-- ---- a judge

-- a cell with this limit and of this level has this fault
found-is : (c : Cell) (limit : Option PassedLimit) (level : CellLevel) → cell_limit c ≡ limit → IsLevel c level → IsFaultOf c (by_limit limit level)
unfolding by_level by_limit
found-is c None Level1 limit is = (limit, is)
found-is c None (Level0 b) limit is = inl (limit, is)
found-is c None (Neither b) limit is = inr (limit, is)
found-is c (Some l) of_cell limit is = limit

pub judge_by : HasOneFirst → Judge
judge_by one c = by_limit (cell_limit c) (level_found one c)

pub judges : (one : HasOneFirst) → IsJudge (judge_by one)
unfolding judge_by
judges one c = found-is c (cell_limit c) (level_found one c) refl (is_level one c)

-- there is no other judge
pub same-judge : HasOneFirst → (a b : Judge) → IsJudge a → IsJudge b → a ≡ b
same-judge one a b is also = fun_ext (λ c. said-of one c (b c) (also c) a is)
