-- The cells that are kept as good ones.
use Rattle.std.proofs.Common.{◌≡◌, ℕ, zero, suc, ◌<◌, List, [], ◌∷◌, set, replicate, ap, arith}
use Rattle.std.specs.Prelude.{Bool, true, false, Option, Some, None}
use Rattle.std.specs.List.{slice_get}
use Rattle.std.specs.Option.{option_and_then}
use Rattle.std.proofs.lemmas.List.{get_or-replicate, length-replicate}
use Rattle.std.proofs.lemmas.Option.{get_or_from_slice_get, slice_get_within}
use Rattle.vital_nodes.specs.declared.unit.Units.{Units}
use Rattle.vital_instances.specs.GoodCells.{AreGood, fault_at}
use Rattle.vital_instances.specs.Judges.{IsJudge, Judge}
use Rattle.vital_instances.specs.Units.{Unit, cell_of, unit_at}

-- what is said of the cell of a number
pub fault-at-is : (judge : Judge) (files : List Units) (n : ℕ) (u : Unit) → unit_at files n ≡ Some u → fault_at judge files n ≡ judge (cell_of files u)
fault-at-is judge files n u is = ap (λ (o : Option Unit). option_and_then (λ v. judge (cell_of files v)) o) is

-- none is kept at first
none-kept : (n k : ℕ) → slice_get (replicate n false) k ≡ Some true → ⊥
none-kept n k is =
    let within = slice_get_within (replicate n false) k true is in
    let size = length-replicate n false in
    let below : k < n = omega arith in
    let found = get_or_from_slice_get (replicate n false) k true true is in
    let made = get_or-replicate n k false true below in
    cc

pub none-good : (files : List Units) (n : ℕ) → AreGood files (replicate n false)
none-good files n k is judge judges = absurd (none-kept n k is)

-- one more is kept
one-more : (P : ℕ → Type 0) (marks : List Bool) (m : ℕ) → ((n : ℕ) → slice_get marks n ≡ Some true → P n) → P m → (n : ℕ) → slice_get (set marks m true) n ≡ Some true → P n
one-more P [] m each here n is = each n is
one-more P (b ∷ marks) zero each here zero is = here
one-more P (b ∷ marks) zero each here (suc n) is = each (suc n) is
one-more P (b ∷ marks) (suc m) each here zero is = each zero is
one-more P (b ∷ marks) (suc m) each here (suc n) is = one-more (λ k. P (suc k)) marks m (λ k there. each (suc k) there) here n is

pub good-more : (files : List Units) (marks : List Bool) (m : ℕ) → AreGood files marks → ((judge : Judge) → IsJudge judge → fault_at judge files m ≡ None) → AreGood files (set marks m true)
good-more files marks m each here = one-more (λ n. (judge : Judge) → IsJudge judge → fault_at judge files n ≡ None) marks m each here
