-- The entities that are cells, with one instance more.
use Rattle.std.proofs.Common.{◌≡◌, ℕ, true, false, List, [], ◌∷◌, ◌++◌, map, refl, sym, ◌∙◌, ap, append-nil, arith}
use Rattle.std.proofs.lemmas.Bool.Decides.{nat_tests}
use Rattle.std.proofs.lemmas.List.{map-append}
use Rattle.std.proofs.lemmas.List.Elements.{filter-append}
use Rattle.std.specs.Prelude.{Bool, cond, not, ◌||◌, nat_eq, filter}
use Rattle.std.specs.List.{list_any}
use Rattle.vital_nodes.specs.declared.unit.Units.{Units}
use Rattle.vital_instances.specs.declared.instance.Instance.{Instance}
use Rattle.vital_netlist.specs.Cells.{cell_entities, firsts, is_cell}

abbrev pub is_in : ℕ → List ℕ → Bool
is_in n xs = list_any (nat_eq n) xs

abbrev pub with_number : List ℕ → ℕ → List ℕ
with_number xs n = cond (is_in n xs) xs (xs ++ n ∷ [])

abbrev pub differs : ℕ → ℕ → Bool
differs m k = not (nat_eq k m)

same-number : (m n : ℕ) → nat_eq m n ≡ true → m ≡ n
same-number m n is = grind (arith, nat_tests)

pub in-filter : (n m : ℕ) (xs : List ℕ) → nat_eq n m ≡ false → is_in n (filter (differs m) xs) ≡ is_in n xs
in-filter n m [] other = refl
in-filter n m (x ∷ xs) other = by_test (nat_eq x m) refl (in-filter n m xs other)
  where
    by_test : (b : Bool) → nat_eq x m ≡ b → is_in n (filter (differs m) xs) ≡ is_in n xs → is_in n (cond (not b) (x ∷ filter (differs m) xs) (filter (differs m) xs)) ≡ (nat_eq n x || is_in n xs)
    by_test true is before = before ∙ sym (ap (λ c. c || is_in n xs) (ap (nat_eq n) (same-number x m is) ∙ other))
    by_test false is before = ap (λ c. nat_eq n x || c) before

filter-last : (m n : ℕ) (xs : List ℕ) (b : Bool) → nat_eq n m ≡ b → filter (differs m) (xs ++ n ∷ []) ≡ filter (differs m) xs ++ cond (not b) (n ∷ []) []
filter-last m n xs b is = filter-append (differs m) xs (n ∷ []) ∙ ap (λ c. filter (differs m) xs ++ cond (not c) (n ∷ []) []) is

step-by : (m n : ℕ) (xs : List ℕ) (b c : Bool) → nat_eq n m ≡ b → is_in n xs ≡ c → m ∷ filter (differs m) (cond c xs (xs ++ n ∷ [])) ≡ cond (b || is_in n (filter (differs m) xs)) (m ∷ filter (differs m) xs) ((m ∷ filter (differs m) xs) ++ n ∷ [])
step-by m n xs true true is has = refl
step-by m n xs true false is has = ap (λ l. m ∷ l) (filter-last m n xs true is ∙ append-nil (filter (differs m) xs))
step-by m n xs false true is has =
    let fs = m ∷ filter (differs m) xs in
    sym (ap (λ d. cond d fs (fs ++ n ∷ [])) (in-filter n m xs is ∙ has))
step-by m n xs false false is has =
    let fs = m ∷ filter (differs m) xs in
    ap (λ l. m ∷ l) (filter-last m n xs false is) ∙ sym (ap (λ d. cond d fs (fs ++ n ∷ [])) (in-filter n m xs is ∙ has))

firsts-more : (ns : List ℕ) (n : ℕ) → firsts (ns ++ n ∷ []) ≡ with_number (firsts ns) n
firsts-more [] n = refl
firsts-more (m ∷ ms) n = ap (λ xs. m ∷ filter (differs m) xs) (firsts-more ms n) ∙ step-by m n (firsts ms) (nat_eq n m) (is_in n (firsts ms)) refl refl

cells-among : (files : List Units) (is : List Instance) (i : Instance) (b : Bool) → is_cell files i ≡ b → map (λ (j : Instance). j.entity) (filter (is_cell files) (is ++ i ∷ [])) ≡ map (λ (j : Instance). j.entity) (filter (is_cell files) is) ++ map (λ (j : Instance). j.entity) (cond b (i ∷ []) [])
cells-among files is i b one =
    ap (map (λ (j : Instance). j.entity)) (filter-append (is_cell files) is (i ∷ []) ∙ ap (λ c. filter (is_cell files) is ++ cond c (i ∷ []) []) one)
    ∙ map-append (λ (j : Instance). j.entity) (filter (is_cell files) is) (cond b (i ∷ []) [])

-- one of a cell
pub entities-more : (files : List Units) (is : List Instance) (i : Instance) → is_cell files i ≡ true → cell_entities files (is ++ i ∷ []) ≡ with_number (cell_entities files is) i.entity
unfolding cell_entities
entities-more files is i one = ap firsts (cells-among files is i true one) ∙ firsts-more (map (λ (j : Instance). j.entity) (filter (is_cell files) is)) i.entity

-- and one of a netlist unit
pub entities-same : (files : List Units) (is : List Instance) (i : Instance) → is_cell files i ≡ false → cell_entities files (is ++ i ∷ []) ≡ cell_entities files is
unfolding cell_entities
entities-same files is i one = ap firsts (cells-among files is i false one ∙ append-nil (map (λ (j : Instance). j.entity) (filter (is_cell files) is)))
