-- The cells of a design are sound, and each instance of a cell has the number of its cell.
use Rattle.std.proofs.Common.{◌≡◌, ℕ, zero, suc, ◌<◌, List, [], ◌∷◌, length, map, get_or, true, false, refl, sym, ap, subst, ◌∙◌, arith}
use Rattle.std.specs.Prelude.{Bool, cond, not, ◌||◌, nat_eq, filter, Option, Some, None, IsSome}
use Rattle.std.specs.List.{AllByRecursion, filter_map, list_any, slice_get}
use Rattle.std.specs.Option.{option_and_then, option_map, option_map_or}
use Rattle.std.proofs.lemmas.Bool.Decides.{nat_tests}
use Rattle.std.proofs.lemmas.List.Quantifiers.{position-Some}
use Rattle.std.proofs.lemmas.Option.{none-some, same_Some, slice_get-get_or}
use Rattle.vital_netlist.specs.Cells.{cell_entities, cell_number, cells, firsts, is_cell, is_lib, number_of_entity, tree_of}
use Rattle.vital_instances.specs.declared.instance.Instance.{Instance}
use Rattle.vital_instances.specs.Units.{Unit, unit_at}
use Rattle.vital_nodes.specs.declared.unit.Role.{Role}
use Rattle.vital_nodes.specs.declared.unit.Role.TheVariants.{Lib, Net}
use Rattle.vital_nodes.specs.declared.unit.Units.{Units}
use Rattle.vital_typed_cells.specs.Sound.{IsSound}
use Rattle.vital_typed_cells.specs.declared.typed_cell.TypedCell.{TypedCell}
use Rattle.vital_netlist.proofs.Lists.{any-filter, any-map, each-filter, each-from-get, each-given, each-map, each-weaker, found-at, given-get, given-length, or-first, or-right}
use Rattle.vital_netlist.proofs.UnitFacts.{Known, unit-there}
use Rattle.vital_netlist.proofs.UnitNames.{Read, tree-sound}

-- ---- first numbers

each-first : (P : ℕ → Type 0) (ns : List ℕ) → AllByRecursion P ns → AllByRecursion P (firsts ns)
each-first P [] all = tt
each-first P (n ∷ ns) all = (all.0, each-filter P (λ m. not (nat_eq m n)) (firsts ns) (each-first P ns all.1))

still-other : (n m k : ℕ) → nat_eq n m ≡ false → nat_eq n k ≡ true → not (nat_eq k m) ≡ true
still-other n m k other same = grind (arith, nat_tests)

any-first : (n : ℕ) (ns : List ℕ) → list_any (nat_eq n) ns ≡ true → list_any (nat_eq n) (firsts ns) ≡ true
any-first n [] is = absurd (cc)
any-first n (m ∷ ns) is = by-test (nat_eq n m) refl is (any-first n ns)
  where
    by-test : (b : Bool) → nat_eq n m ≡ b → (b || list_any (nat_eq n) ns) ≡ true → (list_any (nat_eq n) ns ≡ true → list_any (nat_eq n) (firsts ns) ≡ true) → list_any (nat_eq n) (m ∷ filter (λ k. not (nat_eq k m)) (firsts ns)) ≡ true
    by-test true same h rest = or-first (nat_eq n m) (list_any (nat_eq n) (filter (λ k. not (nat_eq k m)) (firsts ns))) same
    by-test false other h rest =
        or-right (nat_eq n m) (list_any (nat_eq n) (filter (λ k. not (nat_eq k m)) (firsts ns)))
        (any-filter (nat_eq n) (λ k. not (nat_eq k m)) (firsts ns) (λ k same. still-other n m k other same) (rest h))

kept-by : {A : Type 0} (P : A → Type 0) (b : Bool) (x : A) (ys : List A) → (b ≡ true → P x) → AllByRecursion P ys → AllByRecursion P (cond b (x ∷ ys) ys)
kept-by P true x ys one all = (one refl, all)
kept-by P false x ys one all = all

each-kept : {A : Type 0} (P : A → Type 0) (test : A → Bool) (xs : List A) → AllByRecursion (λ x. test x ≡ true → P x) xs → AllByRecursion P (filter test xs)
each-kept P test [] all = tt
each-kept P test (x ∷ xs) all = kept-by P (test x) x (filter test xs) all.0 (each-kept P test xs all.1)

any-get : {A : Type 0} (test : A → Bool) (xs : List A) (k : ℕ) (x : A) → slice_get xs k ≡ Some x → test x ≡ true → list_any test xs ≡ true
any-get test [] k x at is = absurd (none-some x at)
any-get test (y ∷ ys) zero x at is = or-first (test y) (list_any test ys) (ap test (same_Some y x at) ∙ is)
any-get test (y ∷ ys) (suc k) x at is = or-right (test y) (list_any test ys) (any-get test ys k x at is)

-- ---- the entities that are cells

record IsCellEntity (files : List Units) (n : ℕ) : Type 0 where
  pub unit : Unit
  pub there : unit_at files n ≡ Some unit
  pub sound : IsSound (tree_of files unit)

lib-role : (r : Role) → is_lib r ≡ true → r ≡ Lib
lib-role Lib is = refl
lib-role Net is = absurd (cc)

pub role-says : (files : List Units) (i : Instance) (u : Unit) → unit_at files i.entity ≡ Some u → is_cell files i ≡ is_lib u.role
role-says files i u there = ap (λ (o : Option Unit). option_map_or (λ (v : Unit). is_lib v.role) o false) there

same-number : (m n : ℕ) → nat_eq m n ≡ true → m ≡ n
same-number m n is = grind (arith, nat_tests)

self-number : (n : ℕ) → nat_eq n n ≡ true
self-number n = grind (arith, nat_tests)

-- the cell of an instance
pub record HasNumber (files : List Units) (found : List Instance) (i : Instance) (u : Unit) : Type 0 where
  pub number : ℕ
  pub numbered : cell_number files found i ≡ Some number
  pub below : number < length (cells files found)
  pub tree : slice_get (cells files found) number ≡ Some (tree_of files u)

module _ (files : List Units) (found : List Instance) (known : Known files found) (read : Read files) where
  cell-entity : (n : ℕ) (i : Instance) → slice_get found n ≡ Some i → is_cell files i ≡ true → IsCellEntity files i.entity
  cell-entity n i at is =
      let u = unit-there files found known n i at in
      record { unit = u.0; there = u.1; sound = tree-sound files found known read n i u.0 at u.1 (lib-role u.0.role (sym (role-says files i u.0 u.1) ∙ is)) }

  entities-are : AllByRecursion (IsCellEntity files) (cell_entities files found)
  unfolding cell_entities
  entities-are =
      each-first (IsCellEntity files) (map (λ (i : Instance). i.entity) (filter (is_cell files) found))
      (each-map (IsCellEntity files) (λ (i : Instance). i.entity) (filter (is_cell files) found)
      (each-kept (λ (i : Instance). IsCellEntity files i.entity) (is_cell files) found (each-from-get (λ (i : Instance). is_cell files i ≡ true → IsCellEntity files i.entity) found cell-entity)))

  cells-are : cells files found ≡ filter_map (λ n. option_map (tree_of files) (unit_at files n)) (cell_entities files found)
  unfolding cells
  cells-are = refl

  given-tree : (n : ℕ) → IsCellEntity files n → IsSome (option_map (tree_of files) (unit_at files n))
  given-tree n is = subst (λ (o : Option Unit). IsSome (option_map (tree_of files) o)) (sym is.there) refl

  sound-tree : (n : ℕ) → IsCellEntity files n → (c : TypedCell) → option_map (tree_of files) (unit_at files n) ≡ Some c → IsSound c
  sound-tree n is c e =
      subst IsSound (same_Some (tree_of files is.unit) c (sym (ap (option_map (tree_of files)) is.there) ∙ e)) is.sound

  -- each cell is sound
  pub cells-sound : AllByRecursion IsSound (cells files found)
  cells-sound =
      subst (AllByRecursion IsSound) (sym cells-are)
      (each-given IsSound (λ n. option_map (tree_of files) (unit_at files n)) (cell_entities files found) (each-weaker (IsCellEntity files) _ sound-tree (cell_entities files found) entities-are))

  is-entity : (n : ℕ) (i : Instance) → slice_get found n ≡ Some i → is_cell files i ≡ true → list_any (nat_eq i.entity) (cell_entities files found) ≡ true
  unfolding cell_entities
  is-entity n i at is =
      any-first i.entity (map (λ (j : Instance). j.entity) (filter (is_cell files) found))
      (any-map (nat_eq i.entity) (λ (j : Instance). j.entity) (filter (is_cell files) found)
      ∙ any-filter (λ (j : Instance). nat_eq i.entity j.entity) (is_cell files) found
      (λ j same. sym (ap (λ (e : ℕ). option_map_or (λ (v : Unit). is_lib v.role) (unit_at files e) false) (same-number i.entity j.entity same)) ∙ is)
      (any-get (λ (j : Instance). nat_eq i.entity j.entity) found n i at (self-number i.entity)))

  -- an instance of a cell has the number of its cell
  pub number-of-cell : (n : ℕ) (i : Instance) (u : Unit) → slice_get found n ≡ Some i → unit_at files i.entity ≡ Some u → is_cell files i ≡ true → HasNumber files found i u
  number-of-cell n i u at there is =
      let ns = cell_entities files found in
      let f = λ (m : ℕ). option_map (tree_of files) (unit_at files m) in
      let all = each-weaker (IsCellEntity files) (λ m. IsSome (option_map (tree_of files) (unit_at files m))) given-tree ns entities-are in
      let m = found-at (nat_eq i.entity) ns (is-entity n i at is) in
      let same = same-number i.entity (get_or ns m.0 i.entity) (position-Some (nat_eq i.entity) ns m.0 i.entity m.1).1 in
      let stands : slice_get ns m.0 ≡ Some i.entity = slice_get-get_or ns m.0 i.entity m.2 ∙ ap (λ (e : ℕ). Some e) (sym same) in
      let lengths : length (cells files found) ≡ length ns = ap length cells-are ∙ given-length f ns all in
      record {
        number = m.0;
        numbered = ap (λ b. cond b (number_of_entity files found i.entity) None) is ∙ m.1;
        below = subst (λ (l : ℕ). m.0 < l) (sym lengths) m.2;
        tree = ap (λ (cs : List TypedCell). slice_get cs m.0) cells-are ∙ given-get f ns m.0 all ∙ ap (option_and_then f) stands ∙ ap (option_map (tree_of files)) there;
      }
